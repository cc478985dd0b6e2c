-- One run more of the bytes that are scanned.
use Rattle.std.proofs.Common.{ℕ, zero, suc, ◌+◌, ◌-◌, ◌<◌, ◌≤◌, ◌≡◌, ◌⊎◌, Bool, true, false, Option, Some, None, Result, Ok, Err, set, inl, inr, List, [], ◌∷◌, ◌++◌, length, take, drop, get_or, refl, sym, ◌∙◌, ap, subst, arith, append_assoc, append-nil}
use Rattle.std.specs.Bool.{nat_lt}
use Rattle.std.specs.List.{All}
use Rattle.std.proofs.lemmas.Bool.Decides.{nat_tests}
use Rattle.std.specs.Option.{IfSome}
use Rattle.std.specs.Result.{OnErr}
use Rattle.std.proofs.lemmas.Bool.{cases_eq}
use Rattle.std.proofs.lemmas.List.{same_lists, length-set, get_or-set_same, get_or-set_other, get_or-take, get_or_default, take_more, take_all, length-take-le, get_or-drop, length-drop}
use Rattle.std.proofs.lemmas.List.Elements.{All-nil, All-cons, All-append}
use Rattle.wz_plan.specs.declared.runs.Run.{Run}
use Rattle.wz_plan.specs.Ranges.{end_of, gap_between, RisesFrom, EndsBy, with_first, with_gaps_merged}
use Rattle.wz_plan.specs.Plan.{nonzero_places, runs_at}
use Rattle.wz_plan.specs.Scanned.{IsFirstRun, merged}
use Rattle.wz_plan.specs.Collected.{added, last_gap, KeepsFront}
use Rattle.wz_plan.proofs.JoinLemmas.{end-hull, joined-push, joined-append_joined}
use Rattle.wz_plan.proofs.AddLemmas.{added-alone, added-by_gap}
use Rattle.wz_plan.proofs.PlaceLemmas.{rises_lower, rises_places, places-append}
use Rattle.wz_plan.proofs.PlanLemmas.{merged-append_runs, rises_runs}

pub long_is_not_empty : (gap : Run) → nat_lt 8 gap.len ≡ true → nat_lt 0 gap.len ≡ true
long_is_not_empty gap e = grind (arith, nat_tests)

pub rises_weaker : (more apart low : ℕ) (xs : List Run) → apart ≤ more → RisesFrom more low xs → RisesFrom apart low xs
rises_weaker more apart low [] h rises = tt
rises_weaker more apart low (x ∷ xs) h rises =
    (rises.0, rises_weaker more apart (end_of x + apart) xs h (rises_lower more (end_of x + more) (end_of x + apart) xs (omega arith) rises.1))

pub rises-append : (low high : ℕ) (xs ys : List Run)
    → RisesFrom 0 low xs → EndsBy high xs → low ≤ high → RisesFrom 0 high ys → RisesFrom 0 low (xs ++ ys)
rises-append low high [] ys rises ends h behind = rises_lower 0 high low ys h behind
rises-append low high (x ∷ xs) ys rises ends h behind =
    let here : end_of x ≤ high = ends 0 x (omega arith) in
    (rises.0, rises-append (end_of x + 0) high xs ys rises.1 (λ k d small. ends (suc k) d (omega arith)) (omega arith) behind)

pub ends_higher : (low high : ℕ) (xs : List Run) → low ≤ high → EndsBy low xs → EndsBy high xs
ends_higher low high xs h ends k d small = let here = ends k d small in omega arith

-- ranges with long gaps stay as they are
pub merged-apart : (low : ℕ) (xs : List Run) → RisesFrom 9 low xs → merged xs ≡ xs
unfolding merged
merged-apart low [] h = refl
merged-apart low (x ∷ xs) h = ap (with_first (λ gap. nat_lt 8 gap.len) x) (merged-apart (end_of x + 9) xs h.1) ∙ in_front x xs h.1
  where
    in_front : (x : Run) (ys : List Run) → RisesFrom 9 (end_of x + 9) ys → with_first (λ gap. nat_lt 8 gap.len) x ys ≡ x ∷ ys
    in_front x [] rises = refl
    in_front x (y ∷ ys) rises =
        let long : nat_lt 8 (y.at - end_of x) ≡ true = grind (arith, nat_tests) in
        rw long

pub merged-none : (xs : List Run) → RisesFrom 9 0 xs → xs ≡ merged (xs ++ [])
merged-none xs h = sym (ap merged (append-nil xs) ∙ merged-apart 0 xs h)

-- the places of non-zero bytes, one after the other
units : ℕ → ℕ → List Run
units at zero = []
units at (suc count) = record { at = at; len = 1 } ∷ units (at + 1) count

rises_units : (at count : ℕ) → RisesFrom 0 at (units at count)
unfolding units
rises_units at zero = tt
rises_units at (suc count) = (omega arith, rises_lower 0 (at + 1) (at + 1 + 0) (units (at + 1) count) (omega arith) (rises_units (at + 1) count))

joined-units : (at count : ℕ) → with_gaps_merged (λ gap. nat_lt 0 gap.len) (units at (suc count)) ≡ record { at = at; len = suc count } ∷ []
unfolding units
joined-units at zero = refl
joined-units at (suc count) =
    let first : Run = record { at = at; len = 1 } in
    let none : nat_lt 0 (at + 1 - (at + 1)) ≡ false = grind (arith, nat_tests) in
    let size : at + 1 + suc count - at ≡ suc (suc count) = omega arith in
    ap (with_first (λ gap. nat_lt 0 gap.len) first) (joined-units (at + 1) count)
    ∙ rw (none, size)

place_of_nonzero : (at byte : ℕ) → (byte ≡ 0 → ⊥) → nonzero_places at (byte ∷ []) ≡ record { at = at; len = 1 } ∷ []
place_of_nonzero at zero h = absurd (h refl)
place_of_nonzero at (suc byte) h = refl

place_of_zero : (at byte : ℕ) → byte ≡ 0 → nonzero_places at (byte ∷ []) ≡ []
place_of_zero at byte e = rw e

places-push : (at : ℕ) (bytes : List ℕ) (i : ℕ) → i < length bytes
    → nonzero_places at (take (i + 1) bytes) ≡ nonzero_places at (take i bytes) ++ nonzero_places (at + i) (get_or bytes i 0 ∷ [])
places-push at bytes i h =
    ap (nonzero_places at) (take_more bytes i 0 h)
    ∙ places-append at (at + i) (take i bytes) (get_or bytes i 0 ∷ []) (omega (arith, length-take-le i bytes (omega arith)))

-- zeros add no place
zeros_add_none : (at : ℕ) (bytes : List ℕ) (i count : ℕ) → i + count ≤ length bytes
    → ((k : ℕ) → i ≤ k → k < i + count → get_or bytes k 0 ≡ 0)
    → nonzero_places at (take (i + count) bytes) ≡ nonzero_places at (take i bytes)
zeros_add_none at bytes i zero h zeros = let e : i + 0 ≡ i = omega arith in ap (λ n. nonzero_places at (take n bytes)) e
zeros_add_none at bytes i (suc count) h zeros =
    let e : i + suc count ≡ i + count + 1 = omega arith in
    ap (λ n. nonzero_places at (take n bytes)) e
    ∙ places-push at bytes (i + count) (omega arith)
    ∙ ap (λ l. nonzero_places at (take (i + count) bytes) ++ l) (place_of_zero (at + (i + count)) (get_or bytes (i + count) 0) (zeros (i + count) (omega arith) (omega arith)))
    ∙ append-nil (nonzero_places at (take (i + count) bytes))
    ∙ zeros_add_none at bytes i count (omega arith) (λ k low high. zeros k low (omega arith))

-- a run adds its places
run_adds_units : (at : ℕ) (bytes : List ℕ) (i count : ℕ) → i + count ≤ length bytes
    → ((k : ℕ) → i ≤ k → k < i + count → get_or bytes k 0 ≡ 0 → ⊥)
    → nonzero_places at (take (i + count) bytes) ≡ nonzero_places at (take i bytes) ++ units (at + i) count
unfolding units
run_adds_units at bytes i zero h nonzero =
    let e : i + 0 ≡ i = omega arith in
    ap (λ n. nonzero_places at (take n bytes)) e ∙ sym (append-nil (nonzero_places at (take i bytes)))
run_adds_units at bytes i (suc count) h nonzero =
    let e : i + suc count ≡ i + 1 + count = omega arith in
    let next : at + (i + 1) ≡ at + i + 1 = omega arith in
    ap (λ n. nonzero_places at (take n bytes)) e
    ∙ run_adds_units at bytes (i + 1) count (omega arith) (λ k low high. nonzero k (omega arith) (omega arith))
    ∙ ap (λ l. l ++ units (at + (i + 1)) count)
    (places-push at bytes i (omega arith)
    ∙ ap (λ l. nonzero_places at (take i bytes) ++ l) (place_of_nonzero (at + i) (get_or bytes i 0) (nonzero i (omega arith) (omega arith))))
    ∙ ap (λ n. (nonzero_places at (take i bytes) ++ record { at = at + i; len = 1 } ∷ []) ++ units n count) next
    ∙ append_assoc (nonzero_places at (take i bytes)) (record { at = at + i; len = 1 } ∷ []) (units (at + i + 1) count)

pub ends_places : (at : ℕ) (bytes : List ℕ) → EndsBy (at + length bytes) (nonzero_places at bytes)
ends_places at [] = All-nil (λ range. end_of range ≤ at + 0)
ends_places at (zero ∷ bytes) = ends_higher (at + 1 + length bytes) (at + suc (length bytes)) (nonzero_places (at + 1) bytes) (omega arith) (ends_places (at + 1) bytes)
ends_places at (suc byte ∷ bytes) =
    All-cons (λ range. end_of range ≤ at + suc (length bytes)) record { at = at; len = 1 } (nonzero_places (at + 1) bytes) (omega arith)
    (ends_higher (at + 1 + length bytes) (at + suc (length bytes)) (nonzero_places (at + 1) bytes) (omega arith) (ends_places (at + 1) bytes))

-- the next run joins what was found, or stands behind it
pub merged-next_run : (old : List Run) (at : ℕ) (bytes : List ℕ) (from : ℕ) (run : Run)
    → RisesFrom 9 0 old → EndsBy at old → from ≤ length bytes → IsFirstRun bytes from run
    → merged (old ++ nonzero_places at (take (end_of run) bytes))
    ≡ added (λ gap. nat_lt 8 gap.len) (merged (old ++ nonzero_places at (take from bytes))) record { at = at + run.at; len = run.len }
unfolding merged units
merged-next_run old at bytes from run rises ends in_bytes first =
    let begins = first.begins in
    let within = first.within in
    let not_empty = first.not_empty in
    let gap : from + (run.at - from) ≡ run.at = omega arith in
    let size : run.len ≡ suc (run.len - 1) = omega arith in
    let skipped : nonzero_places at (take run.at bytes) ≡ nonzero_places at (take from bytes) =
    ap (λ n. nonzero_places at (take n bytes)) (sym gap)
    ∙ zeros_add_none at bytes from (run.at - from) (omega arith) (λ k low high. first.zero_before k low (omega arith)) in
    let front : List Run = old ++ nonzero_places at (take run.at bytes) in
    let whole : Run = record { at = at + run.at; len = run.len } in
    let in_units : nonzero_places at (take (end_of run) bytes) ≡ nonzero_places at (take run.at bytes) ++ units (at + run.at) run.len =
    run_adds_units at bytes run.at run.len within (λ k low high. first.nonzero k low high) in
    let as_one : with_gaps_merged (λ gap. nat_lt 0 gap.len) (units (at + run.at) run.len) ≡ whole ∷ [] =
    ap (λ n. with_gaps_merged (λ gap. nat_lt 0 gap.len) (units (at + run.at) n)) size
    ∙ joined-units (at + run.at) (run.len - 1)
    ∙ ap (λ (n : ℕ). let range : Run = record { at = at + run.at; len = n } in range ∷ []) (sym size) in
    let front_ends : EndsBy (at + run.at) front =
    All-append (λ range. end_of range ≤ at + run.at) old (nonzero_places at (take run.at bytes))
    (ends_higher at (at + run.at) old (omega arith) ends)
    (ends_higher (at + length (take run.at bytes)) (at + run.at) (nonzero_places at (take run.at bytes))
    (omega (arith, length-take-le run.at bytes (omega arith))) (ends_places at (take run.at bytes))) in
    let front_rises : RisesFrom 0 0 front =
    rises-append 0 at old (nonzero_places at (take run.at bytes)) (rises_weaker 9 0 0 old (omega arith) rises) ends (omega arith) (rises_places at (take run.at bytes)) in
    let all_rises : RisesFrom 0 0 (front ++ whole ∷ []) =
    rises-append 0 (at + run.at) front (whole ∷ []) front_rises front_ends (omega arith) (omega arith, tt) in
    ap (λ l. with_gaps_merged (λ gap. nat_lt 8 gap.len) (old ++ l)) in_units
    ∙ ap (with_gaps_merged (λ gap. nat_lt 8 gap.len)) (sym (append_assoc old (nonzero_places at (take run.at bytes)) (units (at + run.at) run.len)))
    ∙ sym (joined-append_joined (λ gap. nat_lt 8 gap.len) (λ gap. nat_lt 0 gap.len) (at + run.at) front (units (at + run.at) run.len)
    long_is_not_empty (rises_units (at + run.at) run.len))
    ∙ ap (λ l. with_gaps_merged (λ gap. nat_lt 8 gap.len) (front ++ l)) as_one
    ∙ joined-push (λ gap. nat_lt 8 gap.len) 0 front whole all_rises
    ∙ ap (λ l. added (λ gap. nat_lt 8 gap.len) (with_gaps_merged (λ gap. nat_lt 8 gap.len) (old ++ l)) whole) skipped

-- where no run is left, nothing is
pub merged-no_run : (old : List Run) (at : ℕ) (bytes : List ℕ) (from : ℕ)
    → from ≤ length bytes → All (λ byte. byte ≡ 0) (drop from bytes)
    → merged (old ++ nonzero_places at (take from bytes)) ≡ merged (old ++ runs_at at bytes)
merged-no_run old at bytes from in_bytes zeros =
    let size : from + (length bytes - from) ≡ length bytes = omega arith in
    let zero_at = λ (k : ℕ) (low : from ≤ k) (high : k < length bytes).
    let place : from + (k - from) ≡ k = omega arith in
    ap (λ n. get_or bytes n 0) (sym place) ∙ sym (get_or-drop from bytes (k - from) 0)
    ∙ zeros (k - from) 0 (omega (arith, length-drop from bytes)) in
    let none : nonzero_places at (take (from + (length bytes - from)) bytes) ≡ nonzero_places at (take from bytes) =
    zeros_add_none at bytes from (length bytes - from) (omega arith) (λ k low high. zero_at k low (omega arith)) in
    let all : take (from + (length bytes - from)) bytes ≡ bytes = take_all (from + (length bytes - from)) bytes (omega arith) in
    ap (λ l. merged (old ++ l)) (sym none ∙ ap (nonzero_places at) all) ∙ sym (merged-append_runs old at bytes)

-- the code's test decides as the gap does
pub added-if : (cut : Run → Bool) (b : Bool) (xs : List Run) (range : Run)
    → IfSome (last_gap xs range) (λ gap. b ≡ cut gap) → added (λ _. b) xs range ≡ added cut xs range
added-if cut b xs range decides = by_gap (last_gap xs range) refl decides
  where
    by_gap : (gap : Option Run) → last_gap xs range ≡ gap → IfSome gap (λ gap. b ≡ cut gap) → added (λ _. b) xs range ≡ added cut xs range
    by_gap None e f = added-alone (λ _. b) cut xs range e
    by_gap (Some gap) e f = added-by_gap cut b xs range gap e (sym f)

pub added-if_read : (cut : Run → Bool) (b : Bool) (xs ys : List Run) (range : Run)
    → ys ≡ xs → IfSome (last_gap ys range) (λ gap. b ≡ cut gap) → added (λ _. b) xs range ≡ added cut xs range
added-if_read cut b xs ys range e decides =
    added-if cut b xs range (subst (λ l. IfSome (last_gap l range) (λ gap. b ≡ cut gap)) e decides)

pub keeps_on : (old mid new : List Run) → KeepsFront old mid → KeepsFront mid new → KeepsFront old new
keeps_on old mid new first second =
    let one = first.longer in
    let two = second.longer in
    record { longer = omega arith; same = λ k d h. second.same k d (omega arith) ∙ first.same k d h }

pub keeps_same : (old new : List Run) → new ≡ old → KeepsFront old new
keeps_same old new e = record { longer = omega (arith, ap length e); same = λ k d h. ap (λ l. get_or l k d) e }

below_last : (k n : ℕ) → k < n → (k ≡ n - 1 → ⊥) → k + 1 < n
below_last k n h apart = omega arith

-- the last of the old ranges put back behind the others
pub restored : (old new : List Run) (last : Run) → KeepsFront old new → 0 < length old → last ≡ get_or old (length old - 1) last
    → set (take (length old) new) (length old - 1) last ≡ old
restored old new last keeps some read =
    let longer = keeps.longer in
    let cut : length (take (length old) new) ≡ length old = length-take-le (length old) new longer in
    same_lists _ _ (length-set (take (length old) new) (length old - 1) last ∙ cut)
    (λ k d h. by_place k d (cases_eq k (length old - 1)) (omega (arith, length-set (take (length old) new) (length old - 1) last)))
  where
    by_place : (k : ℕ) (d : Run) → (k ≡ length old - 1) ⊎ (k ≡ length old - 1 → ⊥) → k < length old
        → get_or (set (take (length old) new) (length old - 1) last) k d ≡ get_or old k d
    by_place k d (inl e) h =
        let longer = keeps.longer in
        let there : length old - 1 < length (take (length old) new) = omega (arith, length-take-le (length old) new longer) in
        ap (λ n. get_or (set (take (length old) new) (length old - 1) last) n d) e
        ∙ get_or-set_same (take (length old) new) (length old - 1) last d there
        ∙ read ∙ get_or_default old (length old - 1) last d (omega arith)
        ∙ ap (λ n. get_or old n d) (sym e)
    by_place k d (inr apart) h =
        get_or-set_other (take (length old) new) (length old - 1) k last d apart
        ∙ get_or-take (length old) new k d h
        ∙ keeps.same k d (below_last k (length old) h apart)

-- ranges that are left where only gaps above n are cut are so far apart
in_front : (n : ℕ) (cut : Run → Bool) (low : ℕ) (x : Run) (ys : List Run) → ((gap : Run) → cut gap ≡ true → nat_lt n gap.len ≡ true)
    → low ≤ x.at → RisesFrom (n + 1) (end_of x) ys → RisesFrom (n + 1) low (with_first cut x ys)
in_front n cut low x [] long h rest = (h, tt)
in_front n cut low x (y ∷ ys) long h rest = by_gap (cut (gap_between x y)) refl
  where
    by_gap : (b : Bool) → cut (gap_between x y) ≡ b → RisesFrom (n + 1) low (with_first cut x (y ∷ ys))
    by_gap true e =
        let test = long (gap_between x y) e in
        let apart : end_of x + (n + 1) ≤ y.at = grind (arith, nat_tests) in
        rw e (h, (apart, rest.1))
    by_gap false e = rw e (h, subst (λ m. RisesFrom (n + 1) (m + (n + 1)) ys) (sym (end-hull x y (omega arith))) rest.1)

pub rises_cut : (n : ℕ) (cut : Run → Bool) (low : ℕ) (xs : List Run) → ((gap : Run) → cut gap ≡ true → nat_lt n gap.len ≡ true)
    → RisesFrom 0 low xs → RisesFrom (n + 1) low (with_gaps_merged cut xs)
rises_cut n cut low [] long h = tt
rises_cut n cut low (x ∷ xs) long h =
    in_front n cut low x (with_gaps_merged cut xs) long h.0
    (rises_lower (n + 1) (end_of x + 0) (end_of x) (with_gaps_merged cut xs) (omega arith) (rises_cut n cut (end_of x + 0) xs long h.1))

pub rises_merged : (low : ℕ) (xs : List Run) → RisesFrom 0 low xs → RisesFrom 9 low (merged xs)
unfolding merged
rises_merged low xs h = rises_cut 8 (λ gap. nat_lt 8 gap.len) low xs (λ gap long. long) h

pub scan_rises : (old : List Run) (at : ℕ) (bytes : List ℕ) → RisesFrom 9 0 old → EndsBy at old → RisesFrom 9 0 (merged (old ++ runs_at at bytes))
scan_rises old at bytes rises ends =
    rises_merged 0 (old ++ runs_at at bytes)
    (rises-append 0 at old (runs_at at bytes) (rises_weaker 9 0 0 old (omega arith) rises) ends (omega arith) (rises_runs at bytes))

pub on_err : {T E : Type 0} (r : Result T E) (P : Type 0) → P → OnErr r P
on_err (Ok x) P p = tt
on_err (Err e) P p = p
