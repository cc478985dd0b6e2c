-- The chosen ranges, written one after another over zeros with the memories' own bytes, make the memories again.
use Rattle.std.proofs.Common.{◌≡◌, ℕ, zero, suc, ◌+◌, ◌-◌, ◌*◌, ◌<◌, ◌≤◌, ◌⊎◌, inl, inr, List, [], ◌∷◌, ◌++◌, length, map, get_or, replicate, Option, Some, slice_get, option_map, refl, sym, ap, subst, ◌∙◌, arith}
use Rattle.std.specs.List.{zip}
use Rattle.std.proofs.Math.ListN.{length-replicate, length-map}
use Rattle.std.proofs.lemmas.Bool.{cases_eq}
use Rattle.std.proofs.lemmas.List.{get_or-replicate}
use Rattle.std.proofs.lemmas.Grind.{same_number_lists}
use Rattle.std.proofs.lemmas.Option.{slice_get-map}
use Rattle.wz_types.specs.declared.types.MemType.{MemType}
use Rattle.wz_linear.specs.Bytes.{part, written}
use Rattle.wz_linear.proofs.WriteLemmas.{length-written, length-part, get_or-part, get_or-written_below, get_or-written_above, get_or-written_inside, by_range}
use Rattle.wz_plan.specs.declared.runs.Run.{Run}
use Rattle.wz_plan.specs.Plan.{plan, IsInOne}
use Rattle.wz_plan.specs.Laws.{PlanCovers}
use Rattle.wz_store.specs.State.{Memory, pages_of, page_size}
use Rattle.wz_store.specs.Made.{new_memory}
use Rattle.wz_store.specs.Changes.{altered, with_bytes}
use Rattle.wz_store.proofs.ChangeLemmas.{length-altered}
use Rattle.wz_snapshot.specs.declared.segment.ChosenSegment.{ChosenSegment}
use Rattle.wz_snapshot.specs.Recorded.{chosen_segment, chosen_from, chosen_segments, memory_limit}
use Rattle.wz_rewrite.specs.Parts.{memory_of_size}
use Rattle.wz_top.proofs.FreshRunLemmas.{AreWhole}

-- ---- one item of an altered list

altered_same : {A : Type 0} (alter : A → A) (xs : List A) (i : ℕ) (x : A) → slice_get xs i ≡ Some x → slice_get (altered alter xs i) i ≡ Some (alter x)
altered_same alter [] i x h = absurd (cc h)
altered_same alter (y ∷ xs) zero x h = let same : y ≡ x = cc h in ap (λ z. Some (alter z)) same
altered_same alter (y ∷ xs) (suc i) x h = altered_same alter xs i x h

altered_other : {A : Type 0} (alter : A → A) (xs : List A) (i k : ℕ) → (i ≡ k → ⊥) → slice_get (altered alter xs i) k ≡ slice_get xs k
altered_other alter [] i k h = refl
altered_other alter (y ∷ xs) zero zero h = absurd (h refl)
altered_other alter (y ∷ xs) zero (suc k) h = refl
altered_other alter (y ∷ xs) (suc i) zero h = refl
altered_other alter (y ∷ xs) (suc i) (suc k) h = altered_other alter xs i k (λ e. h (ap suc e))

-- ---- how near memories are

-- the place lies in a chosen range of the memory of this number
abbrev pub IsInChosen : ℕ → List ChosenSegment → ℕ → Type 0
IsInChosen number [] place = ⊥
IsInChosen number (segment ∷ chosen) place =
    ((segment.memory ≡ number) × (segment.at ≤ place) × (place < segment.at + segment.len)) ⊎ IsInChosen number chosen place

-- a memory of the same size and maximum, whose bytes are right but for those that are still to be written
pub record IsNear (chosen : List ChosenSegment) (number : ℕ) (now target : Memory) : Type 0 where
  pub maximum : now.maximum ≡ target.maximum
  pub size : length now.bytes ≡ length target.bytes
  pub places : (place : ℕ) → place < length target.bytes → (get_or now.bytes place 0 ≡ get_or target.bytes place 0) ⊎ IsInChosen number chosen place

pub record AreNear (targets : List Memory) (chosen : List ChosenSegment) (now : List Memory) : Type 0 where
  pub many : length now ≡ length targets
  pub each : (number : ℕ) (target : Memory) → slice_get targets number ≡ Some target
      → (memory : Memory) × (slice_get now number ≡ Some memory) × IsNear chosen number memory target

-- ---- a range is written

range_place : (segment : ChosenSegment) (chosen : List ChosenSegment) (now target : Memory) (place : ℕ) → segment.at + segment.len ≤ length target.bytes
    → length now.bytes ≡ length target.bytes
    → (get_or now.bytes place 0 ≡ get_or target.bytes place 0) ⊎ IsInChosen segment.memory (segment ∷ chosen) place
    → (get_or (written now.bytes segment.at (part target.bytes segment.at segment.len)) place 0 ≡ get_or target.bytes place 0) ⊎ IsInChosen segment.memory chosen place
range_place segment chosen now target place within size old =
    let bytes = part target.bytes segment.at segment.len in
    let long = length-part target.bytes segment.at segment.len within in
    let fits : segment.at + length bytes ≤ length now.bytes = omega (arith, long, within, size) in
    by_range place segment.at (length bytes)
    (λ low. apart old (λ i. omega (arith, low, i.1)) (get_or-written_below now.bytes segment.at bytes place 0 fits low))
    (λ low high. inl
    (get_or-written_inside now.bytes segment.at bytes place 0 fits low high
    ∙ get_or-part target.bytes segment.at segment.len (place - segment.at) 0 (omega (arith, low, high, long))
    ∙ ap (λ (n : ℕ). get_or target.bytes n 0) (omega (arith, low))))
    (λ high. apart old (λ i. omega (arith, high, long, i.2)) (get_or-written_above now.bytes segment.at bytes place 0 fits high))
  where
    apart : {new : ℕ} → (get_or now.bytes place 0 ≡ get_or target.bytes place 0) ⊎ IsInChosen segment.memory (segment ∷ chosen) place
        → ((segment.memory ≡ segment.memory) × (segment.at ≤ place) × (place < segment.at + segment.len) → ⊥) → new ≡ get_or now.bytes place 0
        → (new ≡ get_or target.bytes place 0) ⊎ IsInChosen segment.memory chosen place
    apart (inl same) out stays = inl (stays ∙ same)
    apart (inr (inl inside)) out stays = absurd (out inside)
    apart (inr (inr later)) out stays = inr later

written_near : (segment : ChosenSegment) (chosen : List ChosenSegment) (now target : Memory) → segment.at + segment.len ≤ length target.bytes
    → IsNear (segment ∷ chosen) segment.memory now target
    → IsNear chosen segment.memory (with_bytes segment.at (part target.bytes segment.at segment.len) now) target
written_near segment chosen now target within h =
    let long = length-part target.bytes segment.at segment.len within in
    record {
      maximum = h.maximum;
      size = length-written now.bytes segment.at (part target.bytes segment.at segment.len) (omega (arith, long, within, h.size)) ∙ h.size;
      places = λ place less. range_place segment chosen now target place within h.size (h.places place less);
    }

other_near : (segment : ChosenSegment) (chosen : List ChosenSegment) (number : ℕ) (now target : Memory) → (segment.memory ≡ number → ⊥)
    → IsNear (segment ∷ chosen) number now target → IsNear chosen number now target
other_near segment chosen number now target other h = record { maximum = h.maximum; size = h.size; places = λ place less. by place (h.places place less) }
  where
    by : (place : ℕ) → (get_or now.bytes place 0 ≡ get_or target.bytes place 0) ⊎ IsInChosen number (segment ∷ chosen) place
        → (get_or now.bytes place 0 ≡ get_or target.bytes place 0) ⊎ IsInChosen number chosen place
    by place (inl same) = inl same
    by place (inr (inl inside)) = absurd (other inside.0)
    by place (inr (inr later)) = inr later

pub nearer : (targets : List Memory) (segment : ChosenSegment) (chosen : List ChosenSegment) (now : List Memory) (target : Memory)
    → slice_get targets segment.memory ≡ Some target → segment.at + segment.len ≤ length target.bytes → AreNear targets (segment ∷ chosen) now
    → AreNear targets chosen (altered (λ (x : Memory). with_bytes segment.at (part target.bytes segment.at segment.len) x) now segment.memory)
nearer targets segment chosen now target here within h = record {
  many = length-altered (λ (x : Memory). with_bytes segment.at (part target.bytes segment.at segment.len) x) now segment.memory ∙ h.many;
  each = λ number other is. by number other is (cases_eq segment.memory number) (h.each number other is);
}
  where
    by : (number : ℕ) (other : Memory) → slice_get targets number ≡ Some other → (segment.memory ≡ number) ⊎ (segment.memory ≡ number → ⊥)
        → (memory : Memory) × (slice_get now number ≡ Some memory) × IsNear (segment ∷ chosen) number memory other
        → (memory : Memory) × (slice_get (altered (λ (x : Memory). with_bytes segment.at (part target.bytes segment.at segment.len) x) now segment.memory) number ≡ Some memory)
        × IsNear chosen number memory other
    by number other is (inl same) (memory, found, near) =
        let alike : other ≡ target = cc (is, here, same) in
        let old = subst (λ (t : Memory). IsNear (segment ∷ chosen) segment.memory memory t) alike
        (subst (λ (n : ℕ). IsNear (segment ∷ chosen) n memory other) (sym same) near) in (
          with_bytes segment.at (part target.bytes segment.at segment.len) memory,
          subst (λ (n : ℕ). slice_get (altered (λ (x : Memory). with_bytes segment.at (part target.bytes segment.at segment.len) x) now segment.memory) n
              ≡ Some (with_bytes segment.at (part target.bytes segment.at segment.len) memory)) same
              (altered_same (λ (x : Memory). with_bytes segment.at (part target.bytes segment.at segment.len) x) now segment.memory memory
              (ap (λ (n : ℕ). slice_get now n) same ∙ found)),
          subst (λ (n : ℕ). IsNear chosen n (with_bytes segment.at (part target.bytes segment.at segment.len) memory) other) same
              (subst (λ (t : Memory). IsNear chosen segment.memory (with_bytes segment.at (part target.bytes segment.at segment.len) memory) t) (sym alike)
              (written_near segment chosen memory target within old)),
        )
    by number other is (inr apart) (memory, found, near) = (
      memory,
      altered_other (λ (x : Memory). with_bytes segment.at (part target.bytes segment.at segment.len) x) now segment.memory number apart ∙ found,
      other_near segment chosen number memory other apart near,
    )

-- ---- all ranges are written

memory_same : (now target : Memory) (number : ℕ) → IsNear [] number now target → now ≡ target
memory_same now target number h =
    let bytes = same_number_lists now.bytes target.bytes h.size (λ place less. right place (h.places place (omega (arith, less, h.size)))) in
    ap (λ (bs : List ℕ). record now { bytes = bs }) bytes ∙ ap (λ (most : Option ℕ). record target { maximum = most }) h.maximum
  where
    right : (place : ℕ) → (get_or now.bytes place 0 ≡ get_or target.bytes place 0) ⊎ IsInChosen number [] place → get_or now.bytes place 0 ≡ get_or target.bytes place 0
    right place (inl same) = same
    right place (inr none) = absurd none

pub lists_by_items : {A : Type 0} (xs ys : List A) → length xs ≡ length ys → ((i : ℕ) (y : A) → slice_get ys i ≡ Some y → slice_get xs i ≡ Some y) → xs ≡ ys
lists_by_items [] [] many h = refl
lists_by_items [] (y ∷ ys) many h = absurd (omega (arith, many))
lists_by_items (x ∷ xs) [] many h = absurd (omega (arith, many))
lists_by_items {A = A} (x ∷ xs) (y ∷ ys) many h =
    let first : x ≡ y = cc (h 0 y refl) in
    ap (λ (z : A). z ∷ xs) first ∙ ap (λ zs. y ∷ zs) (lists_by_items xs ys (omega (arith, many)) (λ i z here. h (suc i) z here))

pub all_written : (targets now : List Memory) → AreNear targets [] now → now ≡ targets
all_written targets now h = lists_by_items now targets h.many (λ i target here. by i target (h.each i target here))
  where
    by : (i : ℕ) (target : Memory) → (memory : Memory) × (slice_get now i ≡ Some memory) × IsNear [] i memory target → slice_get now i ≡ Some target
    by i target (memory, found, near) = found ∙ ap (λ (x : Memory). Some x) (memory_same memory target i near)

-- ---- the plan covers the memories

in_first : (number : ℕ) (runs : List Run) (rest : List ChosenSegment) (high place : ℕ) → IsInOne high runs place
    → IsInChosen number (map (chosen_segment number) runs ++ rest) place
in_first number [] rest high place h = absurd h
in_first number (run ∷ runs) rest high place (inl (holds, within)) = inl (refl, holds.0, holds.1)
in_first number (run ∷ runs) rest high place (inr later) = inr (in_first number runs rest high place later)

in_later : (number : ℕ) (front rest : List ChosenSegment) (place : ℕ) → IsInChosen number rest place → IsInChosen number (front ++ rest) place
in_later number [] rest place h = h
in_later number (segment ∷ front) rest place h = inr (in_later number front rest place h)

in_chosen : (limit first number : ℕ) (memories : List Memory) (memory : Memory) (high place : ℕ) → slice_get memories number ≡ Some memory
    → IsInOne high (plan memory.bytes limit) place → IsInChosen (first + number) (chosen_from limit first memories) place
in_chosen limit first number [] memory high place here h = absurd (cc here)
in_chosen limit first zero (m ∷ memories) memory high place here h =
    let same : m ≡ memory = cc here in
    let number : first ≡ first + 0 = omega arith in
    subst (λ (n : ℕ). IsInChosen n (chosen_from limit first (m ∷ memories)) place) number
    (in_first first (plan m.bytes limit) (chosen_from limit (first + 1) memories) high place
    (subst (λ (x : Memory). IsInOne high (plan x.bytes limit) place) (sym same) h))
in_chosen limit first (suc number) (m ∷ memories) memory high place here h =
    let next : (first + 1) + number ≡ first + suc number = omega arith in
    in_later (first + suc number) (map (chosen_segment first) (plan m.bytes limit)) (chosen_from limit (first + 1) memories) place
    (subst (λ (n : ℕ). IsInChosen n (chosen_from limit (first + 1) memories) place) next
    (in_chosen limit (first + 1) number memories memory high place here h))

-- ---- what is there before

-- as many zeros, with the same maximum
abbrev pub zeroed : Memory → Memory
zeroed memory = record { bytes = replicate (pages_of memory * page_size) 0; maximum = memory.maximum }

abbrev sized : ℕ → Option ℕ → Memory
sized size most = record { bytes = replicate size 0; maximum = most }

pub begun : (types : List MemType) (targets : List Memory) → map (λ (t : Memory). t.maximum) targets ≡ map (λ (type : MemType). type.limits.max) types
    → map new_memory (map memory_of_size (zip types (map pages_of targets))) ≡ map zeroed targets
begun [] [] h = refl
begun [] (t ∷ targets) h = absurd (cc h)
begun (type ∷ types) [] h = absurd (cc h)
begun (type ∷ types) (t ∷ targets) h =
    let first : t.maximum ≡ type.limits.max = cc h in
    let rest : map (λ (x : Memory). x.maximum) targets ≡ map (λ (x : MemType). x.limits.max) types = cc h in
    let size = pages_of t in
    ap (λ (most : Option ℕ). sized (size * page_size) most ∷ map new_memory (map memory_of_size (zip types (map pages_of targets)))) (sym first)
    ∙ ap (λ (ms : List Memory). zeroed t ∷ ms) (begun types targets rest)

pub zeros_near : PlanCovers → (targets : List Memory) → AreWhole targets → AreNear targets (chosen_segments targets) (map zeroed targets)
zeros_near covers targets whole = record {
  many = length-map targets zeroed;
  each = λ number target here. (
    zeroed target,
    slice_get-map zeroed targets number ∙ ap (λ (o : Option Memory). option_map zeroed o) here,
    record {
      maximum = refl;
      size = length-replicate {A = ℕ} (pages_of target * page_size) 0 ∙ sym (whole number target here);
      places = λ place less. by number target here place less (cases_eq (get_or target.bytes place 0) 0);
    },
  );
}
  where
    by : (number : ℕ) (target : Memory) → slice_get targets number ≡ Some target → (place : ℕ) → place < length target.bytes
        → (get_or target.bytes place 0 ≡ 0) ⊎ (get_or target.bytes place 0 ≡ 0 → ⊥)
        → (get_or (replicate (pages_of target * page_size) 0) place 0 ≡ get_or target.bytes place 0) ⊎ IsInChosen number (chosen_segments targets) place
    by number target here place less (inl nothing) =
        inl (get_or-replicate (pages_of target * page_size) place 0 0 (subst (λ (n : ℕ). place < n) (whole number target here) less) ∙ sym nothing)
    by number target here place less (inr something) =
        let limit = memory_limit (length targets) in
        let same : 0 + number ≡ number = omega arith in
        inr
        (subst (λ (n : ℕ). IsInChosen n (chosen_segments targets) place) same
        (in_chosen limit 0 number targets target (length target.bytes) place here (covers target.bytes limit place something)))
