-- Finding a local by its run is finding it in the list that the runs stand for.
use Rattle.std.proofs.Common.{◌≡◌, ◌≤◌, ◌<◌, ◌+◌, ◌-◌, ℕ, zero, suc, List, [], ◌∷◌, ◌++◌, Some, Bool, true, false, length, get_or, slice_get, refl, ap, sym, ◌∙◌, arith, nat_le, replicate}
use Rattle.std.specs.Option.{option_map}
use Rattle.std.proofs.lemmas.Option.{slice_get-get_or}
use Rattle.std.proofs.lemmas.List.{get_or-replicate, length-replicate}
use Rattle.wz_types.specs.declared.types.ValType.{ValType}
use Rattle.wz_valid_code.specs.Context.{locals_of_runs}
use Rattle.wz_valid_code.specs.Runs.{ends_of, run_of_place, Rise}

-- ---- of lists

pub get-left : (xs ys : List ValType) (i : ℕ) → i < length xs → slice_get (xs ++ ys) i ≡ slice_get xs i
get-left [] ys i h = absurd (omega arith)
get-left (x ∷ xs) ys zero h = refl
get-left (x ∷ xs) ys (suc i) h = get-left xs ys i (omega arith)

pub get-right : (xs ys : List ValType) (i : ℕ) → slice_get (xs ++ ys) (length xs + i) ≡ slice_get ys i
get-right [] ys i = let e : 0 + i ≡ i = omega arith in ap (λ n. slice_get ys n) e
get-right (x ∷ xs) ys i = let e : suc (length xs) + i ≡ suc (length xs + i) = omega arith in ap (λ n. slice_get (x ∷ (xs ++ ys)) n) e ∙ get-right xs ys i

-- ---- the ends

ends-least : (before : ℕ) (runs : List (ℕ × ValType)) (j : ℕ) → j < length (ends_of before runs) → before ≤ get_or (ends_of before runs) j 0
ends-least before [] j h = absurd (omega arith)
ends-least before (run ∷ runs) zero h = omega arith
ends-least before (run ∷ runs) (suc j) h = let more = ends-least (before + run.0) runs j (omega arith) in omega (arith, more)

pub ends-rise : (before : ℕ) (runs : List (ℕ × ValType)) → Rise (ends_of before runs)
ends-rise before [] i j le h = absurd (omega arith)
ends-rise before (run ∷ runs) zero zero le h = omega arith
ends-rise before (run ∷ runs) zero (suc j) le h = ends-least (before + run.0) runs j (omega arith)
ends-rise before (run ∷ runs) (suc i) zero le h = absurd (omega arith)
ends-rise before (run ∷ runs) (suc i) (suc j) le h = ends-rise (before + run.0) runs i j (omega arith) (omega arith)

abbrev pub total : List (ℕ × ValType) → ℕ
total [] = 0
total (run ∷ runs) = run.0 + total runs

pub total-more : (runs : List (ℕ × ValType)) (run : ℕ × ValType) → total (runs ++ run ∷ []) ≡ total runs + run.0
total-more [] run = omega arith
total-more (r ∷ runs) run = omega (arith, total-more runs run)

pub ends-more : (before : ℕ) (runs : List (ℕ × ValType)) (run : ℕ × ValType) → ends_of before (runs ++ run ∷ []) ≡ ends_of before runs ++ (before + total runs + run.0) ∷ []
ends-more before [] run = let e : before + run.0 ≡ before + 0 + run.0 = omega arith in ap (λ n. n ∷ []) e
ends-more before (r ∷ runs) run =
    let e : before + r.0 + total runs + run.0 ≡ before + (r.0 + total runs) + run.0 = omega arith in
    ap (λ x. (before + r.0) ∷ x) (ends-more (before + r.0) runs run ∙ ap (λ n. ends_of (before + r.0) runs ++ n ∷ []) e)

-- ---- the run of a place

run-step : (place end : ℕ) (ends : List ℕ) → end ≤ place → run_of_place place (end ∷ ends) ≡ run_of_place place ends + 1
run-step place end ends h = grind arith

run-here : (place end : ℕ) (ends : List ℕ) → place < end → run_of_place place (end ∷ ends) ≡ 0
run-here place end ends h = grind arith

-- the place that halving comes to
pub run-found : (place : ℕ) (ends : List ℕ) (i : ℕ) → i ≤ length ends → ((j : ℕ) → j < i → get_or ends j 0 ≤ place) → (i < length ends → place < get_or ends i 0) → i
    ≡ run_of_place place ends
run-found place [] i le below above = omega arith
run-found place (end ∷ ends) zero le below above = sym (run-here place end ends (above (omega arith)))
run-found place (end ∷ ends) (suc i) le below above =
    let e = run-found place ends i (omega arith) (λ j h. below (suc j) (omega arith)) (λ h. above (omega arith)) in
    let one = run-step place end ends (below 0 (omega arith)) in
    omega (arith, e, one)

replicate-get : (n i : ℕ) (type : ValType) → i < n → slice_get (replicate n type) i ≡ Some type
replicate-get n i type h =
    slice_get-get_or (replicate n type) i type (simp length-replicate (omega arith)) ∙ ap (λ (x : ValType). Some x) (get_or-replicate n i type type h)

next-run : (run : ℕ × ValType) (runs : List (ℕ × ValType)) (n : ℕ) → slice_get (run ∷ runs) (n + 1) ≡ slice_get runs n
next-run run runs n = let e : n + 1 ≡ suc n = omega arith in ap (λ k. slice_get (run ∷ runs) k) e

le-from : (a b : ℕ) → nat_le a b ≡ true → a ≤ b
le-from a b e = grind arith

lt-from : (a b : ℕ) → nat_le a b ≡ false → b < a
lt-from a b e = grind arith

-- a local's type is that of its run
pub run-type : (before place : ℕ) (runs : List (ℕ × ValType)) → before ≤ place → option_map (λ (run : ℕ × ValType). run.1)
    (slice_get runs (run_of_place place (ends_of before runs))) ≡ slice_get (locals_of_runs runs) (place - before)
run-type before place [] h = refl
run-type before place (run ∷ runs) h = by (λ le. run-type (before + run.0) place runs le) (nat_le (before + run.0) place) refl
  where
    by : (before + run.0 ≤ place → option_map (λ (run : ℕ × ValType). run.1) (slice_get runs (run_of_place place (ends_of (before + run.0) runs)))
        ≡ slice_get (locals_of_runs runs) (place - (before + run.0))) → (b : Bool) → nat_le (before + run.0) place ≡ b
        → option_map (λ (run : ℕ × ValType). run.1) (slice_get (run ∷ runs) (run_of_place place (ends_of before (run ∷ runs))))
        ≡ slice_get (locals_of_runs (run ∷ runs)) (place - before)
    by more true e =
        let le : before + run.0 ≤ place = le-from (before + run.0) place e in
        let split : length (replicate run.0 run.1) + (place - (before + run.0)) ≡ place - before = simp length-replicate (omega arith) in
        ap (λ n. option_map (λ (run : ℕ × ValType). run.1) (slice_get (run ∷ runs) n)) (run-step place (before + run.0) (ends_of (before + run.0) runs) le)
        ∙ ap (option_map (λ (run : ℕ × ValType). run.1)) (next-run run runs (run_of_place place (ends_of (before + run.0) runs)))
        ∙ more le
        ∙ sym (get-right (replicate run.0 run.1) (locals_of_runs runs) (place - (before + run.0)))
        ∙ ap (λ n. slice_get (replicate run.0 run.1 ++ locals_of_runs runs) n) split
    by more false e =
        let lt : place < before + run.0 = lt-from (before + run.0) place e in
        let within : place - before < run.0 = omega arith in
        ap (λ n. option_map (λ (run : ℕ × ValType). run.1) (slice_get (run ∷ runs) n)) (run-here place (before + run.0) (ends_of (before + run.0) runs) lt)
        ∙ sym (get-left (replicate run.0 run.1) (locals_of_runs runs) (place - before) (simp length-replicate within) ∙ replicate-get run.0 (place - before) run.1 within)

pub place-type : (ends : List ℕ) (runs : List (ℕ × ValType)) (place at : ℕ) → ends ≡ ends_of 0 runs → at ≡ run_of_place place ends
    → option_map (λ (run : ℕ × ValType). run.1) (slice_get runs at) ≡ slice_get (locals_of_runs runs) place
place-type ends runs place at e is =
    let whole : place - 0 ≡ place = omega arith in
    ap (λ n. option_map (λ (run : ℕ × ValType). run.1) (slice_get runs n)) (is ∙ ap (run_of_place place) e)
    ∙ run-type 0 place runs (omega arith)
    ∙ ap (slice_get (locals_of_runs runs)) whole

-- a place is that of a parameter, or counts from the first local behind them
pub behind-params : (params rest : List ValType) (index : ℕ) → length params ≤ index → slice_get rest (index - length params) ≡ slice_get (params ++ rest) index
behind-params params rest index h =
    let split : length params + (index - length params) ≡ index = omega arith in
    sym (get-right params rest (index - length params)) ∙ ap (slice_get (params ++ rest)) split
