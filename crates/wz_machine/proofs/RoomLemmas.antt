-- Locals that are put behind values, run by run.
use Rattle.std.proofs.Common.{◌≡◌, ◌≤◌, ℕ, zero, suc, ◌+◌, List, ◌∷◌, ◌++◌, ◌<◌, length, take, drop, get_or, replicate, refl, ap, sym, ◌∙◌, append_assoc, drop-cons, add-one}
use Rattle.std.proofs.lemmas.List.{map-append, take-take}
use Rattle.wz_types.specs.declared.types.ValType.{ValType}
use Rattle.wz_types.specs.declared.value.Value.{Value}
use Rattle.wz_types.specs.Zeros.{zero_of, zeros_of}
use Rattle.wz_valid_code.specs.Context.{locals_of_runs}

-- of the runs, `rest` is left: what stands before has been put
pub record PutSoFar (have : ℕ) (runs : List (ℕ × ValType)) (first : List Value) (rest : List (ℕ × ValType)) (now : ℕ) (values : List Value) : Type 0 where
  pub used : now ≤ length values
  pub rises : have ≤ now
  pub put : take now values ++ zeros_of (locals_of_runs rest) ≡ take have first ++ zeros_of (locals_of_runs runs)
  pub kept : take have values ≡ take have first
  pub longer : length first ≤ length values

zeros-same : (n : ℕ) (type : ValType) → zeros_of (replicate n type) ≡ replicate n (zero_of type)
zeros-same zero type = refl
zeros-same (suc n) type = ap (λ (vs : List Value). zero_of type ∷ vs) (zeros-same n type)

-- one run more
pub put-run : (front now : List Value) (n : ℕ) (type : ValType) (rest : List (ℕ × ValType)) → now ≡ front ++ replicate n (zero_of type)
    → now ++ zeros_of (locals_of_runs rest) ≡ front ++ zeros_of (locals_of_runs ((n, type) ∷ rest))
put-run front now n type rest e =
    ap (λ (vs : List Value). vs ++ zeros_of (locals_of_runs rest)) e
    ∙ append_assoc front (replicate n (zero_of type)) (zeros_of (locals_of_runs rest))
    ∙ ap (λ (vs : List Value). front ++ (vs ++ zeros_of (locals_of_runs rest))) (sym (zeros-same n type))
    ∙ ap (λ (vs : List Value). front ++ vs) (sym (map-append (λ (t : ValType). zero_of t) (replicate n type) (locals_of_runs rest)))

-- a front of what has the same longer front
pub front-kept : (n k : ℕ) (xs ys zs : List Value) → n ≤ k → take k xs ≡ take k ys → take n ys ≡ take n zs → take n xs ≡ take n zs
front-kept n k xs ys zs le e f = sym (take-take n k xs le) ∙ ap (λ (vs : List Value). take n vs) e ∙ take-take n k ys le ∙ f

-- the run at this place is put
pub put-next : (runs : List (ℕ × ValType)) (i : ℕ) (d : ℕ × ValType) (front now whole : List Value) → i < length runs
    → now ≡ front ++ replicate (get_or runs i d).0 (zero_of (get_or runs i d).1)
    → front ++ zeros_of (locals_of_runs (drop i runs)) ≡ whole → now ++ zeros_of (locals_of_runs (drop (i + 1) runs)) ≡ whole
put-next runs i d front now whole lt e before =
    let here : drop i runs ≡ get_or runs i d ∷ drop (i + 1) runs = rw add-one (drop-cons runs i d lt) in
    put-run front now (get_or runs i d).0 (get_or runs i d).1 (drop (i + 1) runs) e
    ∙ ap (λ (rs : List (ℕ × ValType)). front ++ zeros_of (locals_of_runs rs)) (sym here) ∙ before
