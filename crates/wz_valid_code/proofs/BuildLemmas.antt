-- Bodies that are put together block by block.
use Rattle.std.proofs.Common.{◌≡◌, ◌≤◌, ◌+◌, ℕ, zero, suc, Bool, List, [], ◌∷◌, ◌++◌, Some, slice_get, get_or, length, ap, ◌∙◌, arith, if◌then◌else◌}
use Rattle.std.proofs.lemmas.Bool.{eq-eqb}
use Rattle.wz_code.specs.BlockRule.{times}
use Rattle.wz_code.proofs.LawLemmas.{times-append}

pub times-moved : (k : ℕ) (before now named : List ℕ) → before ≡ now ++ named → times k named + times k now ≡ times k before
times-moved k before now named e = let r = ap (times k) e ∙ times-append k now named in omega (arith, r)

abbrev count_if : Bool → ℕ
count_if b = if b then 1 else 0

times-got : (numbers : List ℕ) (i x : ℕ) → slice_get numbers i ≡ Some x → 1 ≤ times x numbers
times-got [] i x e = absurd (cc)
times-got (n ∷ numbers) zero x e =
    let same : n ≡ x = cc in
    let one = ap (λ (b : Bool). count_if b) (eq-eqb n x same) in
    omega (arith, one)
times-got (n ∷ numbers) (suc i) x e = omega (arith, times-got numbers i x e)

pub times-of : (numbers more : List ℕ) (i x : ℕ) → slice_get numbers i ≡ Some x → 1 ≤ times x (numbers ++ more)
times-of numbers more i x e = omega (arith, times-got numbers i x e, times-append x numbers more)

pub times-pushed : (k : ℕ) (numbers : List ℕ) (n : ℕ) → times k (numbers ++ n ∷ []) ≡ times k (n ∷ numbers)
times-pushed k numbers n = omega (arith, times-append k numbers (n ∷ []))

pub one-item : (numbers : List ℕ) (x : ℕ) → length numbers ≡ 1 → get_or numbers 0 0 ≡ x → numbers ≡ x ∷ []
one-item [] x h e = absurd (omega arith)
one-item (n ∷ []) x h e = ap (λ (k : ℕ). k ∷ []) e
one-item (n ∷ m ∷ numbers) x h e = absurd (omega arith)
