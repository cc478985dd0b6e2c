-- Memories that begin with the sizes that they reached.
use Rattle.std.proofs.Common.{◌≡◌, ℕ, suc, ◌+◌, ◌^◌, ◌≤◌, List, [], ◌∷◌, length, map, Option, Some, None}
use Rattle.std.proofs.Common.{refl, sym, ap, ◌∙◌, All, arith}
use Rattle.std.specs.Prelude.{IfSome}
use Rattle.std.specs.List.{AllZip, zip, sum, sum_by}
use Rattle.std.proofs.lemmas.List.Elements.{All-nil, All-cons, All-head, All-tail}
use Rattle.std.proofs.lemmas.List.Sums.{sum_by-cons, get_or-le-sum_by}
use Rattle.wz_types.specs.declared.types.MemType.{MemType}
use Rattle.wz_valid.specs.Limits.{IsMaximumOk, IsMemoryOk}
use Rattle.wz_rewrite.specs.Parts.{memory_of_size}
use Rattle.wz_rewrite.specs.ValidOutput.{AllowsPages}

abbrev pub grown : List MemType → List ℕ → List MemType
grown memories pages = map memory_of_size (zip memories pages)

module _ (R : MemType → ℕ → Type 0) where
  pub grown-count : (memories : List MemType) (pages : List ℕ) → AllZip R memories pages → length (grown memories pages) ≡ length memories
  grown-count [] [] h = refl
  grown-count [] (p ∷ pages) h = absurd h
  grown-count (memory ∷ memories) [] h = absurd h
  grown-count (memory ∷ memories) (p ∷ pages) h = ap (λ (n : ℕ). suc n) (grown-count memories pages h.1)

  pub grown-sum : (memories : List MemType) (pages : List ℕ) → AllZip R memories pages → sum_by (λ memory. memory.limits.min) (grown memories pages) ≡ sum pages
  grown-sum [] [] h = refl
  grown-sum [] (p ∷ pages) h = absurd h
  grown-sum (memory ∷ memories) [] h = absurd h
  grown-sum (memory ∷ memories) (p ∷ pages) h =
      sum_by-cons (λ (x : MemType). x.limits.min) (memory_of_size (memory, p)) (grown memories pages)
      ∙ ap (λ (n : ℕ). p + n) (grown-sum memories pages h.1)
      ∙ sym (sum_by-cons (λ (n : ℕ). n) p pages)

pub each-within : (pages : List ℕ) (most : ℕ) → sum pages ≤ most → All (λ p. p ≤ most) pages
each-within pages most few k d less = let one = get_or-le-sum_by (λ (n : ℕ). n) pages k d less in omega (arith, one, few)

maximum-ok : (max : Option ℕ) (min pages range : ℕ) → IsMaximumOk max min range → IfSome max (λ m. pages ≤ m) → IsMaximumOk max pages range
maximum-ok None min pages range ok within = tt
maximum-ok (Some max) min pages range ok within = (ok.0, within)

pub grown-ok : (memories : List MemType) (pages : List ℕ) → AllZip (λ memory p. AllowsPages memory p) memories pages → All (λ p. p ≤ 2 ^ 16) pages
    → All IsMemoryOk memories → All IsMemoryOk (grown memories pages)
grown-ok [] [] h few ok = All-nil IsMemoryOk
grown-ok [] (p ∷ pages) h few ok = absurd h
grown-ok (memory ∷ memories) [] h few ok = absurd h
grown-ok (memory ∷ memories) (p ∷ pages) h few ok =
    let fine = All-head IsMemoryOk memory memories ok in
    All-cons IsMemoryOk (memory_of_size (memory, p)) (grown memories pages)
    (All-head (λ (n : ℕ). n ≤ 2 ^ 16) p pages few, maximum-ok memory.limits.max memory.limits.min p (2 ^ 16) fine.1 h.0)
    (grown-ok memories pages h.1 (All-tail (λ (n : ℕ). n ≤ 2 ^ 16) p pages few) (All-tail IsMemoryOk memory memories ok))
