-- What `split_once` gives at `=`.
use Rattle.std.proofs.Common.{◌≡◌, ℕ, suc, ◌+◌, ◌<◌, Bool, true, false, cond, not, ◌==◌, List, [], ◌∷◌, length, take, drop, Option, Some, None, Bor, refl, sym, ap, ◌∙◌, arith}
use Rattle.std.specs.Prelude.{option_map}
use Rattle.std.specs.List.{position_or_len, before_first}
use Rattle.std.proofs.lemmas.Str.Pattern.{IsSplitOnceResult, split_once_first}
use Rattle.wz_words.specs.Parts.{Halves, halves_of, behind_byte}
use Rattle.wz_words.specs.Views.{halves_view}

abbrev halves : List ℕ → List ℕ → Halves
halves front back = record { front = front; back = back }

abbrev place : List ℕ → ℕ
place s = position_or_len (λ b. b == 61) s

behind : (b : ℕ) (bs : List ℕ) (n : ℕ) (t : Bool) → (t ≡ false → halves_of bs ≡ Some (halves (take n bs) (drop (n + 1) bs)))
    → cond t (Some (halves [] bs)) (behind_byte b (halves_of bs)) ≡ Some (halves (take (cond (not t) (1 + n) 0) (b ∷ bs)) (drop (cond (not t) (1 + n) 0 + 1) (b ∷ bs)))
behind b bs n true h = refl
behind b bs n false h =
    let one : suc n ≡ 1 + n = omega arith in
    let two : suc (n + 1) ≡ 1 + n + 1 = omega arith in
    ap (behind_byte b) (h refl)
    ∙ ap (λ (m : ℕ). Some (halves (take m (b ∷ bs)) (drop (n + 1) bs))) one
    ∙ ap (λ (m : ℕ). Some (halves (take (1 + n) (b ∷ bs)) (drop m (b ∷ bs)))) two

less_behind : (n m : ℕ) (t : Bool) → t ≡ false → cond (not t) (1 + n) 0 < suc m → n < m
less_behind n m true e h = absurd cc
less_behind n m false e h = omega arith

found : (s : List ℕ) → place s < length s → halves_of s ≡ Some (halves (take (place s) s) (drop (place s + 1) s))
found [] h = absurd (omega arith)
found (b ∷ bs) h = behind b bs (place bs) (b == 61) (λ e. found bs (less_behind (place bs) (length bs) (b == 61) e h))

none_behind : (b : ℕ) (bs : List ℕ) (n : ℕ) (t : Bool) → cond (not t) (1 + n) 0 ≡ suc (length bs) → (n ≡ length bs → halves_of bs ≡ None)
    → cond t (Some (halves [] bs)) (behind_byte b (halves_of bs)) ≡ None
none_behind b bs n true e h = absurd (omega arith)
none_behind b bs n false e h = ap (behind_byte b) (h (omega arith))

missing : (s : List ℕ) → place s ≡ length s → halves_of s ≡ None
missing [] h = refl
missing (b ∷ bs) h = none_behind b bs (place bs) (b == 61) h (λ e. missing bs e)

pub halves_split : (s : List ℕ) (r : Option (Bor (List ℕ) × Bor (List ℕ))) → IsSplitOnceResult 61 s r → option_map halves_view r ≡ halves_of s
halves_split s None split = sym (missing s (split_once_first 61 s None split (omega arith)))
halves_split s (Some x) split =
    let (inside, front, back) = split_once_first 61 s (Some x) split (omega arith) in
    ap (λ (f : List ℕ). Some (halves f x.1.now)) front ∙ ap (λ (b : List ℕ). Some (halves (before_first (λ b. b == 61) s) b)) back ∙ sym (found s inside)
