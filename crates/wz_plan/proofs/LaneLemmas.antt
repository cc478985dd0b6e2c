-- Tests of bytes against zero as lanes make them, and bytes of which lanes look at a front.
use Rattle.std.proofs.Common.{ℕ, ◌+◌, ◌-◌, ◌<◌, ◌≤◌, ◌≡◌, true, false, not, eqb, List, length, drop, get_or, ap, ◌∙◌, subst, ⊎_elim, arith}
use Rattle.std.specs.List.{All}
use Rattle.std.proofs.lemmas.Bool.{cases_lt}
use Rattle.std.proofs.lemmas.List.{get_or-drop, get_or_default, length-drop}
use Rattle.std.proofs.lemmas.Bool.Decides.{nat_tests}

pub zero_from_not : (x : ℕ) → not (eqb x 0) ≡ false → x ≡ 0
zero_from_not x h = grind (arith, nat_tests)

pub nonzero_from_not : (x : ℕ) → not (eqb x 0) ≡ true → x ≡ 0 → ⊥
nonzero_from_not x h e = grind (arith, nat_tests)

pub nonzero_from_test : (x : ℕ) → eqb x 0 ≡ false → x ≡ 0 → ⊥
nonzero_from_test x h e = grind (arith, nat_tests)

pub zero_from_test : (x : ℕ) → eqb x 0 ≡ true → x ≡ 0
zero_from_test x h = grind (arith, nat_tests)

-- what holds of the places in front, and of those of the rest, holds of all
pub holds_in_both : (P : ℕ → Type 0) (bytes rest : List ℕ) (at count : ℕ) → rest ≡ drop at bytes
    → ((k : ℕ) → k < at → P (get_or bytes k 0)) → ((k : ℕ) → k < count → P (get_or rest k 0))
    → (k : ℕ) → k < at + count → P (get_or bytes k 0)
holds_in_both P bytes rest at count e front behind k small = ⊎_elim
    (λ low. front k low)
    (λ high.
    let place : at + (k - at) ≡ k = omega arith in
    let here : get_or rest (k - at) 0 ≡ get_or bytes k 0 =
    ap (λ l. get_or l (k - at) 0) e ∙ get_or-drop at bytes (k - at) 0 ∙ ap (λ n. get_or bytes n 0) place in
    subst P here (behind (k - at) (omega arith)))
    (cases_lt k at)

-- zeros in front, and nothing but zeros behind them
pub zeros_in_both : (bytes rest : List ℕ) (at : ℕ) → rest ≡ drop at bytes → at ≤ length bytes
    → ((k : ℕ) → k < at → get_or bytes k 0 ≡ 0) → All (λ byte. byte ≡ 0) rest → All (λ byte. byte ≡ 0) bytes
zeros_in_both bytes rest at e within front behind k d small =
    let size = ap length e ∙ length-drop at bytes in
    get_or_default bytes k d 0 small
    ∙ holds_in_both (λ byte. byte ≡ 0) bytes rest at (length bytes - at) e front (λ j low. behind j 0 (omega arith)) k (omega arith)
