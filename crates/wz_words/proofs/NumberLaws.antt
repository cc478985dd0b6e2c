-- A number of digits, while its digits are read.
use Rattle.std.proofs.Common.{◌≡◌, ℕ, ◌+◌, ◌-◌, ◌*◌, Bool, true, false, cond, List, [], ◌∷◌, Some, None, refl, sym, ap, ◌∙◌, arith}
use Rattle.std.specs.Prelude.{nat_lt}
use Rattle.std.proofs.lemmas.Bool.Decides.{nat_tests}
use Rattle.wz_words.specs.Options.{is_digit, digits_behind}
use Rattle.wz_words.specs.Draft.{number_within, next_within}

above : (limit n more : ℕ) → nat_lt limit n ≡ true → nat_lt limit (n * 10 + more) ≡ true
above limit n more h = grind (arith, nat_tests)

past : (limit n : ℕ) (bytes : List ℕ) → nat_lt limit n ≡ true → number_within limit (digits_behind n bytes) ≡ None
past limit n [] h = ap (λ (t : Bool). cond t None (Some n)) h
past limit n (b ∷ bs) h = by (is_digit b) (past limit (n * 10 + (b - 48)) bs (above limit n (b - 48) h)) where
  by : (t : Bool) → number_within limit (digits_behind (n * 10 + (b - 48)) bs) ≡ None → number_within limit (cond t (digits_behind (n * 10 + (b - 48)) bs) None) ≡ None
  by true e = e
  by false e = refl

pub refused : (limit n b : ℕ) (rest : List ℕ) → next_within limit n b ≡ None → number_within limit (digits_behind n (b ∷ rest)) ≡ None
refused limit n b rest h = by (is_digit b) h where
  further : (t : Bool) → nat_lt limit (n * 10 + (b - 48)) ≡ t → cond t None (Some (n * 10 + (b - 48))) ≡ None → number_within limit (digits_behind (n * 10 + (b - 48)) rest) ≡ None
  further true e f = past limit (n * 10 + (b - 48)) rest e
  further false e f = absurd cc

  by : (t : Bool) → cond t (number_within limit (Some (n * 10 + (b - 48)))) None ≡ None → number_within limit (cond t (digits_behind (n * 10 + (b - 48)) rest) None) ≡ None
  by true f = further (nat_lt limit (n * 10 + (b - 48))) refl f
  by false f = refl

pub taken : (limit n b m : ℕ) (rest : List ℕ) → next_within limit n b ≡ Some m → digits_behind n (b ∷ rest) ≡ digits_behind m rest
taken limit n b m rest h = by (is_digit b) h where
  further : (t : Bool) → cond t None (Some (n * 10 + (b - 48))) ≡ Some m → digits_behind (n * 10 + (b - 48)) rest ≡ digits_behind m rest
  further true f = absurd cc
  further false f = let e : n * 10 + (b - 48) ≡ m = cc in ap (λ (k : ℕ). digits_behind k rest) e

  by : (t : Bool) → cond t (number_within limit (Some (n * 10 + (b - 48)))) None ≡ Some m → cond t (digits_behind (n * 10 + (b - 48)) rest) None ≡ digits_behind m rest
  by true f = further (nat_lt limit (n * 10 + (b - 48))) f
  by false f = absurd cc

pub taken_within : (limit n b m : ℕ) → next_within limit n b ≡ Some m → nat_lt limit m ≡ false
taken_within limit n b m h = by (is_digit b) h where
  further : (t : Bool) → nat_lt limit (n * 10 + (b - 48)) ≡ t → cond t None (Some (n * 10 + (b - 48))) ≡ Some m → nat_lt limit m ≡ false
  further true e f = absurd cc
  further false e f = let g : n * 10 + (b - 48) ≡ m = cc in sym (ap (λ (k : ℕ). nat_lt limit k) g) ∙ e

  by : (t : Bool) → cond t (number_within limit (Some (n * 10 + (b - 48)))) None ≡ Some m → nat_lt limit m ≡ false
  by true f = further (nat_lt limit (n * 10 + (b - 48))) refl f
  by false f = absurd cc
