-- The first of a list that passes a test.
use Rattle.std.proofs.Common.{◌≡◌, List, [], ◌∷◌, Some, None, Bool, true, false, cond, find, refl, sym, ap, ◌∙◌}

pub find-holds : {A : Type 0} (p : A → Bool) (xs : List A) (x : A) → find p xs ≡ Some x → p x ≡ true
find-holds p [] x h = absurd (cc h)
find-holds p (y ∷ ys) x h = at (p y) refl h (λ g. find-holds p ys x g) where
  at : (b : Bool) → p y ≡ b → cond b (Some y) (find p ys) ≡ Some x → (find p ys ≡ Some x → p x ≡ true) → p x ≡ true
  at true e g later = let same : y ≡ x = cc g in ap p (sym same) ∙ e
  at false e g later = later g

pub find-none : {A : Type 0} (p : A → Bool) → ((x : A) → p x ≡ false) → (xs : List A) → find p xs ≡ None
find-none p h [] = refl
find-none p h (y ∷ ys) = rw (h y) (find-none p h ys)
