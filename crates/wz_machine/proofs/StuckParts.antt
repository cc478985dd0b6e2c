-- Items and bytes of parts of lists.
use Rattle.std.proofs.Common.{◌≡◌, ◌≤◌, ◌<◌, ◌+◌, ◌/◌, ◌%◌, ◌++◌, ◌∷◌, [], ℕ, List, slice_get, take, Some, zero, suc, drop, replicate, length, subst, arith}
use Rattle.std.proofs.lemmas.List.{length-take}
use Rattle.wz_types.specs.declared.types.RefKind.{RefKind}
use Rattle.wz_types.specs.declared.value.Reference.{Reference}
use Rattle.wz_types.specs.declared.value.Value.TheVariants.{Ref}
use Rattle.wz_types.specs.Fits.{type_of_kind}
use Rattle.wz_linear.specs.Bytes.{part, bytes_of}
use Rattle.wz_valid_code.specs.Context.{TypingContext}
use Rattle.wz_store.specs.Changes.{overwritten}
use Rattle.wz_machine.specs.TypedState.{HaveKind, HasType, HoldsBytes}

-- ---- items of parts of a list

pub each-take : {A : Type 0} (xs : List A) (n k : ℕ) (x : A) → slice_get (take n xs) k ≡ Some x → slice_get xs k ≡ Some x
each-take xs zero k x h = absurd (cc h)
each-take [] (suc n) k x h = absurd (cc h)
each-take (y ∷ xs) (suc n) zero x h = h
each-take (y ∷ xs) (suc n) (suc k) x h = each-take xs n k x h

pub each-drop : {A : Type 0} (xs : List A) (n k : ℕ) (x : A) → slice_get (drop n xs) k ≡ Some x → (j : ℕ) × (slice_get xs j ≡ Some x)
each-drop xs zero k x h = (k, h)
each-drop [] (suc n) k x h = absurd (cc h)
each-drop (y ∷ xs) (suc n) k x h = let r = each-drop xs n k x h in (suc r.0, r.1)

pub each-same : {A : Type 0} (item : A) (n k : ℕ) (x : A) → slice_get (replicate n item) k ≡ Some x → item ≡ x
each-same item zero k x h = absurd (cc h)
each-same item (suc n) zero x h = cc h
each-same item (suc n) (suc k) x h = each-same item n k x h

pub each-join : {A : Type 0} (P : A → Type 0) (xs ys : List A) → ((k : ℕ) (x : A) → slice_get xs k ≡ Some x → P x) → ((k : ℕ) (x : A) → slice_get ys k ≡ Some x → P x)
    → (k : ℕ) (x : A) → slice_get (xs ++ ys) k ≡ Some x → P x
each-join P [] ys one other k x h = other k x h
each-join P (y ∷ xs) ys one other zero x h = one zero x h
each-join P (y ∷ xs) ys one other (suc k) x h = each-join P xs ys (λ k x. one (suc k) x) other k x h

pub each-written : {A : Type 0} (P : A → Type 0) (xs : List A) (at : ℕ) (new : List A) → ((k : ℕ) (x : A) → slice_get xs k ≡ Some x → P x)
    → ((k : ℕ) (x : A) → slice_get new k ≡ Some x → P x) → (k : ℕ) (x : A) → slice_get (overwritten xs at new) k ≡ Some x → P x
each-written P xs at new one other =
    each-join P (take at xs) (new ++ drop (at + length new) xs) (λ k x h. one k x (each-take xs at k x h))
    (each-join P new (drop (at + length new) xs) other (λ k x h. let j = each-drop xs (at + length new) k x h in one j.0 x j.1))

-- ---- references of one kind

pub every-part : (context : TypingContext) (kind : RefKind) (items : List Reference) (from count : ℕ) → HaveKind context kind items
    → HaveKind context kind (take count (drop from items))
every-part context kind items from count h k r e = let j = each-drop items from k r (each-take (drop from items) count k r e) in h j.0 r j.1

pub every-same : (context : TypingContext) (kind : RefKind) (reference : Reference) (count : ℕ) → HasType context (Ref reference) (type_of_kind kind)
    → HaveKind context kind (replicate count reference)
every-same context kind reference count h k r e = subst (λ (x : Reference). HasType context (Ref x) (type_of_kind kind)) (each-same reference count k r e) h

pub every-one : (context : TypingContext) (kind : RefKind) (reference : Reference) → HasType context (Ref reference) (type_of_kind kind)
    → HaveKind context kind (reference ∷ [])
every-one context kind reference h zero r e = subst (λ (x : Reference). HasType context (Ref x) (type_of_kind kind)) (cc e) h
every-one context kind reference h (suc k) r e = absurd (cc e)

-- ---- bytes

pub bytes-part : (bytes : List ℕ) (from count : ℕ) → HoldsBytes bytes → HoldsBytes (part bytes from count)
unfolding part
bytes-part bytes from count h k byte e = let j = each-drop bytes from k byte (each-take (drop from bytes) count k byte e) in h j.0 byte j.1

pub bytes-of : (count number : ℕ) → HoldsBytes (bytes_of count number)
unfolding bytes_of
bytes-of zero number k byte e = absurd (cc e)
bytes-of (suc count) number zero byte e = let same : number % 256 ≡ byte = cc e in let below : number % 256 < 256 = omega arith in omega (arith, same, below)
bytes-of (suc count) number (suc k) byte e = bytes-of count (number / 256) k byte e

pub bytes-same : (count byte : ℕ) → HoldsBytes (replicate count (byte % 256))
bytes-same count byte k other e = let same = each-same (byte % 256) count k other e in let below : byte % 256 < 256 = omega arith in omega (arith, same, below)

pub part-short : (bytes : List ℕ) (from count : ℕ) → length (part bytes from count) ≤ count
unfolding part
part-short bytes from count = omega (arith, length-take count (drop from bytes))
