-- Items of a vector that are added one after the other.
use Rattle.std.proofs.Common.{◌≡◌, ℕ, suc, ◌+◌, ◌-◌, ◌<◌, ◌≤◌, ◌^◌, List, [], ◌∷◌, ◌++◌, Option, Some, None, length, take, drop, refl, sym, ap, ◌∙◌, append_assoc, arith}
use Rattle.std.proofs.lemmas.List.{append-nil, length-append, drop_at, take_at}
use Rattle.wz_bytes.specs.Reading.{◌>>=◌, IsExact}
use Rattle.wz_bytes.specs.Forms.{items_at}
use Rattle.wz_types.specs.declared.types.ValType.{ValType}
use Rattle.wz_code.specs.BodyParts.{BodyParts, with_label, with_type, with_locals}
use Rattle.wz_decode_code.specs.Types.{IsValType, type_at}
use Rattle.wz_decode_code.specs.Instructions.{IsU32}
use Rattle.wz_decode_code.specs.InstrReading.{u32_at}
use Rattle.wz_decode_code.specs.Entry.{Run}
use Rattle.wz_decode_code.specs.Pools.{with_labels, with_types, with_runs, behind_items, Adding, Added, EndsBehind, Stand}
use Rattle.wz_decode_code.proofs.TypeLaws.{type_exact}
use Rattle.wz_decode_code.proofs.OperandLaws.{u32_exact}

-- ---- an item takes a byte at least

pub shorter : {X : Type 0} (S : List ℕ → X → Type 0) (read : List ℕ → Option (X × List ℕ)) → IsExact S read → ((x : X) → S [] x → ⊥) → (bytes : List ℕ) (x : X) (rest : List ℕ)
    → read bytes ≡ Some (x, rest) → length rest < length bytes
shorter S read exact some bytes x rest e = let f = exact.found bytes x rest e in by_text f.text f.parts f.spelled where
  by_text : (text : List ℕ) → bytes ≡ text ++ rest → S text x → length rest < length bytes
  by_text [] parts spelled = absurd (some x spelled)
  by_text (b ∷ text) parts spelled = omega (arith, ap (λ (l : List ℕ). length l) parts, length-append (b ∷ text) rest)

pub u32_shorter : (bytes : List ℕ) (n : ℕ) (rest : List ℕ) → u32_at bytes ≡ Some (n, rest) → length rest < length bytes
u32_shorter bytes n rest e = shorter (λ t n. IsU32 t n) (λ b. u32_at b) u32_exact (λ n h. h) bytes n rest e

pub type_shorter : (bytes : List ℕ) (type : ValType) (rest : List ℕ) → type_at bytes ≡ Some (type, rest) → length rest < length bytes
type_shorter bytes type rest e = shorter (λ t type. IsValType t type) (λ b. type_at b) type_exact (λ type h. cc) bytes type rest e

-- ---- adding

pub starts : {X : Type 0} (read : List ℕ → Option (X × List ℕ)) (grow : BodyParts → List X → BodyParts) (n : ℕ) (bytes : List ℕ) (body : BodyParts) → body ≡ grow body []
    → Adding read grow n 0 bytes body body bytes
starts {X = X} read grow n bytes body same = record {
  items = [];
  many = refl;
  is = same;
  parts = none (items_at read n bytes) ∙ ap (λ (k : ℕ). behind_items [] (items_at read k bytes)) (let e : n ≡ n - 0 = omega arith in e);
  fewer = omega arith;
} where
  none : (o : Option (List X × List ℕ)) → o ≡ behind_items [] o
  none None = refl
  none (Some x) = refl

abbrev in_front : {X : Type 0} → X → List X × List ℕ → Option (List X × List ℕ)
in_front x xs = Some (x ∷ xs.0, xs.1)

moved : {X : Type 0} (o : Option (List X × List ℕ)) (xs : List X) (x : X) → behind_items xs (o >>= λ ys. in_front x ys) ≡ behind_items (xs ++ x ∷ []) o
moved None xs x = refl
moved {X = X} (Some y) xs x = ap (λ (l : List X). let o : Option (List X × List ℕ) = Some (l, y.1) in o) (sym (append_assoc xs (x ∷ []) y.0))

one_more : {X : Type 0} (read : List ℕ → Option (X × List ℕ)) (m : ℕ) (xs : List X) (x : X) (rest after : List ℕ) → read rest ≡ Some (x, after)
    → behind_items xs (items_at read (suc m) rest) ≡ behind_items (xs ++ x ∷ []) (items_at read m after)
unfolding items_at
one_more read m xs x rest after e = rw e (moved (items_at read m after) xs x)

pub adds : {X : Type 0} (read : List ℕ → Option (X × List ℕ)) (grow : BodyParts → List X → BodyParts) (n i : ℕ) (bytes : List ℕ) (old mid new : BodyParts) (x : X)
    (rest after : List ℕ)
    → Adding read grow n i bytes old mid rest → i < n → read rest ≡ Some (x, after) → length after < length rest
    → ((xs : List X) → mid ≡ grow old xs → new ≡ grow old (xs ++ x ∷ [])) → Adding read grow n (i + 1) bytes old new after
adds read grow n i bytes old mid new x rest after a more e fewer grown =
    let left : n - i ≡ suc (n - (i + 1)) = omega arith in
    let size : length (a.items ++ x ∷ []) ≡ length a.items + 1 = length-append a.items (x ∷ []) in
    record {
      items = a.items ++ x ∷ [];
      many = omega (arith, size, a.many);
      is = grown a.items a.is;
      parts = a.parts ∙ ap (λ (k : ℕ). behind_items a.items (items_at read k rest)) left ∙ one_more read (n - (i + 1)) a.items x rest after e;
      fewer = omega (arith, size, a.fewer, fewer);
    }

-- nothing more stands there
pub adds_none : {X : Type 0} (read : List ℕ → Option (X × List ℕ)) (grow : BodyParts → List X → BodyParts) (n i : ℕ) (bytes : List ℕ) (old mid : BodyParts) (rest : List ℕ)
    → Adding read grow n i bytes old mid rest → i < n → read rest ≡ None → items_at read n bytes ≡ None
unfolding items_at
adds_none read grow n i bytes old mid rest a more e =
    let left : n - i ≡ suc (n - (i + 1)) = omega arith in
    let none : items_at read (suc (n - (i + 1))) rest ≡ None = rw e refl in
    a.parts ∙ ap (λ (k : ℕ). behind_items a.items (items_at read k rest)) left ∙ ap (λ o. behind_items a.items o) none

pub all_added : {X : Type 0} (read : List ℕ → Option (X × List ℕ)) (grow : BodyParts → List X → BodyParts) (n i : ℕ) (bytes : List ℕ) (old new : BodyParts) (rest : List ℕ)
    → Adding read grow n i bytes old new rest → i ≡ n → Added read grow n bytes old new rest
unfolding items_at
all_added {X = X} read grow n i bytes old new rest a all =
    let none : n - i ≡ 0 = omega (arith, all) in
    record {
      items = a.items;
      many = a.many ∙ all;
      is = a.is;
      all = a.parts ∙ ap (λ (k : ℕ). behind_items a.items (items_at read k rest)) none
          ∙ ap (λ (l : List X). let o : Option (List X × List ℕ) = Some (l, rest) in o) (append-nil a.items);
      fewer = a.fewer;
    }

-- ---- where they stand

pub stand : {X : Type 0} (old new items : List X) (end count : ℕ) → new ≡ old ++ items → length items ≡ count → (count ≡ 0 → end ≡ 0) → (0 < count → end ≡ length new)
    → Stand (end - count) count old new
stand {X = X} old new [] end count is many none some =
    let e : count ≡ 0 = sym many in
    record {
      within = omega (arith, none e);
      are = rw (e, is, append-nil old) (sym (past old));
    } where
      past : {A : Type 0} (xs : List A) → drop (length xs) xs ≡ []
      past [] = refl
      past (x ∷ xs) = past xs
stand old new (x ∷ items) end count is many none some =
    let size : length new ≡ length old + length (x ∷ items) = ap (λ (l : List _). length l) is ∙ length-append old (x ∷ items) in
    let at : end - count ≡ length old = omega (arith, some (omega arith), many) in
    let tail : drop (length old) new ≡ x ∷ items = ap (λ (l : List _). drop (length old) l) is ∙ drop_at old (x ∷ items) (length old) refl in
    record {
      within = omega (arith, some (omega arith), many, size);
      are = rw (at, tail) (take_all (x ∷ items) count many);
    } where
      take_all : {A : Type 0} (xs : List A) (n : ℕ) → length xs ≡ n → take n xs ≡ xs
      take_all xs n h = ap (λ (l : List _). take n l) (sym (append-nil xs)) ∙ take_at xs [] n h

-- ---- labels, types and runs of locals

pub label_grows : (old mid new : BodyParts) (x : ℕ) → new ≡ with_label mid x → (xs : List ℕ) → mid ≡ with_labels old xs → new ≡ with_labels old (xs ++ x ∷ [])
label_grows old mid new x is xs e = is ∙ ap (λ (b : BodyParts). with_label b x) e ∙ ap (λ (l : List ℕ). record old { labels = l }) (append_assoc old.labels xs (x ∷ []))

pub type_grows : (old mid new : BodyParts) (x : ValType) → new ≡ with_type mid x → (xs : List ValType) → mid ≡ with_types old xs → new ≡ with_types old (xs ++ x ∷ [])
type_grows old mid new x is xs e = is ∙ ap (λ (b : BodyParts). with_type b x) e ∙ ap (λ (l : List ValType). record old { types = l }) (append_assoc old.types xs (x ∷ []))

pub run_grows : (old mid new : BodyParts) (x : Run) → new ≡ with_locals mid x.0 x.1 → (xs : List Run) → mid ≡ with_runs old xs → new ≡ with_runs old (xs ++ x ∷ [])
run_grows old mid new x is xs e = is ∙ ap (λ (b : BodyParts). with_locals b x.0 x.1) e ∙ ap (λ (l : List Run). record old { locals = l }) (append_assoc old.locals xs (x ∷ []))

-- there is room for one more where a byte is left
pub some_room : {X : Type 0} (read : List ℕ → Option (X × List ℕ)) (grow : BodyParts → List X → BodyParts) (n i : ℕ) (bytes : List ℕ) (old mid : BodyParts) (rest : List ℕ)
    (was now : List X) (size : ℕ)
    → Adding read grow n i bytes old mid rest → ((xs : List X) → mid ≡ grow old xs → now ≡ was ++ xs) → length was + length bytes < 2 ^ 32 → size < length rest
    → length now < 2 ^ 32 - 1
some_room read grow n i bytes old mid rest was now size a grown room more =
    omega (arith, ap (λ (l : List _). length l) (grown a.items a.is), length-append was a.items, a.fewer)

-- as many were added as the counter says
pub as_many : {X : Type 0} (read : List ℕ → Option (X × List ℕ)) (grow : BodyParts → List X → BodyParts) (n i : ℕ) (bytes : List ℕ) (old mid : BodyParts) (rest : List ℕ)
    (was now : List X)
    → Adding read grow n i bytes old mid rest → ((xs : List X) → mid ≡ grow old xs → now ≡ was ++ xs) → i ≤ length now
as_many read grow n i bytes old mid rest was now a grown =
    omega (arith, ap (λ (l : List _). length l) (grown a.items a.is), length-append was a.items, a.many)

-- the place behind the last one, after one more
pub ends : {X : Type 0} (mid new : List X) (x : X) (i number end : ℕ) → new ≡ mid ++ x ∷ [] → number ≡ length mid → end ≡ number + 1 → EndsBehind (i + 1) end (length new)
ends mid new x i number end is at e =
    let size : length new ≡ length mid + 1 = ap (λ (l : List _). length l) is ∙ length-append mid (x ∷ []) in
    (λ none. absurd (omega (arith, none)), λ some. omega (arith, size, at, e))
