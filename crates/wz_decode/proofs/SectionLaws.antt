-- The reading of sections is exact, and bytes are one list of sections at most.
use Rattle.std.proofs.Common.{◌≡◌, ℕ, ◌<◌, ◌≤◌, ◌+◌, List, [], ◌∷◌, ◌++◌, length, map, Some, Bool, true, false, refl, sym, ap, subst, ◌∙◌, append_assoc, arith}
use Rattle.std.specs.Prelude.{◌≢◌, ◌==◌}
use Rattle.std.proofs.lemmas.List.{append-nil, length-append, map-append}
use Rattle.wz_bytes.specs.Reading.{Form, Reading, IsExact, Front}
use Rattle.wz_bytes.specs.Forms.{IsByte, byte_at, Both, both_at, IsBytes, bytes_at, AreItems}
use Rattle.wz_bytes.proofs.ReadingLemmas.{one_front}
use Rattle.wz_bytes.proofs.FormLaws.{byte_exact, both_exact, made_exact, bytes_exact}
use Rattle.wz_module.specs.declared.items.Section as code
use Rattle.wz_module.specs.Sections.{Section}
use Rattle.wz_module.specs.Views.{section_of}
use Rattle.wz_decode.specs.Header.{header}
use Rattle.wz_decode.specs.SectionForm.{section_from, IsSection, AreSections, section_at}
use Rattle.wz_decode.specs.Front.{AreBefore}

pub section_exact : IsExact (λ t s. IsSection t s) (λ bytes. section_at bytes)
section_exact = made_exact (λ x. section_from x) (Both IsByte IsBytes) (λ b. both_at byte_at (λ b. bytes_at b) b) (both_exact IsByte IsBytes byte_at (λ b. bytes_at b) byte_exact bytes_exact)

nil_first : (a b : List ℕ) → [] ≡ a ++ b → a ≡ []
nil_first [] b e = refl
nil_first (x ∷ a) b e = absurd cc

-- a form that takes a byte at least: the bytes as a whole are one list of items at most
one_list : {X : Type 0} (S : Form X) (p : Reading X) → IsExact S p → ((x : X) → S [] x → ⊥) → (xs ys : List X) (text : List ℕ) → AreItems S text xs → AreItems S text ys → xs ≡ ys
one_list S p exact some [] [] text h k = refl
one_list S p exact some [] (y ∷ ys) text h k = absurd (some y (subst (λ (t : List ℕ). S t y) (nil_first k.0 k.1 (sym h ∙ k.2)) k.3))
one_list S p exact some (x ∷ xs) [] text h k = absurd (some x (subst (λ (t : List ℕ). S t x) (nil_first h.0 h.1 (sym k ∙ h.2)) h.3))
one_list S p exact some (x ∷ xs) (y ∷ ys) text h k =
    let one = one_front S p exact h.0 k.0 h.1 k.1 x y h.3 k.3 (sym h.2 ∙ k.2) in
    let others = one_list S p exact some xs ys h.1 h.4 (subst (λ (t : List ℕ). AreItems S t ys) (sym one.2) k.4) in
    rw (one.0, others) refl

pub no_section : (s : Section) → IsSection [] s → ⊥
no_section s h =
    let first : h.1.0 ≡ [] = nil_first h.1.0 h.1.1 h.1.2 in
    let size : 0 ≡ 1 = ap length (sym first ∙ h.1.3.0) in
    omega (arith, size)

pub one_list_of_sections : (xs ys : List Section) (text : List ℕ) → AreSections text xs → AreSections text ys → xs ≡ ys
one_list_of_sections xs ys text h k = one_list (λ t s. IsSection t s) (λ b. section_at b) section_exact no_section xs ys text h k

-- items behind items
pub items_push : {X : Type 0} (S : Form X) (text more : List ℕ) (xs ys : List X) → AreItems S text xs → AreItems S more ys → AreItems S (text ++ more) (xs ++ ys)
items_push S text more [] ys h k = rw h k
items_push S text more (x ∷ xs) ys h k =
    (h.0, h.1 ++ more, ap (λ (t : List ℕ). t ++ more) h.2 ∙ append_assoc h.0 h.1 more, h.3, items_push S h.1 more xs ys h.4 k)

-- where items stand in front of bytes, and one more than they does too, that one stands behind them
pub record LastItem {X : Type 0} (S : Form X) (xs ys : List X) (rest behind : List ℕ) : Type 0 where
  pub last : X
  pub are : ys ≡ xs ++ last ∷ []
  pub front : Front S rest last behind

pub last_item : {X : Type 0} (S : Form X) (p : Reading X) → IsExact S p → (xs ys : List X) (text long rest behind : List ℕ) → AreItems S text xs → AreItems S long ys → length ys ≡ length xs + 1
    → text ++ rest ≡ long ++ behind → LastItem S xs ys rest behind
last_item S p exact [] [] text long rest behind h k more e = absurd (omega (arith, more))
last_item S p exact [] (y ∷ []) text long rest behind h k more e =
    let first : long ≡ k.0 = k.2 ∙ ap (λ (t : List ℕ). k.0 ++ t) k.4 ∙ append-nil k.0 in
    let parts : rest ≡ k.0 ++ behind = ap (λ (t : List ℕ). t ++ rest) (sym h) ∙ e ∙ ap (λ (t : List ℕ). t ++ behind) first in
    record { last = y; are = refl; front = record { text = k.0; parts = parts; spelled = k.3 } }
last_item S p exact [] (y ∷ z ∷ ys) text long rest behind h k more e = absurd (omega (arith, more))
last_item S p exact (x ∷ xs) [] text long rest behind h k more e = absurd (omega (arith, more))
last_item {X = X} S p exact (x ∷ xs) (y ∷ ys) text long rest behind h k more e =
    let a : text ++ rest ≡ h.0 ++ (h.1 ++ rest) = ap (λ (t : List ℕ). t ++ rest) h.2 ∙ append_assoc h.0 h.1 rest in
    let b : long ++ behind ≡ k.0 ++ (k.1 ++ behind) = ap (λ (t : List ℕ). t ++ behind) k.2 ∙ append_assoc k.0 k.1 behind in
    let one = one_front S p exact h.0 k.0 (h.1 ++ rest) (k.1 ++ behind) x y h.3 k.3 (sym a ∙ e ∙ b) in
    let l = last_item S p exact xs ys h.1 k.1 rest behind h.4 k.4 (omega (arith, more)) one.2 in
    record { last = l.last; are = ap (λ (z : X). z ∷ ys) (sym one.0) ∙ ap (λ (t : List X). x ∷ t) l.are; front = l.front }

-- a section takes a byte at least
takes_some : (text : List ℕ) (s : Section) → IsSection text s → 0 < length text
takes_some [] s h = absurd (no_section s h)
takes_some (b ∷ text) s h = omega arith

pub section_shorter : (bytes : List ℕ) (s : Section) (rest : List ℕ) → Some (s, rest) ≡ section_at bytes → length rest < length bytes
section_shorter bytes s rest e =
    let f = section_exact.found bytes s rest (sym e) in
    omega (arith, takes_some f.text s f.spelled, ap (λ (l : List ℕ). length l) f.parts, length-append f.text rest)

-- one section more was read
pub one_more : (bytes left rest : List ℕ) (sections : List code.Section) (s : code.Section) → AreBefore bytes (map section_of sections) left → Some (section_of s, rest) ≡ section_at left
    → AreBefore bytes (map section_of (sections ++ s ∷ [])) rest
one_more bytes left rest sections s h e =
    let f = section_exact.found left (section_of s) rest (sym e) in
    let last : AreSections f.text (section_of s ∷ []) = (f.text, [], sym (append-nil f.text), f.spelled, refl) in (
      h.0 ++ f.text,
      h.1 ∙ ap (λ (t : List ℕ). header ++ (h.0 ++ t)) f.parts ∙ ap (λ (t : List ℕ). header ++ t) (sym (append_assoc h.0 f.text rest)),
      subst (λ (xs : List Section). AreSections (h.0 ++ f.text) xs) (sym (map-append section_of sections (s ∷ []))) (items_push (λ t s. IsSection t s) h.0 f.text (map section_of sections) (section_of s ∷ []) h.2 last),
    )

pub payload_within : (bytes : List ℕ) (s : Section) (rest : List ℕ) → Some (s, rest) ≡ section_at bytes → length s.payload ≤ length bytes
payload_within bytes s rest e =
    let f = section_exact.found bytes s rest (sym e) in
    let both = f.spelled.1 in
    let whole = ap (λ (l : List ℕ). length l) f.parts in
    let text = ap (λ (l : List ℕ). length l) both.2 in
    let second = ap (λ (l : List ℕ). length l) both.4.1 in
    let same : length s.payload ≡ length f.spelled.0.1 = ap (λ (s : Section). length s.payload) f.spelled.2 in
    omega (arith, whole, text, second, same, length-append f.text rest, length-append both.0 both.1, length-append both.4.0 f.spelled.0.1)

pub not_empty : (test : Bool) (now left : List ℕ) → test ≡ false → test ≡ (length now == 0) → now ≡ left → left ≢ []
not_empty test now left no_ is same none = let e : (length now == 0) ≡ true = rw (same, none) refl in let f : true ≡ false = sym e ∙ sym is ∙ no_ in absurd cc
