-- Bytes have one cause at most why they spell no module, and none where they spell one.
use Rattle.std.proofs.Common.{◌≡◌, ℕ, ◌+◌, ◌<◌, ◌≤◌, List, [], ◌∷◌, ◌++◌, length, refl, sym, ap, subst, ◌∙◌, append_assoc, arith, inl, inr}
use Rattle.std.specs.Prelude.{◌≢◌, ◌⊎◌, ◌==◌}
use Rattle.std.specs.Prelude.{Result, Ok, Err, IfOk, IsErrOf, IsOkUnless}
use Rattle.std.specs.List.{All}
use Rattle.std.proofs.lemmas.Bool.{cases_Bool, cases_lt}
use Rattle.std.proofs.lemmas.List.{append-nil, length-append}
use Rattle.std.proofs.lemmas.List.Elements.{All-head, All-tail, All-nil, All-cons}
use Rattle.wz_bytes.specs.Reading.{Form, Reading, IsExact}
use Rattle.wz_bytes.specs.Forms.{AreItems}
use Rattle.wz_bytes.proofs.ReadingLemmas.{one_front}
use Rattle.wz_module.specs.Sections.{Section, section_rank, ranks_of, Rises}
use Rattle.wz_module.specs.Module.{Module}
use Rattle.wz_decode.specs.declared.fault.DecodeFault.{DecodeFault}
use Rattle.wz_decode.specs.declared.fault.DecodeFault.TheVariants.{NotWasm, BadSection, BadCounts, NoMemory}
use Rattle.wz_decode.specs.Header.{header}
use Rattle.wz_decode.specs.SectionForm.{IsSection, AreSections, section_at}
use Rattle.wz_decode.specs.CountRules.{CountsAgree}
use Rattle.wz_decode.specs.Spelling.{Spells}
use Rattle.wz_decode.specs.Contents.{IsInGrammar, IsFrontOf, IsBadSection}
use Rattle.wz_decode.specs.Front.{IsWhole, HasBadCounts}
use Rattle.wz_decode.specs.Causes.{LacksHeader, IsCause}
use Rattle.wz_decode.specs.Laws.{CauseIsOne, SpelledHasNone, WholeIsFront, FrontIsWhole}
use Rattle.wz_decode.proofs.SectionLaws.{section_exact, no_section, items_push}
use Rattle.wz_decode.proofs.OneModule.{behind_header, one_whole, whole_of}
use Rattle.wz_decode.proofs.GrammarLemmas.{all_in_grammar, parts_of}

-- ---- a list of items that begins with another

record Begins {X : Type 0} (S : Form X) (xs ys : List X) (rest behind : List ℕ) : Type 0 where
  others : List X
  between : List ℕ
  are : ys ≡ xs ++ others
  parts : rest ≡ between ++ behind
  spelled : AreItems S between others

nil_front : (a b : List ℕ) → a ++ b ≡ [] → a ≡ []
nil_front [] b e = refl
nil_front (x ∷ a) b e = absurd cc

-- items in front of bytes are the first of more items, or of those that are all of the bytes
begins : {X : Type 0} (S : Form X) (p : Reading X) → IsExact S p → ((x : X) → S [] x → ⊥) → (xs ys : List X) (text long rest behind : List ℕ)
    → AreItems S text xs → AreItems S long ys → (length xs ≤ length ys) ⊎ (behind ≡ []) → text ++ rest ≡ long ++ behind → Begins S xs ys rest behind
begins S p exact some [] ys text long rest behind h k more e =
    let parts : rest ≡ long ++ behind = ap (λ (t : List ℕ). t ++ rest) (sym h) ∙ e in
    record { others = ys; between = long; are = refl; parts = parts; spelled = k }
begins S p exact some (x ∷ xs) [] text long rest behind h k (inl less) e = absurd (omega (arith, less))
begins S p exact some (x ∷ xs) [] text long rest behind h k (inr all) e =
    let none : text ++ rest ≡ [] = rw (k, all) at e in
    let first : h.0 ≡ [] = nil_front h.0 h.1 (sym h.2 ∙ nil_front text rest none) in
    absurd (some x (subst (λ (t : List ℕ). S t x) first h.3))
begins {X = X} S p exact some (x ∷ xs) (y ∷ ys) text long rest behind h k more e =
    let a : text ++ rest ≡ h.0 ++ (h.1 ++ rest) = ap (λ (t : List ℕ). t ++ rest) h.2 ∙ append_assoc h.0 h.1 rest in
    let b : long ++ behind ≡ k.0 ++ (k.1 ++ behind) = ap (λ (t : List ℕ). t ++ behind) k.2 ∙ append_assoc k.0 k.1 behind in
    let one = one_front S p exact h.0 k.0 (h.1 ++ rest) (k.1 ++ behind) x y h.3 k.3 (sym a ∙ e ∙ b) in
    let fewer : (length xs ≤ length ys) ⊎ (behind ≡ []) = elim more [ inl less ↦ inl (omega (arith, less)) | inr all ↦ inr all ] in
    let g = begins S p exact some xs ys h.1 k.1 rest behind h.4 k.4 fewer one.2 in
    record { others = g.others; between = g.between; are = ap (λ (z : X). z ∷ ys) (sym one.0) ∙ ap (λ (t : List X). x ∷ t) g.are; parts = g.parts; spelled = g.spelled }

-- ---- a section more is a front, too

all_front : {X : Type 0} (P : X → Type 0) (xs ys : List X) → All P (xs ++ ys) → All P xs
all_front P [] ys h = All-nil P
all_front P (x ∷ xs) ys h = All-cons P x xs (All-head P x (xs ++ ys) h) (all_front P xs ys (All-tail P x (xs ++ ys) h))

ranks_front : (low : ℕ) (xs ys : List Section) → Rises low (ranks_of (xs ++ ys)) → Rises low (ranks_of xs)
ranks_front low [] ys r = tt
ranks_front low (s ∷ xs) ys r = elim (cases_Bool (s.id == 0)) [
  | inl custom ↦ rw custom (ranks_front low xs ys (rw custom at r))
  | inr own ↦
      let all : Rises low (section_rank s.id ∷ ranks_of (xs ++ ys)) = rw own at r in
      rw own (all.0, ranks_front (section_rank s.id) xs ys all.1)
]

-- sections in front of bytes, and one more of those that stand there
one_more : (bytes text rest behind between : List ℕ) (n : ℕ) (xs ys others : List Section) → bytes ≡ header ++ (text ++ rest) → length xs ≡ n → AreSections text xs
    → ys ≡ xs ++ others → rest ≡ between ++ behind → AreSections between others → rest ≢ [] → (n < length ys) ⊎ (behind ≡ [])
    → Rises 0 (ranks_of ys) → All IsInGrammar ys → (after : List ℕ) × IsFrontOf (n + 1) bytes after
one_more bytes text rest behind between n xs ys [] parts many spelled are split empty some (inl longer) order contents =
    let same : length ys ≡ length xs + 0 = ap (λ (l : List Section). length l) are ∙ length-append xs [] in
    absurd (omega (arith, same, many, longer))
one_more bytes text rest behind between n xs ys [] parts many spelled are split empty some (inr all) order contents =
    absurd (some (split ∙ (rw (empty, all) refl)))
one_more bytes text rest behind between n xs ys (s ∷ others) parts many spelled are split k some more order contents =
    let rest_is : rest ≡ k.0 ++ (k.1 ++ behind) = split ∙ ap (λ (t : List ℕ). t ++ behind) k.2 ∙ append_assoc k.0 k.1 behind in
    let ys_is : ys ≡ (xs ++ s ∷ []) ++ others = are ∙ sym (append_assoc xs (s ∷ []) others) in
    let last : AreSections k.0 (s ∷ []) = (k.0, [], sym (append-nil k.0), k.3, refl) in
    let count = length-append xs (s ∷ []) in (
      k.1 ++ behind,
      record {
        text = text ++ k.0;
        sections = xs ++ s ∷ [];
        many = omega (arith, count, many);
        parts = parts ∙ ap (λ (t : List ℕ). header ++ (text ++ t)) rest_is ∙ ap (λ (t : List ℕ). header ++ t) (sym (append_assoc text k.0 (k.1 ++ behind)));
        spelled = items_push (λ t s. IsSection t s) text k.0 xs (s ∷ []) spelled last;
        order = ranks_front 0 (xs ++ s ∷ []) others (subst (λ (l : List Section). Rises 0 (ranks_of l)) ys_is order);
        contents = all_front IsInGrammar (xs ++ s ∷ []) others (subst (λ (l : List Section). All IsInGrammar l) ys_is contents);
      },
    )

-- where a section is bad, no more sections are in order and in the grammar, and none are all of the bytes
none_longer : (bytes long behind : List ℕ) (at : ℕ) (ys : List Section) → IsBadSection bytes at → bytes ≡ header ++ (long ++ behind) → AreSections long ys
    → (at < length ys) ⊎ (behind ≡ []) → Rises 0 (ranks_of ys) → All IsInGrammar ys → ⊥
none_longer bytes long behind at ys bad parts spelled more order contents =
    let f = bad.front in
    let same : f.text ++ bad.rest ≡ long ++ behind = behind_header (f.text ++ bad.rest) (long ++ behind) (sym f.parts ∙ parts) in
    let fewer : (length f.sections ≤ length ys) ⊎ (behind ≡ []) = elim more [ inl less ↦ inl (omega (arith, less, f.many)) | inr all ↦ inr all ] in
    let g = begins (λ t s. IsSection t s) (λ b. section_at b) section_exact no_section f.sections ys f.text long bad.rest behind f.spelled spelled fewer same in
    let front = one_more bytes f.text bad.rest behind g.between at f.sections ys g.others f.parts f.many f.spelled g.are g.parts g.spelled bad.more more order contents in
    bad.none front.0 front.1

-- ---- all of the bytes

pub whole_is_front : WholeIsFront
whole_is_front bytes m w = record {
  text = w.text;
  sections = m.sections;
  many = refl;
  parts = w.whole ∙ ap (λ (t : List ℕ). header ++ t) (sym (append-nil w.text));
  spelled = w.sections;
  order = w.parts.order;
  contents = all_in_grammar m w.parts;
}

pub front_is_whole : FrontIsWhole
front_is_whole bytes n f =
    let h = parts_of f.sections f.order f.contents in (
      h.0,
      ap (λ (l : List Section). length l) h.1 ∙ f.many,
      record {
        text = f.text;
        whole = f.parts ∙ ap (λ (t : List ℕ). header ++ t) (append-nil f.text);
        sections = subst (λ (l : List Section). AreSections f.text l) (sym h.1) f.spelled;
        parts = h.2;
      },
    )

-- ---- one cause

none_after : (bytes : List ℕ) (at other : ℕ) → IsBadSection bytes at → IsBadSection bytes other → at < other → ⊥
none_after bytes at other bad h less =
    let f = h.front in
    none_longer bytes f.text h.rest at f.sections bad f.parts f.spelled (inl (omega (arith, less, f.many))) f.order f.contents

one_bad_section : (bytes : List ℕ) (at other : ℕ) → IsBadSection bytes at → IsBadSection bytes other → at ≡ other
one_bad_section bytes at other h k = elim (cases_lt at other) [
  | inl before ↦ absurd (none_after bytes at other h k before)
  | inr not_before ↦ elim (cases_lt other at) [
    | inl after ↦ absurd (none_after bytes other at k h after)
    | inr not_after ↦ omega (arith, not_before, not_after)
  ]
]

none_whole : (bytes : List ℕ) (at : ℕ) (m : Module) → IsBadSection bytes at → IsWhole bytes m → ⊥
none_whole bytes at m bad w =
    let f = whole_is_front bytes m w in
    none_longer bytes f.text [] at f.sections bad f.parts f.spelled (inr refl) f.order f.contents

pub cause_is_one : CauseIsOne
cause_is_one bytes NotWasm NotWasm h k = refl
cause_is_one bytes NotWasm (BadSection at) h k = absurd (h (k.front.text ++ k.rest) k.front.parts)
cause_is_one bytes NotWasm BadCounts h k = absurd (h k.1.text k.1.whole)
cause_is_one bytes (BadSection at) NotWasm h k = absurd (k (h.front.text ++ h.rest) h.front.parts)
cause_is_one bytes (BadSection at) (BadSection other) h k = ap (λ (n : ℕ). BadSection n) (one_bad_section bytes at other h k)
cause_is_one bytes (BadSection at) BadCounts h k = absurd (none_whole bytes at k.0 h k.1)
cause_is_one bytes BadCounts NotWasm h k = absurd (k h.1.text h.1.whole)
cause_is_one bytes BadCounts (BadSection at) h k = absurd (none_whole bytes at h.0 k h.1)
cause_is_one bytes BadCounts BadCounts h k = refl
cause_is_one bytes NoMemory other h k = absurd h
cause_is_one bytes one NoMemory h k = absurd k

pub spelled_has_none : SpelledHasNone
spelled_has_none bytes m NotWasm h k = k h.text h.whole
spelled_has_none bytes m (BadSection at) h k = none_whole bytes at m k (whole_of bytes m h)
spelled_has_none bytes m BadCounts h k =
    let same : m ≡ k.0 = one_whole bytes m k.0 (whole_of bytes m h) k.1 in
    k.2 (subst (λ (n : Module). CountsAgree n) same h.counts)
spelled_has_none bytes m NoMemory h k = k

-- ---- an answer by its cause is the only one

-- a module is one that the bytes spell, and an error comes by its cause
pub record ByCause {M : Type 0} (meaning : M → Module) (bytes : List ℕ) (r : Result M DecodeFault) : Type 0 where
  pub found : IfOk r (λ m. Spells bytes (meaning m))
  pub not_wasm : IsErrOf r NotWasm → LacksHeader bytes
  pub bad_section : (at : ℕ) → IsErrOf r (BadSection at) → IsBadSection bytes at
  pub bad_counts : IsErrOf r BadCounts → HasBadCounts bytes

cause_of : {M : Type 0} (meaning : M → Module) (bytes : List ℕ) (r : Result M DecodeFault) → ByCause meaning bytes r
    → (fault : DecodeFault) → IsErrOf r fault → IsCause bytes fault ⊎ (fault ≡ NoMemory)
cause_of meaning bytes r h NotWasm e = inl (h.not_wasm e)
cause_of meaning bytes r h (BadSection at) e = inl (h.bad_section at e)
cause_of meaning bytes r h BadCounts e = inl (h.bad_counts e)
cause_of meaning bytes r h NoMemory e = inr refl

same_error : {M : Type 0} (one other : DecodeFault) (r : Result M DecodeFault) → IsErrOf r one → one ≡ other → IsErrOf r other
same_error one other r is same = cc

-- each cause gives its answer
pub refuses : {M : Type 0} (meaning : M → Module) (bytes : List ℕ) (r : Result M DecodeFault) → ByCause meaning bytes r
    → (fault : DecodeFault) → IsCause bytes fault → IsErrOf r fault ⊎ IsErrOf r NoMemory
refuses meaning bytes (Ok m) h fault is = absurd (spelled_has_none bytes (meaning m) fault h.found is)
refuses meaning bytes (Err own) h fault is = elim (cause_of meaning bytes (Err own) h own refl) [
  | inl cause ↦ inl (same_error own fault (Err own) refl (cause_is_one bytes own fault cause is))
  | inr none ↦ inr (same_error own NoMemory (Err own) refl none)
]

-- a module that is spelled is read
pub reads : {M : Type 0} (meaning : M → Module) (bytes : List ℕ) (r : Result M DecodeFault) → ByCause meaning bytes r → (m : Module) → Spells bytes m → IsOkUnless r NoMemory
reads meaning bytes (Ok n) h m spelled = tt
reads meaning bytes (Err own) h m spelled = elim (cause_of meaning bytes (Err own) h own refl) [
  | inl cause ↦ absurd (spelled_has_none bytes m own spelled cause)
  | inr none ↦ none
]
