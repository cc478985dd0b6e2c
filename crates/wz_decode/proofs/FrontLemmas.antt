-- Why the loop over the sections stops at one.
use Rattle.std.proofs.Common.{◌≡◌, ℕ, ◌+◌, ◌<◌, List, [], ◌∷◌, ◌++◌, length, map, Some, None, refl, sym, ap, subst, ◌∙◌, arith, inl, inr}
use Rattle.std.specs.Prelude.{◌≢◌, ◌==◌, ◌⊎◌}
use Rattle.std.specs.List.{All}
use Rattle.std.proofs.lemmas.List.{length-map}
use Rattle.std.proofs.lemmas.Bool.{cases_Bool, eqb-true}
use Rattle.std.proofs.lemmas.List.Elements.{All-head, All-tail}
use Rattle.wz_bytes.specs.Reading.{Front}
use Rattle.wz_bytes.proofs.ReadingLemmas.{none_stands, some_is}
use Rattle.wz_module.specs.declared.items.Section as code
use Rattle.wz_module.specs.Sections.{Section, section_rank, ranks_of, Rises}
use Rattle.wz_module.specs.Views.{section_of}
use Rattle.wz_module.specs.Module.{Module}
use Rattle.wz_decode.specs.Header.{header}
use Rattle.wz_decode.specs.SectionForm.{IsSection, section_at}
use Rattle.wz_decode.specs.Contents.{IsInGrammar, IsFrontOf, IsBadSection}
use Rattle.wz_decode.specs.Front.{last_of, HasFront, MayFollow, AreBefore}
use Rattle.wz_decode.proofs.SectionLaws.{section_exact, last_item}
use Rattle.wz_decode.proofs.StepLaws.{ranks_of-append, rises_last}

behind_header : (a b : List ℕ) → header ++ a ≡ header ++ b → a ≡ b
behind_header a b e = cc

all_last : {X : Type 0} (P : X → Type 0) (xs : List X) (x : X) → All P (xs ++ x ∷ []) → P x
all_last P [] x h = All-head P x [] h
all_last P (y ∷ xs) x h = all_last P xs x (All-tail P y (xs ++ x ∷ []) h)

-- a section that stands in order behind others
in_order : (sections : List Section) (s : Section) (last : ℕ) → last ≡ last_of 0 (ranks_of sections) → Rises 0 (ranks_of (sections ++ s ∷ [])) → (s.id ≡ 0) ⊎ (last < section_rank s.id)
in_order sections s last is rise = elim (cases_Bool (s.id == 0)) [
  | inl custom ↦ inl (eqb-true s.id 0 custom)
  | inr own ↦
      let one : ranks_of (s ∷ []) ≡ section_rank s.id ∷ [] = rw own refl in
      let all : ranks_of (sections ++ s ∷ []) ≡ ranks_of sections ++ section_rank s.id ∷ [] = ranks_of-append sections (s ∷ []) ∙ ap (λ (ns : List ℕ). ranks_of sections ++ ns) one in
      let less = rises_last 0 (section_rank s.id) (ranks_of sections) (subst (λ (ns : List ℕ). Rises 0 ns) all rise) in
      inr (subst (λ (n : ℕ). n < section_rank s.id) (sym is) less)
]

-- where no section that may follow stands behind a front, no more sections are one
no_more : (bytes left : List ℕ) (sections : List Section) (last at : ℕ) → length sections ≡ at → AreBefore bytes sections left → last ≡ last_of 0 (ranks_of sections)
    → ((s : Section) (behind : List ℕ) → Front (λ t s. IsSection t s) left s behind → MayFollow last s → ⊥) → (behind : List ℕ) → IsFrontOf (at + 1) bytes behind → ⊥
no_more bytes left sections last at many h is none behind f =
    let same : h.0 ++ left ≡ f.text ++ behind = behind_header (h.0 ++ left) (f.text ++ behind) (sym h.1 ∙ f.parts) in
    let l = last_item (λ t s. IsSection t s) (λ b. section_at b) section_exact sections f.sections h.0 f.text left behind h.2 f.spelled (omega (arith, f.many, many)) same in
    let order = subst (λ (xs : List Section). Rises 0 (ranks_of xs)) l.are f.order in
    let contents = subst (λ (xs : List Section). All IsInGrammar xs) l.are f.contents in
    none l.last behind l.front (in_order sections l.last last is order, all_last IsInGrammar sections l.last contents)

bad_section : (bytes left : List ℕ) (m : Module) (sections : List code.Section) (last n at : ℕ) → m.sections ≡ map section_of sections → AreBefore bytes (map section_of sections) left → HasFront m last → All IsInGrammar (map section_of sections)
    → ((s : Section) (behind : List ℕ) → Front (λ t s. IsSection t s) left s behind → MayFollow last s → ⊥) → left ≢ [] → n ≡ length sections → n ≡ at → IsBadSection bytes at
bad_section bytes left m sections last n at is h good contents none more many same =
    let count : length (map section_of sections) ≡ at = length-map sections section_of ∙ sym many ∙ same in
    record {
      rest = left;
      front = record {
        text = h.0;
        sections = map section_of sections;
        many = count;
        parts = h.1;
        spelled = h.2;
        order = subst (λ (xs : List Section). Rises 0 (ranks_of xs)) is good.1.order;
        contents = contents;
      };
      more = more;
      none = no_more bytes left (map section_of sections) last at count h (subst (λ (xs : List Section). last ≡ last_of 0 (ranks_of xs)) is good.0) none;
    }

-- none stands there
pub stops_at_none : (bytes left : List ℕ) (m : Module) (sections : List code.Section) (last n at : ℕ) → m.sections ≡ map section_of sections → AreBefore bytes (map section_of sections) left → HasFront m last → All IsInGrammar (map section_of sections)
    → None ≡ section_at left → left ≢ [] → n ≡ length sections → n ≡ at → IsBadSection bytes at
stops_at_none bytes left m sections last n at is h good contents none more many same =
    bad_section bytes left m sections last n at is h good contents (λ s behind f may. none_stands (λ t s. IsSection t s) (λ b. section_at b) section_exact left (sym none) f.text behind s f.spelled f.parts) more many same

again : (bytes : List ℕ) (s : Section) (rest : List ℕ) → Front (λ t s. IsSection t s) bytes s rest → section_at bytes ≡ Some (s, rest)
again bytes s rest f = ap (λ (t : List ℕ). section_at t) f.parts ∙ section_exact.again f.text s rest f.spelled

-- one stands there that may not follow
pub stops_at_bad : (bytes left rest : List ℕ) (m : Module) (sections : List code.Section) (x : Section) (last n at : ℕ) → m.sections ≡ map section_of sections → AreBefore bytes (map section_of sections) left → HasFront m last
    → All IsInGrammar (map section_of sections) → Some (x, rest) ≡ section_at left → (MayFollow last x → ⊥) → left ≢ [] → n ≡ length sections → n ≡ at → IsBadSection bytes at
stops_at_bad bytes left rest m sections x last n at is h good contents read wrong more many same =
    bad_section bytes left m sections last n at is h good contents
    (λ s behind f may. wrong (subst (λ (p : Section × List ℕ). MayFollow last p.0) (some_is (s, behind) (x, rest) (sym (again left s behind f) ∙ sym read)) may)) more many same
