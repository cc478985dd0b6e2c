-- Where sections hold a module's parts, the contents of each are in the grammar of its id.
use Rattle.std.proofs.Common.{◌≡◌, ℕ, ◌<◌, List, [], ◌∷◌, Option, Some, None, refl, sym, ap, subst, ◌∙◌, arith, inl, inr}
use Rattle.std.specs.Prelude.{◌≢◌, ◌==◌}
use Rattle.std.specs.List.{All}
use Rattle.std.proofs.lemmas.Bool.{cases_Bool, cases_eq, cases_lt, eqb-true, eq-eqb, ne_eqb, lt-ltb, le-ltb}
use Rattle.std.proofs.lemmas.List.Elements.{All-head, All-tail, All-nil, All-cons}
use Rattle.wz_bytes.specs.Reading.{Form}
use Rattle.wz_bytes.proofs.ReadingLemmas.{some_is}
use Rattle.wz_module.specs.Sections.{Section, section_rank, ranks_of, Rises, payload_of}
use Rattle.wz_module.specs.Module.{Module}
use Rattle.wz_decode_sections.specs.TypeSection.{IsTypeSection}
use Rattle.wz_decode_sections.specs.ImportSection.{IsImportSection}
use Rattle.wz_decode_sections.specs.FunctionSection.{IsFunctionSection}
use Rattle.wz_decode_sections.specs.TableSection.{IsTableSection}
use Rattle.wz_decode_sections.specs.MemorySection.{IsMemorySection}
use Rattle.wz_decode_sections.specs.GlobalSection.{IsGlobalSection}
use Rattle.wz_decode_sections.specs.ExportSection.{IsExportSection}
use Rattle.wz_decode_sections.specs.StartSection.{IsStartSection}
use Rattle.wz_decode_sections.specs.ElementSection.{IsElementSection}
use Rattle.wz_decode_sections.specs.CodeSection.{IsCodeSection}
use Rattle.wz_decode_sections.specs.DataSection.{IsDataSection}
use Rattle.wz_decode_sections.specs.DataCountSection.{IsDataCountSection}
use Rattle.wz_decode.specs.Parts.{HoldsList, HoldsNumber, IsNamedIfCustom, HasParts}
use Rattle.wz_decode.specs.Contents.{IsPayloadOf, kind_of_id, IsInGrammar}

-- ---- the section with an id

-- what the payload with this id is in the grammar of, if there is one
abbrev HeldAt : List Section → ℕ → Type 0
HeldAt sections id = (payload : List ℕ) → payload_of id sections ≡ Some payload → IsPayloadOf (kind_of_id id) payload

list_held : {X : Type 0} (S : Form (List X)) (o : Option (List ℕ)) (xs : List X) → HoldsList S o xs → (payload : List ℕ) → o ≡ Some payload → (ys : List X) × S payload ys
list_held S o xs h payload e = (xs, subst (λ (o : Option (List ℕ)). HoldsList S o xs) e h)

number_held : (S : Form ℕ) (o : Option (List ℕ)) (n : Option ℕ) → HoldsNumber S o n → (payload : List ℕ) → o ≡ Some payload → (k : ℕ) × S payload k
number_held S o None h payload e = absurd (subst (λ (o : Option (List ℕ)). HoldsNumber S o None) e h)
number_held S o (Some n) h payload e = (n, subst (λ (o : Option (List ℕ)). HoldsNumber S o (Some n)) e h)

or_next : (P : ℕ → Type 0) (id n : ℕ) → P n → (id ≢ n → P id) → P id
or_next P id n here more = elim (cases_eq id n) [ inl is ↦ subst P (sym is) here | inr not ↦ more not ]

-- an id that isn't custom and has a place in the order
held_at : (m : Module) → HasParts m → (id : ℕ) → 0 < section_rank id → HeldAt m.sections id
held_at m h id placed =
    let P = λ (id : ℕ). HeldAt m.sections id in
    or_next P id 1 (list_held (λ t x. IsTypeSection t x) _ _ h.types) (λ n1.
    or_next P id 2 (list_held (λ t x. IsImportSection t x) _ _ h.imports) (λ n2.
    or_next P id 3 (list_held (λ t x. IsFunctionSection t x) _ _ h.functions) (λ n3.
    or_next P id 4 (list_held (λ t x. IsTableSection t x) _ _ h.tables) (λ n4.
    or_next P id 5 (list_held (λ t x. IsMemorySection t x) _ _ h.memories) (λ n5.
    or_next P id 6 (list_held (λ t x. IsGlobalSection t x) _ _ h.globals) (λ n6.
    or_next P id 7 (list_held (λ t x. IsExportSection t x) _ _ h.exports) (λ n7.
    or_next P id 8 (number_held (λ t n. IsStartSection t n) _ _ h.start) (λ n8.
    or_next P id 9 (list_held (λ t x. IsElementSection t x) _ _ h.elements) (λ n9.
    or_next P id 10 (list_held (λ t x. IsCodeSection t x) _ _ h.bodies) (λ n10.
    or_next P id 11 (list_held (λ t x. IsDataSection t x) _ _ h.datas) (λ n11.
    or_next P id 12 (number_held (λ t n. IsDataCountSection t n) _ _ h.data_count) (λ n12.
    let ten = ne_eqb id 10 n10 in
    let eleven = ne_eqb id 11 n11 in
    let twelve = ne_eqb id 12 n12 in
    elim (cases_lt id 10) [
      | inl low ↦
          let rank : section_rank id ≡ id = (let less = lt-ltb id 10 low in rw (ten, eleven, twelve, less) refl) in
          absurd (omega (arith, placed, rank, low, n1, n2, n3, n4, n5, n6, n7, n8, n9))
      | inr high ↦
          let rank : section_rank id ≡ 0 = (let less = le-ltb id 10 high in rw (ten, eleven, twelve, less) refl) in
          absurd (omega (arith, placed, rank))
    ]
    ))))))))))))

-- ---- all sections

-- the same of each id with a place above this one
abbrev HeldAbove : List Section → ℕ → Type 0
HeldAbove sections low = (id : ℕ) → low < section_rank id → HeldAt sections id

other_held : (s : Section) (sections : List Section) (low : ℕ) → HeldAbove (s ∷ sections) low → (id : ℕ) → low < section_rank id → id ≢ s.id → HeldAt sections id
other_held s sections low held id above other payload e =
    let not = ne_eqb s.id id (λ is. other (sym is)) in
    held id above payload (rw not e)

all_in_order : (low : ℕ) (sections : List Section) → Rises low (ranks_of sections) → All IsNamedIfCustom sections → HeldAbove sections low → All IsInGrammar sections
all_in_order low [] rise customs held = All-nil IsInGrammar
all_in_order low (s ∷ sections) rise customs held = elim (cases_Bool (s.id == 0)) [
  | inl custom ↦
      let is = eqb-true s.id 0 custom in
      let named = subst (λ (k : ℕ). IsPayloadOf (kind_of_id k) s.payload) (sym is) (All-head IsNamedIfCustom s sections customs is) in
      let none : (id : ℕ) → low < section_rank id → id ≢ s.id = (λ id above same. let rank : section_rank id ≡ 0 = ap section_rank (same ∙ is) in omega (arith, above, rank)) in
      let held_on : HeldAbove sections low = (λ id above. other_held s sections low held id above (none id above)) in
      let rise_on : Rises low (ranks_of sections) = rw custom at rise in
      All-cons IsInGrammar s sections named (all_in_order low sections rise_on (All-tail IsNamedIfCustom s sections customs) held_on)
  | inr own ↦
      let r : Rises low (section_rank s.id ∷ ranks_of sections) = rw own at rise in
      let here = eq-eqb s.id s.id refl in
      let first : IsInGrammar s = held s.id r.0 s.payload (rw here refl) in
      let none : (id : ℕ) → section_rank s.id < section_rank id → id ≢ s.id = (λ id above same. let rank = ap section_rank same in omega (arith, above, rank)) in
      let held_on : HeldAbove sections (section_rank s.id) = (λ id above. other_held s sections low held id (omega (arith, above, r.0)) (none id above)) in
      All-cons IsInGrammar s sections first (all_in_order (section_rank s.id) sections r.1 (All-tail IsNamedIfCustom s sections customs) held_on)
]

pub all_in_grammar : (m : Module) → HasParts m → All IsInGrammar m.sections
all_in_grammar m h = all_in_order 0 m.sections h.order h.customs (λ id placed. held_at m h id placed)

-- ---- and the parts that such sections hold

held_in : (id : ℕ) (sections : List Section) → All IsInGrammar sections → HeldAt sections id
held_in id [] h payload e = absurd cc
held_in id (s ∷ sections) h payload e = elim (cases_Bool (s.id == id)) [
  | inl is ↦
      let same : Some s.payload ≡ Some payload = rw is at e in
      let first = subst (λ (k : ℕ). IsPayloadOf (kind_of_id k) s.payload) (eqb-true s.id id is) (All-head IsInGrammar s sections h) in
      subst (λ (p : List ℕ). IsPayloadOf (kind_of_id id) p) (some_is s.payload payload same) first
  | inr other ↦ held_in id sections (All-tail IsInGrammar s sections h) payload (rw other at e)
]

named_in : (sections : List Section) → All IsInGrammar sections → All IsNamedIfCustom sections
named_in [] h = All-nil IsNamedIfCustom
named_in (s ∷ sections) h =
    let first : IsNamedIfCustom s = (λ is. subst (λ (k : ℕ). IsPayloadOf (kind_of_id k) s.payload) is (All-head IsInGrammar s sections h)) in
    All-cons IsNamedIfCustom s sections first (named_in sections (All-tail IsInGrammar s sections h))

list_of : {X : Type 0} (S : Form (List X)) (o : Option (List ℕ)) → ((payload : List ℕ) → o ≡ Some payload → (xs : List X) × S payload xs) → (xs : List X) × HoldsList S o xs
list_of S None h = ([], refl)
list_of S (Some payload) h = h payload refl

number_of : (S : Form ℕ) (o : Option (List ℕ)) → ((payload : List ℕ) → o ≡ Some payload → (n : ℕ) × S payload n) → (n : Option ℕ) × HoldsNumber S o n
number_of S None h = (None, refl)
number_of S (Some payload) h = let n = h payload refl in (Some n.0, n.1)

pub parts_of : (sections : List Section) → Rises 0 (ranks_of sections) → All IsInGrammar sections → (m : Module) × (m.sections ≡ sections) × HasParts m
parts_of sections order h =
    let types = list_of (λ t x. IsTypeSection t x) (payload_of 1 sections) (held_in 1 sections h) in
    let imports = list_of (λ t x. IsImportSection t x) (payload_of 2 sections) (held_in 2 sections h) in
    let functions = list_of (λ t x. IsFunctionSection t x) (payload_of 3 sections) (held_in 3 sections h) in
    let tables = list_of (λ t x. IsTableSection t x) (payload_of 4 sections) (held_in 4 sections h) in
    let memories = list_of (λ t x. IsMemorySection t x) (payload_of 5 sections) (held_in 5 sections h) in
    let globals = list_of (λ t x. IsGlobalSection t x) (payload_of 6 sections) (held_in 6 sections h) in
    let exports = list_of (λ t x. IsExportSection t x) (payload_of 7 sections) (held_in 7 sections h) in
    let start = number_of (λ t n. IsStartSection t n) (payload_of 8 sections) (held_in 8 sections h) in
    let elements = list_of (λ t x. IsElementSection t x) (payload_of 9 sections) (held_in 9 sections h) in
    let bodies = list_of (λ t x. IsCodeSection t x) (payload_of 10 sections) (held_in 10 sections h) in
    let datas = list_of (λ t x. IsDataSection t x) (payload_of 11 sections) (held_in 11 sections h) in
    let data_count = number_of (λ t n. IsDataCountSection t n) (payload_of 12 sections) (held_in 12 sections h) in (
      record {
        sections = sections;
        types = types.0;
        imports = imports.0;
        functions = functions.0;
        tables = tables.0;
        memories = memories.0;
        globals = globals.0;
        exports = exports.0;
        start = start.0;
        elements = elements.0;
        data_count = data_count.0;
        bodies = bodies.0;
        datas = datas.0;
      },
      refl,
      record {
        order = order;
        customs = named_in sections h;
        types = types.1;
        imports = imports.1;
        functions = functions.1;
        tables = tables.1;
        memories = memories.1;
        globals = globals.1;
        exports = exports.1;
        start = start.1;
        elements = elements.1;
        data_count = data_count.1;
        bodies = bodies.1;
        datas = datas.1;
      },
    )
