-- Bytes spell at most one module, and are at most one module's sections.
use Rattle.std.proofs.Common.{◌≡◌, ℕ, List, ◌++◌, length, Option, Some, None, sym, ap, subst, ◌∙◌}
use Rattle.wz_bytes.specs.Reading.{Form}
use Rattle.wz_bytes.specs.Forms.{items_at}
use Rattle.wz_bytes.proofs.ReadingLemmas.{one_front}
use Rattle.wz_bytes.proofs.FormLaws.{items_exact}
use Rattle.wz_module.specs.Sections.{Section, payload_of}
use Rattle.wz_types.specs.declared.types.TableType.{TableType}
use Rattle.wz_types.specs.declared.types.MemType.{MemType}
use Rattle.wz_types.specs.FunctionType.{FunctionType}
use Rattle.wz_module.specs.Imports.{Import}
use Rattle.wz_module.specs.Exports.{Export}
use Rattle.wz_module.specs.Functions.{BodyTree}
use Rattle.wz_module.specs.Globals.{GlobalDef}
use Rattle.wz_module.specs.Elements.{Elem}
use Rattle.wz_module.specs.Datas.{DataSegment}
use Rattle.wz_module.specs.Module.{Module}
use Rattle.wz_decode_sections.specs.TypeSection.{IsTypeSection}
use Rattle.wz_decode_sections.specs.ImportSection.{IsImportSection}
use Rattle.wz_decode_sections.specs.FunctionSection.{IsFunctionSection}
use Rattle.wz_decode_sections.specs.TableSection.{IsTableSection}
use Rattle.wz_decode_sections.specs.MemorySection.{IsMemorySection}
use Rattle.wz_decode_sections.specs.GlobalSection.{IsGlobalSection}
use Rattle.wz_decode_sections.specs.ExportSection.{IsExportSection}
use Rattle.wz_decode_sections.specs.StartSection.{IsStartSection}
use Rattle.wz_decode_sections.specs.ElementSection.{IsElementSection}
use Rattle.wz_decode_sections.specs.CodeSection.{IsCodeSection}
use Rattle.wz_decode_sections.specs.DataSection.{IsDataSection}
use Rattle.wz_decode_sections.specs.DataCountSection.{IsDataCountSection}
use Rattle.wz_decode_sections.specs.Laws.{SpellsOne}
use Rattle.wz_decode_sections.proofs.PayloadLaws.{one_payload}
use Rattle.wz_decode.specs.Header.{header}
use Rattle.wz_decode.specs.SectionForm.{IsSection, AreSections, section_at}
use Rattle.wz_decode.specs.Parts.{HoldsList, HoldsNumber, HasParts}
use Rattle.wz_decode.specs.Front.{IsWhole}
use Rattle.wz_decode.specs.Spelling.{Spells}
use Rattle.wz_decode.specs.Laws.{OneModule, OneFrontOfSections}
use Rattle.wz_decode.proofs.SectionLaws.{section_exact, one_list_of_sections}

pub one_front_of_sections : OneFrontOfSections
one_front_of_sections n =
    one_front (λ text sections. AreSections text sections × (length sections ≡ n)) (λ b. items_at (λ b. section_at b) n b) (items_exact (λ t s. IsSection t s) (λ b. section_at b) section_exact n)

one_part : {X : Type 0} (S : Form (List X)) → SpellsOne S → (payload : Option (List ℕ)) (xs ys : List X) → HoldsList S payload xs → HoldsList S payload ys → xs ≡ ys
one_part S one None xs ys h k = h ∙ sym k
one_part S one (Some payload) xs ys h k = one payload xs ys h k

one_number : (S : Form ℕ) → SpellsOne S → (payload : Option (List ℕ)) (n k : Option ℕ) → HoldsNumber S payload n → HoldsNumber S payload k → n ≡ k
one_number S one None n k h i = h ∙ sym i
one_number S one (Some payload) None k h i = absurd h
one_number S one (Some payload) (Some n) None h i = absurd i
one_number S one (Some payload) (Some n) (Some k) h i = ap (λ (n : ℕ). Some n) (one payload n k h i)

abbrev made_of : List Section → List FunctionType → List Import → List ℕ → List TableType → List MemType → List GlobalDef → List Export → Option ℕ → List Elem → Option ℕ → List BodyTree → List DataSegment → Module
made_of sections types imports functions tables memories globals exports start elements data_count bodies datas = record { sections = sections; types = types; imports = imports; functions = functions; tables = tables; memories = memories; globals = globals; exports = exports; start = start; elements = elements; data_count = data_count; bodies = bodies; datas = datas }

of_parts : (sections1 sections2 : List Section) (types1 types2 : List FunctionType) (imports1 imports2 : List Import) (functions1 functions2 : List ℕ) (tables1 tables2 : List TableType) (memories1 memories2 : List MemType) (globals1 globals2 : List GlobalDef) (exports1 exports2 : List Export) (start1 start2 : Option ℕ) (elements1 elements2 : List Elem) (data_count1 data_count2 : Option ℕ) (bodies1 bodies2 : List BodyTree) (datas1 datas2 : List DataSegment)
    → sections1 ≡ sections2 → types1 ≡ types2 → imports1 ≡ imports2 → functions1 ≡ functions2 → tables1 ≡ tables2 → memories1 ≡ memories2 → globals1 ≡ globals2 → exports1 ≡ exports2 → start1 ≡ start2 → elements1 ≡ elements2 → data_count1 ≡ data_count2 → bodies1 ≡ bodies2 → datas1 ≡ datas2
    → made_of sections1 types1 imports1 functions1 tables1 memories1 globals1 exports1 start1 elements1 data_count1 bodies1 datas1 ≡ made_of sections2 types2 imports2 functions2 tables2 memories2 globals2 exports2 start2 elements2 data_count2 bodies2 datas2
of_parts sections1 sections2 types1 types2 imports1 imports2 functions1 functions2 tables1 tables2 memories1 memories2 globals1 globals2 exports1 exports2 start1 start2 elements1 elements2 data_count1 data_count2 bodies1 bodies2 datas1 datas2 e0 e1 e2 e3 e4 e5 e6 e7 e8 e9 e10 e11 e12 = cc

same_parts : (m n : Module) → m.sections ≡ n.sections → HasParts m → HasParts n → m ≡ n
same_parts m n same h k =
    let types = one_part (λ t x. IsTypeSection t x) one_payload.types _ _ _ h.types (subst (λ (s : List Section). HoldsList (λ t x. IsTypeSection t x) (payload_of 1 s) n.types) (sym same) k.types) in
    let imports = one_part (λ t x. IsImportSection t x) one_payload.imports _ _ _ h.imports (subst (λ (s : List Section). HoldsList (λ t x. IsImportSection t x) (payload_of 2 s) n.imports) (sym same) k.imports) in
    let functions = one_part (λ t x. IsFunctionSection t x) one_payload.functions _ _ _ h.functions (subst (λ (s : List Section). HoldsList (λ t x. IsFunctionSection t x) (payload_of 3 s) n.functions) (sym same) k.functions) in
    let tables = one_part (λ t x. IsTableSection t x) one_payload.tables _ _ _ h.tables (subst (λ (s : List Section). HoldsList (λ t x. IsTableSection t x) (payload_of 4 s) n.tables) (sym same) k.tables) in
    let memories = one_part (λ t x. IsMemorySection t x) one_payload.memories _ _ _ h.memories (subst (λ (s : List Section). HoldsList (λ t x. IsMemorySection t x) (payload_of 5 s) n.memories) (sym same) k.memories) in
    let globals = one_part (λ t x. IsGlobalSection t x) one_payload.globals _ _ _ h.globals (subst (λ (s : List Section). HoldsList (λ t x. IsGlobalSection t x) (payload_of 6 s) n.globals) (sym same) k.globals) in
    let exports = one_part (λ t x. IsExportSection t x) one_payload.exports _ _ _ h.exports (subst (λ (s : List Section). HoldsList (λ t x. IsExportSection t x) (payload_of 7 s) n.exports) (sym same) k.exports) in
    let start = one_number (λ t n. IsStartSection t n) one_payload.start _ _ _ h.start (subst (λ (s : List Section). HoldsNumber (λ t n. IsStartSection t n) (payload_of 8 s) n.start) (sym same) k.start) in
    let elements = one_part (λ t x. IsElementSection t x) one_payload.elements _ _ _ h.elements (subst (λ (s : List Section). HoldsList (λ t x. IsElementSection t x) (payload_of 9 s) n.elements) (sym same) k.elements) in
    let data_count = one_number (λ t n. IsDataCountSection t n) one_payload.data_count _ _ _ h.data_count (subst (λ (s : List Section). HoldsNumber (λ t n. IsDataCountSection t n) (payload_of 12 s) n.data_count) (sym same) k.data_count) in
    let bodies = one_part (λ t x. IsCodeSection t x) one_payload.bodies _ _ _ h.bodies (subst (λ (s : List Section). HoldsList (λ t x. IsCodeSection t x) (payload_of 10 s) n.bodies) (sym same) k.bodies) in
    let datas = one_part (λ t x. IsDataSection t x) one_payload.datas _ _ _ h.datas (subst (λ (s : List Section). HoldsList (λ t x. IsDataSection t x) (payload_of 11 s) n.datas) (sym same) k.datas) in
    of_parts _ _ _ _ _ _ _ _ _ _ _ _ _ _ _ _ _ _ _ _ _ _ _ _ _ _ same types imports functions tables memories globals exports start elements data_count bodies datas

pub behind_header : (a b : List ℕ) → header ++ a ≡ header ++ b → a ≡ b
behind_header a b e = cc

pub one_whole : (bytes : List ℕ) (m n : Module) → IsWhole bytes m → IsWhole bytes n → m ≡ n
one_whole bytes m n h k =
    let text : h.text ≡ k.text = behind_header h.text k.text (sym h.whole ∙ k.whole) in
    let same = one_list_of_sections m.sections n.sections h.text h.sections (subst (λ (t : List ℕ). AreSections t n.sections) (sym text) k.sections) in
    same_parts m n same h.parts k.parts

-- a module that bytes spell is all of them
pub whole_of : (bytes : List ℕ) (m : Module) → Spells bytes m → IsWhole bytes m
whole_of bytes m h = record { text = h.text; whole = h.whole; sections = h.sections; parts = h.parts }

pub one_module : OneModule
one_module bytes m n h k = one_whole bytes m n (whole_of bytes m h) (whole_of bytes n k)
