-- A module that few bytes spell has short lists.
use Rattle.std.proofs.Common.{◌≡◌, ℕ, ◌+◌, ◌-◌, ◌^◌, ◌≤◌, ◌<◌, List, [], ◌∷◌, length, Option, Some, None, refl, sym, ap, subst, ◌∙◌, arith, inl, inr}
use Rattle.std.specs.Prelude.{◌≢◌, ◌==◌}
use Rattle.std.specs.List.{All}
use Rattle.std.proofs.lemmas.List.{length-append}
use Rattle.std.proofs.lemmas.List.Elements.{All-nil, All-cons}
use Rattle.std.proofs.lemmas.Bool.{cases_Bool, eqb-true}
use Rattle.wz_bytes.specs.Reading.{Form}
use Rattle.wz_bytes.specs.Name.{IsName}
use Rattle.wz_bytes.specs.Forms.{IsByte, Both, IsVector, AreItems, IsBytes}
use Rattle.wz_module.specs.Sections.{Section, payload_of}
use Rattle.wz_module.specs.Elements.{PassiveElem, DeclarativeElem}
use Rattle.wz_module.specs.Datas.{PassiveData, ActiveData}
use Rattle.wz_module.specs.Module.{Module}
use Rattle.wz_module.specs.ShortLists.{HasShortSides, HasShortNames, HasShortLists}
use Rattle.wz_decode_code.specs.Instructions.{IsU32}
use Rattle.wz_decode_sections.specs.Productions.{IsSegmentFlag}
use Rattle.wz_decode_sections.specs.FunctionTypes.{IsResultType, function_type_from, IsFuncType}
use Rattle.wz_decode_sections.specs.Limits.{IsMemType, IsTableType}
use Rattle.wz_decode_sections.specs.ImportSection.{IsImportKind, import_from, IsImport}
use Rattle.wz_decode_sections.specs.GlobalSection.{IsGlobalDef}
use Rattle.wz_decode_sections.specs.ExportSection.{IsExportTarget, export_from, IsExport}
use Rattle.wz_decode_sections.specs.ElementSection.{AreFunctions, AreExpressions, IsFunctionList, IsExpressionList, elem_from, elem_in_first, elem_in_table, IsElem}
use Rattle.wz_decode_sections.specs.CodeSection.{IsCodeEntry}
use Rattle.wz_decode_sections.specs.DataSection.{data_from, IsData}
use Rattle.wz_decode_sections.proofs.TypeFormLaws.{u32_exact, func_type_exact, mem_type_exact, table_type_exact}
use Rattle.wz_decode_sections.proofs.ItemLaws.{import_exact, global_def_exact, export_exact, code_entry_exact}
use Rattle.wz_decode_sections.proofs.SegmentLaws.{elem_exact, data_exact}
use Rattle.wz_decode.specs.Header.{header}
use Rattle.wz_decode.specs.SectionForm.{section_from, IsSection, AreSections}
use Rattle.wz_decode.specs.Parts.{HoldsList}
use Rattle.wz_decode.specs.Front.{IsWhole}
use Rattle.wz_decode.proofs.SectionLaws.{no_section}
use Rattle.wz_decode.proofs.ShortLemmas.{TakesSome, no_text, none_u32, none_import, none_table, none_global, none_export, none_elem, none_entry, none_data, items_within, vector_within, Measures, first_within, second_within, made_within, production_within, bytes_within, name_within, result_within, functions_within, expressions_within, offset_within, place_within, function_list_within, expression_list_within}

-- ---- the lists in items

params_within : Measures (λ t x. IsFuncType t x) (λ x. length x.params)
params_within text x h = production_within IsByte 0x60 (λ x. function_type_from x) _ (λ x. length x.params) (first_within (λ t ts. IsResultType t ts) (λ t ts. IsResultType t ts) (λ ts. length ts) result_within) text x h

results_within : Measures (λ t x. IsFuncType t x) (λ x. length x.results)
results_within text x h = production_within IsByte 0x60 (λ x. function_type_from x) _ (λ x. length x.results) (second_within (λ t ts. IsResultType t ts) (λ t ts. IsResultType t ts) (λ ts. length ts) result_within) text x h

module_name_within : Measures (λ t x. IsImport t x) (λ x. length x.from_module)
module_name_within text x h = made_within (λ x. import_from x) _ (λ x. length x.from_module) (first_within IsName (λ t x. Both IsName (λ t kind. IsImportKind t kind) t x) (λ name. length name) name_within) text x h

import_name_within : Measures (λ t x. IsImport t x) (λ x. length x.name)
import_name_within text x h =
    made_within (λ x. import_from x) _ (λ x. length x.name)
    (second_within IsName (λ t x. Both IsName (λ t kind. IsImportKind t kind) t x) (λ y. length y.0) (first_within IsName (λ t kind. IsImportKind t kind) (λ name. length name) name_within)) text x h

export_name_within : Measures (λ t x. IsExport t x) (λ x. length x.name)
export_name_within text x h = made_within (λ x. export_from x) _ (λ x. length x.name) (first_within IsName (λ t x. IsExportTarget t x) (λ name. length name) name_within) text x h

elem_within : Measures (λ t x. IsElem t x) (λ x. length x.init)
elem_within text x (inl h) =
    production_within IsSegmentFlag 0 (λ x. elem_in_first x) _ (λ x. length x.init) (offset_within AreFunctions (λ init. length init) functions_within) text x h
elem_within text x (inr (inl h)) = production_within IsSegmentFlag 1 (λ x. elem_from PassiveElem x) _ (λ x. length x.init) function_list_within text x h
elem_within text x (inr (inr (inl h))) = production_within IsSegmentFlag 2 (λ x. elem_in_table x) _ (λ x. length x.init) (place_within IsFunctionList (λ x. length x.1) function_list_within) text x h
elem_within text x (inr (inr (inr (inl h)))) = production_within IsSegmentFlag 3 (λ x. elem_from DeclarativeElem x) _ (λ x. length x.init) function_list_within text x h
elem_within text x (inr (inr (inr (inr (inl h))))) = production_within IsSegmentFlag 4 (λ x. elem_in_first x) _ (λ x. length x.init) (offset_within AreExpressions (λ init. length init) expressions_within) text x h
elem_within text x (inr (inr (inr (inr (inr (inl h)))))) = production_within IsSegmentFlag 5 (λ x. elem_from PassiveElem x) _ (λ x. length x.init) expression_list_within text x h
elem_within text x (inr (inr (inr (inr (inr (inr (inl h))))))) = production_within IsSegmentFlag 6 (λ x. elem_in_table x) _ (λ x. length x.init) (place_within IsExpressionList (λ x. length x.1) expression_list_within) text x h
elem_within text x (inr (inr (inr (inr (inr (inr (inr h))))))) = production_within IsSegmentFlag 7 (λ x. elem_from DeclarativeElem x) _ (λ x. length x.init) expression_list_within text x h

data_within : Measures (λ t x. IsData t x) (λ x. length x.bytes)
data_within text x (inl h) = production_within IsSegmentFlag 0 (λ x. data_from (ActiveData 0 x.0) x.1) _ (λ x. length x.bytes) (offset_within IsBytes (λ b. length b) bytes_within) text x h
data_within text x (inr (inl h)) = production_within IsSegmentFlag 1 (λ b. data_from PassiveData b) _ (λ x. length x.bytes) bytes_within text x h
data_within text x (inr (inr h)) = production_within IsSegmentFlag 2 (λ x. data_from (ActiveData x.0 x.1.0) x.1.1) _ (λ x. length x.bytes) (place_within IsBytes (λ b. length b) bytes_within) text x h

payload_measured : Measures (λ t s. IsSection t s) (λ s. length s.payload)
payload_measured text s h = made_within (λ x. section_from x) _ (λ s. length s.payload) (second_within IsByte IsBytes (λ b. length b) bytes_within) text s h

-- ---- sections and their payloads

total : List Section → ℕ
total [] = 0
total (s ∷ sections) = length s.payload + total sections

abbrev size_at : Option (List ℕ) → ℕ
size_at None = 0
size_at (Some payload) = length payload

total_within : (sections : List Section) (text : List ℕ) → AreSections text sections → total sections ≤ length text
unfolding total
total_within [] text h = omega arith
total_within (s ∷ sections) text h = omega (arith, payload_measured h.0 s h.3, total_within sections h.1 h.4, ap (λ (l : List ℕ). length l) h.2, length-append h.0 h.1)

one_within : (k : ℕ) (sections : List Section) → size_at (payload_of k sections) ≤ total sections
unfolding total
one_within k [] = omega arith
one_within k (s ∷ sections) = elim (cases_Bool (s.id == k)) [
  | inl is ↦ rw is (omega arith)
  | inr not ↦ rw not (let more = one_within k sections in omega (arith, more))
]

two_within : (i j : ℕ) (sections : List Section) → i ≢ j → size_at (payload_of i sections) + size_at (payload_of j sections) ≤ total sections
unfolding total
two_within i j [] apart = omega arith
two_within i j (s ∷ sections) apart = elim (cases_Bool (s.id == i)) [
  | inl first ↦ elim (cases_Bool (s.id == j)) [
    | inl second ↦ absurd (apart (sym (eqb-true s.id i first) ∙ eqb-true s.id j second))
    | inr not ↦ rw (first, not) (let more = one_within j sections in omega (arith, more))
  ]
  | inr not_first ↦ elim (cases_Bool (s.id == j)) [
    | inl second ↦ rw (not_first, second) (let more = one_within i sections in omega (arith, more))
    | inr not ↦ rw (not_first, not) (let more = two_within i j sections apart in omega (arith, more))
  ]
]

-- ---- the lists of a module

held_within : {X : Type 0} (S : Form X) → TakesSome S → (payload : Option (List ℕ)) (xs : List X) → HoldsList (λ t xs. IsVector S t xs) payload xs → length xs ≤ size_at payload
held_within S some None xs h = omega (arith, ap (λ (l : List _). length l) h)
held_within S some (Some payload) xs h = vector_within S some xs payload h

items_all : {X : Type 0} (S : Form X) (P : X → Type 0) (n : ℕ) → ((text : List ℕ) (x : X) → S text x → length text ≤ n → P x) → (xs : List X) (text : List ℕ) → AreItems S text xs → length text ≤ n → All P xs
items_all S P n each [] text h less = All-nil P
items_all S P n each (x ∷ xs) text h less =
    let whole : length text ≡ length h.0 + length h.1 = ap (λ (l : List ℕ). length l) h.2 ∙ length-append h.0 h.1 in
    All-cons P x xs (each h.0 x h.3 (omega (arith, whole, less))) (items_all S P n each xs h.1 h.4 (omega (arith, whole, less)))

held_all : {X : Type 0} (S : Form X) (P : X → Type 0) (n : ℕ) → ((text : List ℕ) (x : X) → S text x → length text ≤ n → P x) → (payload : Option (List ℕ)) (xs : List X) → HoldsList (λ t xs. IsVector S t xs) payload xs
    → size_at payload ≤ n → All P xs
held_all {X = X} S P n each None xs h less = subst (λ (ys : List X). All P ys) (sym h) (All-nil P)
held_all S P n each (Some payload) xs h less = items_all S P n each xs h.1 h.4 (omega (arith, less, ap (λ (l : List ℕ). length l) h.2, length-append h.0 h.1))

pub short_lists : (bytes : List ℕ) (m : Module) → IsWhole bytes m → length bytes < 2 ^ 32 - 1 → HasShortLists m
short_lists bytes m w small =
    let n = length w.text in
    let text : length bytes ≡ 8 + n = ap (λ (l : List ℕ). length l) w.whole ∙ length-append header w.text in
    let all = total_within m.sections w.text w.sections in
    let p = w.parts in
    let within = λ (k : ℕ). one_within k m.sections in
    let imports = held_within (λ t x. IsImport t x) (no_text _ _ import_exact none_import) (payload_of 2 m.sections) m.imports p.imports in
    let functions = held_within (λ t n. IsU32 t n) (no_text _ _ u32_exact none_u32) (payload_of 3 m.sections) m.functions p.functions in
    let tables = held_within (λ t x. IsTableType t x) (no_text _ _ table_type_exact none_table) (payload_of 4 m.sections) m.tables p.tables in
    let memories = held_within (λ t x. IsMemType t x) (no_text _ _ mem_type_exact refl) (payload_of 5 m.sections) m.memories p.memories in
    let globals = held_within (λ t x. IsGlobalDef t x) (no_text _ _ global_def_exact none_global) (payload_of 6 m.sections) m.globals p.globals in
    record {
      functions = omega (arith, imports, functions, two_within 2 3 m.sections (λ e. omega (arith, e)), all, text, small);
      tables = omega (arith, imports, tables, two_within 2 4 m.sections (λ e. omega (arith, e)), all, text, small);
      memories = omega (arith, imports, memories, two_within 2 5 m.sections (λ e. omega (arith, e)), all, text, small);
      globals = omega (arith, imports, globals, two_within 2 6 m.sections (λ e. omega (arith, e)), all, text, small);
      sections = omega (arith, items_within (λ t s. IsSection t s) no_section m.sections w.text w.sections, text, small);
      types = omega (arith, held_within (λ t x. IsFuncType t x) (no_text _ _ func_type_exact refl) (payload_of 1 m.sections) m.types p.types, within 1, all, text, small);
      exports = omega (arith, held_within (λ t x. IsExport t x) (no_text _ _ export_exact none_export) (payload_of 7 m.sections) m.exports p.exports, within 7, all, text, small);
      elements = omega (arith, held_within (λ t x. IsElem t x) (no_text _ _ elem_exact none_elem) (payload_of 9 m.sections) m.elements p.elements, within 9, all, text, small);
      bodies = omega (arith, held_within (λ t x. IsCodeEntry t x) (no_text _ _ code_entry_exact none_entry) (payload_of 10 m.sections) m.bodies p.bodies, within 10, all, text, small);
      datas = omega (arith, held_within (λ t x. IsData t x) (no_text _ _ data_exact none_data) (payload_of 11 m.sections) m.datas p.datas, within 11, all, text, small);
      payloads = items_all (λ t s. IsSection t s) (λ s. length s.payload < 2 ^ 32 - 1) n (λ t s h less. omega (arith, payload_measured t s h, less, text, small)) m.sections w.text w.sections (omega arith);
      signatures = held_all (λ t x. IsFuncType t x) HasShortSides n (λ t x h less. (omega (arith, params_within t x h, less, text, small), omega (arith, results_within t x h, less, text, small))) (payload_of 1 m.sections) m.types p.types (omega (arith, within 1, all));
      import_names = held_all (λ t x. IsImport t x) HasShortNames n (λ t x h less. (omega (arith, module_name_within t x h, less, text, small), omega (arith, import_name_within t x h, less, text, small))) (payload_of 2 m.sections) m.imports p.imports (omega (arith, within 2, all));
      export_names = held_all (λ t x. IsExport t x) (λ x. length x.name < 2 ^ 32 - 1) n (λ t x h less. omega (arith, export_name_within t x h, less, text, small)) (payload_of 7 m.sections) m.exports p.exports (omega (arith, within 7, all));
      references = held_all (λ t x. IsElem t x) (λ x. length x.init < 2 ^ 32 - 1) n (λ t x h less. omega (arith, elem_within t x h, less, text, small)) (payload_of 9 m.sections) m.elements p.elements (omega (arith, within 9, all));
      contents = held_all (λ t x. IsData t x) (λ x. length x.bytes < 2 ^ 32 - 1) n (λ t x h less. omega (arith, data_within t x h, less, text, small)) (payload_of 11 m.sections) m.datas p.datas (omega (arith, within 11, all));
    }
