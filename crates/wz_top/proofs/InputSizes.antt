-- A module has no more in its lists than the bytes that spell it.
use Rattle.std.proofs.Common.{◌≡◌, ℕ, ◌+◌, ◌^◌, ◌<◌, ◌≤◌, List, [], ◌∷◌, length, Option, Some, None, sym, ap, subst, ◌∙◌, inl, inr, arith}
use Rattle.std.specs.Prelude.{◌==◌, IsUtf8}
use Rattle.std.specs.List.{All, sum_by}
use Rattle.std.proofs.lemmas.Bool.{cases_Bool}
use Rattle.std.proofs.lemmas.List.{length-append}
use Rattle.std.proofs.lemmas.List.Elements.{All-nil, All-cons, All-head, All-tail}
use Rattle.std.proofs.lemmas.List.Sums.{sum_by-cons}
use Rattle.wz_bytes.specs.Reading.{Form}
use Rattle.wz_bytes.specs.Unsigned.{IsUnsigned}
use Rattle.wz_bytes.specs.Name.{IsName}
use Rattle.wz_bytes.specs.Forms.{IsByte, IsVector, AreItems, IsBytes}
use Rattle.wz_bytes.proofs.UnsignedLaws.{unsigned_below}
use Rattle.wz_module.specs.declared.items.ExportTarget.{ExportTarget}
use Rattle.wz_module.specs.Sections.{Section, payload_of}
use Rattle.wz_module.specs.Exports.{Export}
use Rattle.wz_module.specs.Datas.{PassiveData, ActiveData, DataSegment}
use Rattle.wz_module.specs.Module.{Module}
use Rattle.wz_decode_sections.specs.Productions.{IsSegmentFlag}
use Rattle.wz_decode_sections.specs.ImportSection.{IsImport}
use Rattle.wz_decode_sections.specs.GlobalSection.{IsGlobalDef}
use Rattle.wz_decode_sections.specs.ExportSection.{IsExportTarget, export_from, IsExport}
use Rattle.wz_decode_sections.specs.ElementSection.{IsElem}
use Rattle.wz_decode_sections.specs.DataSection.{data_from, IsData}
use Rattle.wz_decode_sections.proofs.TypeFormLaws.{u32_exact}
use Rattle.wz_decode_sections.proofs.ItemLaws.{import_exact, global_def_exact, export_exact}
use Rattle.wz_decode_sections.proofs.SegmentLaws.{elem_exact, data_exact}
use Rattle.wz_decode.specs.Header.{header}
use Rattle.wz_decode.specs.SectionForm.{section_from, IsSection, AreSections}
use Rattle.wz_decode.specs.Parts.{HoldsList}
use Rattle.wz_decode.specs.Spelling.{Spells}
use Rattle.wz_decode.proofs.ShortLemmas.{TakesSome, no_text, none_u32, none_import, none_global, none_export, none_elem, none_data, vector_within, Measures, first_within, second_within, made_within, production_within, bytes_within, name_within, offset_within, place_within}
use Rattle.wz_encode.specs.Laws.{CanBeIndex, target_index}

-- ---- sections

abbrev pub IsAtMost : ℕ → Section → Type 0
IsAtMost n s = length s.payload ≤ n

payload_measured : Measures (λ t s. IsSection t s) (λ s. length s.payload)
payload_measured text s h = made_within (λ x. section_from x) _ (λ s. length s.payload) (second_within IsByte IsBytes (λ b. length b) bytes_within) text s h

payloads_within : (sections : List Section) (text : List ℕ) (n : ℕ) → AreSections text sections → length text ≤ n → All (IsAtMost n) sections
payloads_within [] text n h few = All-nil (IsAtMost n)
payloads_within (s ∷ sections) text n h few =
    let whole : length text ≡ length h.0 + length h.1 = ap (λ (l : List ℕ). length l) h.2 ∙ length-append h.0 h.1 in
    let one = payload_measured h.0 s h.3 in
    All-cons (IsAtMost n) s sections (omega (arith, whole, one, few)) (payloads_within sections h.1 n h.4 (omega (arith, whole, few)))

abbrev payload_size : Option (List ℕ) → ℕ
payload_size None = 0
payload_size (Some payload) = length payload

payload_within : (id n : ℕ) (sections : List Section) → All (IsAtMost n) sections → payload_size (payload_of id sections) ≤ n
payload_within id n [] all = omega arith
payload_within id n (s ∷ sections) all = elim (cases_Bool (s.id == id)) [
  | inl is ↦ rw is (All-head (IsAtMost n) s sections all)
  | inr not ↦ rw not (payload_within id n sections (All-tail (IsAtMost n) s sections all))
]

-- ---- what sections hold

count_within : {X : Type 0} (S : Form X) → TakesSome S → (n : ℕ) (place : Option (List ℕ)) (xs : List X) → HoldsList (λ t xs. IsVector S t xs) place xs
    → payload_size place ≤ n → length xs ≤ n
count_within {X = X} S some n None xs h few = let none : length xs ≡ 0 = ap (λ (l : List X). length l) h in omega (arith, none)
count_within S some n (Some payload) xs h few = let all = vector_within S some xs payload h in omega (arith, all, few)

items_sum : {X : Type 0} (S : Form X) (size : X → ℕ) → Measures S size → (xs : List X) (text : List ℕ) → AreItems S text xs → sum_by size xs ≤ length text
items_sum S size m [] text h = omega arith
items_sum S size m (x ∷ xs) text h =
    let whole : length text ≡ length h.0 + length h.1 = ap (λ (l : List ℕ). length l) h.2 ∙ length-append h.0 h.1 in
    let one = m h.0 x h.3 in
    let more = items_sum S size m xs h.1 h.4 in
    let step = sum_by-cons size x xs in
    omega (arith, whole, one, more, step)

sum_within : {X : Type 0} (S : Form X) (size : X → ℕ) → Measures S size → (n : ℕ) (place : Option (List ℕ)) (xs : List X) → HoldsList (λ t xs. IsVector S t xs) place xs
    → payload_size place ≤ n → sum_by size xs ≤ n
sum_within {X = X} S size m n None xs h few = let none : sum_by size xs ≡ 0 = ap (λ (l : List X). sum_by size l) h in omega (arith, none)
sum_within S size m n (Some payload) xs h few =
    let whole : length payload ≡ length h.0 + length h.1 = ap (λ (l : List ℕ). length l) h.2 ∙ length-append h.0 h.1 in
    let all = items_sum S size m xs h.1 h.4 in
    omega (arith, whole, all, few)

items_are : {X : Type 0} (S : Form X) (P : X → Type 0) → ((text : List ℕ) (x : X) → S text x → P x) → (xs : List X) (text : List ℕ) → AreItems S text xs → All P xs
items_are S P each [] text h = All-nil P
items_are S P each (x ∷ xs) text h = All-cons P x xs (each h.0 x h.3) (items_are S P each xs h.1 h.4)

held_are : {X : Type 0} (S : Form X) (P : X → Type 0) → ((text : List ℕ) (x : X) → S text x → P x) → (place : Option (List ℕ)) (xs : List X)
    → HoldsList (λ t xs. IsVector S t xs) place xs → All P xs
held_are {X = X} S P each None xs h = subst (λ (ys : List X). All P ys) (sym h) (All-nil P)
held_are S P each (Some payload) xs h = items_are S P each xs h.1 h.4

-- ---- exports and data segments

export_name_within : Measures (λ t x. IsExport t x) (λ x. length x.name)
export_name_within text x h = made_within (λ x. export_from x) _ (λ x. length x.name) (first_within IsName (λ t x. IsExportTarget t x) (λ name. length name) name_within) text x h

data_within : Measures (λ t x. IsData t x) (λ x. length x.bytes)
data_within text x (inl h) = production_within IsSegmentFlag 0 (λ x. data_from (ActiveData 0 x.0) x.1) _ (λ x. length x.bytes) (offset_within IsBytes (λ b. length b) bytes_within) text x h
data_within text x (inr (inl h)) = production_within IsSegmentFlag 1 (λ b. data_from PassiveData b) _ (λ x. length x.bytes) bytes_within text x h
data_within text x (inr (inr h)) = production_within IsSegmentFlag 2 (λ x. data_from (ActiveData x.0 x.1.0) x.1.1) _ (λ x. length x.bytes) (place_within IsBytes (λ b. length b) bytes_within) text x h

-- a name of few bytes
abbrev pub IsExportName : List ℕ → Type 0
IsExportName name = IsUtf8 name × (length name < 2 ^ 32)

abbrev pub IsNamed : Export → Type 0
IsNamed e = IsExportName e.name

export_named : (text : List ℕ) (e : Export) → IsExport text e → IsNamed e
export_named text e h =
    let name = h.1.3 in
    subst IsNamed (sym h.2) (name.1, unsigned_below 32 name.0.0 (length h.0.0) name.0.2)

target_small : (text : List ℕ) (t : ExportTarget) → IsExportTarget text t → CanBeIndex (target_index t)
target_small text t (inl h) = let same = ap target_index h.4.2 in let below = unsigned_below 32 h.1 h.4.0 h.4.1 in omega (arith, same, below)
target_small text t (inr (inl h)) = let same = ap target_index h.4.2 in let below = unsigned_below 32 h.1 h.4.0 h.4.1 in omega (arith, same, below)
target_small text t (inr (inr (inl h))) = let same = ap target_index h.4.2 in let below = unsigned_below 32 h.1 h.4.0 h.4.1 in omega (arith, same, below)
target_small text t (inr (inr (inr h))) = let same = ap target_index h.4.2 in let below = unsigned_below 32 h.1 h.4.0 h.4.1 in omega (arith, same, below)

abbrev pub HasTarget : Export → Type 0
HasTarget e = CanBeIndex (target_index e.target)

export_aimed : (text : List ℕ) (e : Export) → IsExport text e → HasTarget e
export_aimed text e h = subst HasTarget (sym h.2) (target_small h.1.1 h.0.1 h.1.4)

-- ---- the whole

-- each list of the module that the output is written from is no longer than this
pub record IsSmall (n : ℕ) (m : Module) : Type 0 where
  pub payloads : All (IsAtMost n) m.sections
  pub imports : length m.imports ≤ n
  pub functions : length m.functions ≤ n
  pub globals : length m.globals ≤ n
  pub exports : length m.exports ≤ n
  pub elements : length m.elements ≤ n
  pub datas : length m.datas ≤ n
  pub names : sum_by (λ (e : Export). length e.name) m.exports ≤ n
  pub contents : sum_by (λ (d : DataSegment). length d.bytes) m.datas ≤ n

pub spelled_small : (bytes : List ℕ) (m : Module) (n : ℕ) → Spells bytes m → length bytes ≤ n → IsSmall n m
spelled_small bytes m n h few =
    let whole : length bytes ≡ 8 + length h.text = ap (λ (l : List ℕ). length l) h.whole ∙ length-append header h.text in
    let all = payloads_within m.sections h.text n h.sections (omega (arith, whole, few)) in
    let within = λ (id : ℕ). payload_within id n m.sections all in
    let p = h.parts in
    record {
      payloads = all;
      imports = count_within (λ t x. IsImport t x) (no_text _ _ import_exact none_import) n (payload_of 2 m.sections) m.imports p.imports (within 2);
      functions = count_within (λ t x. IsUnsigned 32 t x) (no_text _ _ u32_exact none_u32) n (payload_of 3 m.sections) m.functions p.functions (within 3);
      globals = count_within (λ t x. IsGlobalDef t x) (no_text _ _ global_def_exact none_global) n (payload_of 6 m.sections) m.globals p.globals (within 6);
      exports = count_within (λ t x. IsExport t x) (no_text _ _ export_exact none_export) n (payload_of 7 m.sections) m.exports p.exports (within 7);
      elements = count_within (λ t x. IsElem t x) (no_text _ _ elem_exact none_elem) n (payload_of 9 m.sections) m.elements p.elements (within 9);
      datas = count_within (λ t x. IsData t x) (no_text _ _ data_exact none_data) n (payload_of 11 m.sections) m.datas p.datas (within 11);
      names = sum_within (λ t x. IsExport t x) (λ x. length x.name) export_name_within n (payload_of 7 m.sections) m.exports p.exports (within 7);
      contents = sum_within (λ t x. IsData t x) (λ x. length x.bytes) data_within n (payload_of 11 m.sections) m.datas p.datas (within 11);
    }

pub exports_named : (bytes : List ℕ) (m : Module) → Spells bytes m → All IsNamed m.exports
exports_named bytes m h = held_are (λ t x. IsExport t x) IsNamed export_named (payload_of 7 m.sections) m.exports h.parts.exports

pub exports_aimed : (bytes : List ℕ) (m : Module) → Spells bytes m → All HasTarget m.exports
exports_aimed bytes m h = held_are (λ t x. IsExport t x) HasTarget export_aimed (payload_of 7 m.sections) m.exports h.parts.exports
