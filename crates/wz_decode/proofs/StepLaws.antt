-- One section more behind sections that are in order: what it holds becomes the module's, and all other parts stay.
use Rattle.std.proofs.Common.{◌≡◌, ℕ, ◌<◌, ◌≤◌, List, [], ◌∷◌, ◌++◌, map, Option, Some, None, true, false, refl, sym, ap, subst, ◌∙◌, arith, inl, inr}
use Rattle.std.specs.Prelude.{◌≢◌, ◌==◌}
use Rattle.std.specs.List.{All}
use Rattle.std.proofs.lemmas.List.{append-nil, map-append}
use Rattle.std.proofs.lemmas.Bool.{cases_Bool, eqb-true, eq-eqb, ne_eqb, le-ltb}
use Rattle.std.proofs.lemmas.List.Elements.{All-push}
use Rattle.wz_module.specs.declared.items.Section as code
use Rattle.wz_module.specs.Sections.{Section, section_rank, ranks_of, Rises, payload_of}
use Rattle.wz_module.specs.Views.{section_of}
use Rattle.wz_types.specs.declared.types.TableType.{TableType}
use Rattle.wz_types.specs.declared.types.MemType.{MemType}
use Rattle.wz_types.specs.FunctionType.{FunctionType}
use Rattle.wz_module.specs.Imports.{Import}
use Rattle.wz_module.specs.Exports.{Export}
use Rattle.wz_module.specs.Functions.{BodyTree}
use Rattle.wz_module.specs.Globals.{GlobalDef}
use Rattle.wz_module.specs.Elements.{Elem}
use Rattle.wz_module.specs.Datas.{DataSegment}
use Rattle.wz_module.specs.Module.{Module}
use Rattle.wz_decode_sections.specs.TypeSection.{IsTypeSection}
use Rattle.wz_decode_sections.specs.ImportSection.{IsImportSection}
use Rattle.wz_decode_sections.specs.FunctionSection.{IsFunctionSection}
use Rattle.wz_decode_sections.specs.TableSection.{IsTableSection}
use Rattle.wz_decode_sections.specs.MemorySection.{IsMemorySection}
use Rattle.wz_decode_sections.specs.GlobalSection.{IsGlobalSection}
use Rattle.wz_decode_sections.specs.ExportSection.{IsExportSection}
use Rattle.wz_decode_sections.specs.StartSection.{IsStartSection}
use Rattle.wz_decode_sections.specs.ElementSection.{IsElementSection}
use Rattle.wz_decode_sections.specs.CodeSection.{IsCodeSection}
use Rattle.wz_decode_sections.specs.DataSection.{IsDataSection}
use Rattle.wz_decode_sections.specs.DataCountSection.{IsDataCountSection}
use Rattle.wz_decode_sections.specs.CustomSection.{IsCustomSection}
use Rattle.wz_decode_code.specs.Laws.{SpellsNone}
use Rattle.wz_decode.specs.Parts.{HoldsList, HoldsNumber, IsNamedIfCustom, HasParts}
use Rattle.wz_decode.specs.Contents.{IsPayloadOf, kind_of_id, IsInGrammar}
use Rattle.wz_decode.specs.Front.{last_of, HasFront, MayFollow}

-- ---- ranks

pub ranks_of-append : (xs ys : List Section) → ranks_of (xs ++ ys) ≡ ranks_of xs ++ ranks_of ys
ranks_of-append [] ys = refl
ranks_of-append (s ∷ xs) ys = elim (cases_Bool (s.id == 0)) [
  | inl custom ↦ rw (custom, ranks_of-append xs ys) refl
  | inr own ↦ rw (own, ranks_of-append xs ys) refl
]

rises_push : (low n : ℕ) (ns : List ℕ) → Rises low ns → last_of low ns < n → Rises low (ns ++ n ∷ [])
rises_push low n [] r h = (h, tt)
rises_push low n (k ∷ ns) r h = (r.0, rises_push k n ns r.1 h)

pub rises_last : (low n : ℕ) (ns : List ℕ) → Rises low (ns ++ n ∷ []) → last_of low ns < n
rises_last low n [] r = r.0
rises_last low n (k ∷ ns) r = rises_last k n ns r.1

last_push : (low n : ℕ) (ns : List ℕ) → last_of low (ns ++ n ∷ []) ≡ n
last_push low n [] = refl
last_push low n (k ∷ ns) = last_push k n ns

at_most_last : (low : ℕ) (ns : List ℕ) → Rises low ns → low ≤ last_of low ns
at_most_last low [] r = omega arith
at_most_last low (n ∷ ns) r = let more = at_most_last n ns r.1 in omega (arith, more, r.0)

-- ---- the payload of an id

abbrev or_else : {A : Type 0} → Option A → Option A → Option A
or_else None y = y
or_else (Some x) y = Some x

payload_of-append : (k : ℕ) (xs ys : List Section) → payload_of k (xs ++ ys) ≡ or_else (payload_of k xs) (payload_of k ys)
payload_of-append k [] ys = refl
payload_of-append k (s ∷ xs) ys = elim (cases_Bool (s.id == k)) [
  | inl is ↦ rw is refl
  | inr other ↦ rw (other, payload_of-append k xs ys) refl
]

or_none : {A : Type 0} (o : Option A) → or_else o None ≡ o
or_none None = refl
or_none (Some x) = refl

stays : (k : ℕ) (sections : List Section) (s : Section) → (s.id == k) ≡ false → payload_of k sections ≡ payload_of k (sections ++ s ∷ [])
stays k sections s other = sym (payload_of-append k sections (s ∷ []) ∙ (rw other (or_none (payload_of k sections))))

absent : (k low : ℕ) (sections : List Section) → k ≢ 0 → Rises low (ranks_of sections) → last_of low (ranks_of sections) < section_rank k → payload_of k sections ≡ None
absent k low [] some rise less = refl
absent k low (s ∷ sections) some rise less = elim (cases_Bool (s.id == 0)) [
  | inl custom ↦
      let other : (s.id == k) ≡ false = ne_eqb s.id k (λ e. some (sym e ∙ eqb-true s.id 0 custom)) in
      let less_now : last_of low (ranks_of sections) < section_rank k = rw custom at less in
      rw other (absent k low sections some (rw custom at rise) less_now)
  | inr own ↦
      let r : Rises low (section_rank s.id ∷ ranks_of sections) = rw own at rise in
      let l : last_of (section_rank s.id) (ranks_of sections) < section_rank k = rw own at less in
      let at_most = at_most_last (section_rank s.id) (ranks_of sections) r.1 in
      let other : (s.id == k) ≡ false = ne_eqb s.id k (λ e. let same = ap section_rank e in omega (arith, same, at_most, l)) in
      rw other (absent k (section_rank s.id) sections some r.1 l)
]

-- ---- sections with one more, of this id

record Grows (k : ℕ) (old now : List Section) (payload : List ℕ) : Type 0 where
  order : Rises 0 (ranks_of now)
  customs : All IsNamedIfCustom now
  last : section_rank k ≡ last_of 0 (ranks_of now)
  new : payload_of k now ≡ Some payload
  other : (j : ℕ) → j ≢ k → payload_of j old ≡ payload_of j now

grows : (k : ℕ) (m : Module) (last : ℕ) (s : Section) → s.id ≡ k → k ≢ 0 → HasFront m last → last < section_rank k → Grows k m.sections (m.sections ++ s ∷ []) s.payload
grows k m last s id some h less =
    let own : (s.id == 0) ≡ false = ne_eqb s.id 0 (λ e. some (sym id ∙ e)) in
    let one : ranks_of (s ∷ []) ≡ section_rank k ∷ [] = rw own (ap (λ (n : ℕ). section_rank n ∷ []) id) in
    let ranks : ranks_of (m.sections ++ s ∷ []) ≡ ranks_of m.sections ++ section_rank k ∷ [] = ranks_of-append m.sections (s ∷ []) ∙ ap (λ (ns : List ℕ). ranks_of m.sections ++ ns) one in
    let above : last_of 0 (ranks_of m.sections) < section_rank k = subst (λ (n : ℕ). n < section_rank k) h.0 less in
    let is : (s.id == k) ≡ true = eq-eqb s.id k id in
    let none = absent k 0 m.sections some h.1.order above in
    record {
      order = rw ranks (rises_push 0 (section_rank k) (ranks_of m.sections) h.1.order above);
      customs = All-push IsNamedIfCustom m.sections s h.1.customs (λ e. absurd (some (sym id ∙ e)));
      last = sym (rw ranks (last_push 0 (section_rank k) (ranks_of m.sections)));
      new = payload_of-append k m.sections (s ∷ []) ∙ (rw (none, is) refl);
      other = λ j not. stays j m.sections s (ne_eqb s.id j (λ e. not (sym e ∙ id)));
    }

types_step : (m : Module) (now : List Section) (payload : List ℕ) (xs : List FunctionType) → Grows 1 m.sections now payload → HasParts m → IsTypeSection payload xs
    → HasParts (record m { sections = now; types = xs })
types_step m now payload xs g h spelled = record {
  order = g.order;
  customs = g.customs;
  types = subst (λ (o : Option (List ℕ)). HoldsList (λ t x. IsTypeSection t x) o (xs)) (sym g.new) spelled;
  imports = subst (λ (o : Option (List ℕ)). HoldsList (λ t x. IsImportSection t x) o m.imports) (g.other 2 (λ e. omega (arith, e))) h.imports;
  functions = subst (λ (o : Option (List ℕ)). HoldsList (λ t x. IsFunctionSection t x) o m.functions) (g.other 3 (λ e. omega (arith, e))) h.functions;
  tables = subst (λ (o : Option (List ℕ)). HoldsList (λ t x. IsTableSection t x) o m.tables) (g.other 4 (λ e. omega (arith, e))) h.tables;
  memories = subst (λ (o : Option (List ℕ)). HoldsList (λ t x. IsMemorySection t x) o m.memories) (g.other 5 (λ e. omega (arith, e))) h.memories;
  globals = subst (λ (o : Option (List ℕ)). HoldsList (λ t x. IsGlobalSection t x) o m.globals) (g.other 6 (λ e. omega (arith, e))) h.globals;
  exports = subst (λ (o : Option (List ℕ)). HoldsList (λ t x. IsExportSection t x) o m.exports) (g.other 7 (λ e. omega (arith, e))) h.exports;
  start = subst (λ (o : Option (List ℕ)). HoldsNumber (λ t n. IsStartSection t n) o m.start) (g.other 8 (λ e. omega (arith, e))) h.start;
  elements = subst (λ (o : Option (List ℕ)). HoldsList (λ t x. IsElementSection t x) o m.elements) (g.other 9 (λ e. omega (arith, e))) h.elements;
  data_count = subst (λ (o : Option (List ℕ)). HoldsNumber (λ t n. IsDataCountSection t n) o m.data_count) (g.other 12 (λ e. omega (arith, e))) h.data_count;
  bodies = subst (λ (o : Option (List ℕ)). HoldsList (λ t x. IsCodeSection t x) o m.bodies) (g.other 10 (λ e. omega (arith, e))) h.bodies;
  datas = subst (λ (o : Option (List ℕ)). HoldsList (λ t x. IsDataSection t x) o m.datas) (g.other 11 (λ e. omega (arith, e))) h.datas;
}

imports_step : (m : Module) (now : List Section) (payload : List ℕ) (xs : List Import) → Grows 2 m.sections now payload → HasParts m → IsImportSection payload xs
    → HasParts (record m { sections = now; imports = xs })
imports_step m now payload xs g h spelled = record {
  order = g.order;
  customs = g.customs;
  types = subst (λ (o : Option (List ℕ)). HoldsList (λ t x. IsTypeSection t x) o m.types) (g.other 1 (λ e. omega (arith, e))) h.types;
  imports = subst (λ (o : Option (List ℕ)). HoldsList (λ t x. IsImportSection t x) o (xs)) (sym g.new) spelled;
  functions = subst (λ (o : Option (List ℕ)). HoldsList (λ t x. IsFunctionSection t x) o m.functions) (g.other 3 (λ e. omega (arith, e))) h.functions;
  tables = subst (λ (o : Option (List ℕ)). HoldsList (λ t x. IsTableSection t x) o m.tables) (g.other 4 (λ e. omega (arith, e))) h.tables;
  memories = subst (λ (o : Option (List ℕ)). HoldsList (λ t x. IsMemorySection t x) o m.memories) (g.other 5 (λ e. omega (arith, e))) h.memories;
  globals = subst (λ (o : Option (List ℕ)). HoldsList (λ t x. IsGlobalSection t x) o m.globals) (g.other 6 (λ e. omega (arith, e))) h.globals;
  exports = subst (λ (o : Option (List ℕ)). HoldsList (λ t x. IsExportSection t x) o m.exports) (g.other 7 (λ e. omega (arith, e))) h.exports;
  start = subst (λ (o : Option (List ℕ)). HoldsNumber (λ t n. IsStartSection t n) o m.start) (g.other 8 (λ e. omega (arith, e))) h.start;
  elements = subst (λ (o : Option (List ℕ)). HoldsList (λ t x. IsElementSection t x) o m.elements) (g.other 9 (λ e. omega (arith, e))) h.elements;
  data_count = subst (λ (o : Option (List ℕ)). HoldsNumber (λ t n. IsDataCountSection t n) o m.data_count) (g.other 12 (λ e. omega (arith, e))) h.data_count;
  bodies = subst (λ (o : Option (List ℕ)). HoldsList (λ t x. IsCodeSection t x) o m.bodies) (g.other 10 (λ e. omega (arith, e))) h.bodies;
  datas = subst (λ (o : Option (List ℕ)). HoldsList (λ t x. IsDataSection t x) o m.datas) (g.other 11 (λ e. omega (arith, e))) h.datas;
}

functions_step : (m : Module) (now : List Section) (payload : List ℕ) (xs : List ℕ) → Grows 3 m.sections now payload → HasParts m → IsFunctionSection payload xs
    → HasParts (record m { sections = now; functions = xs })
functions_step m now payload xs g h spelled = record {
  order = g.order;
  customs = g.customs;
  types = subst (λ (o : Option (List ℕ)). HoldsList (λ t x. IsTypeSection t x) o m.types) (g.other 1 (λ e. omega (arith, e))) h.types;
  imports = subst (λ (o : Option (List ℕ)). HoldsList (λ t x. IsImportSection t x) o m.imports) (g.other 2 (λ e. omega (arith, e))) h.imports;
  functions = subst (λ (o : Option (List ℕ)). HoldsList (λ t x. IsFunctionSection t x) o (xs)) (sym g.new) spelled;
  tables = subst (λ (o : Option (List ℕ)). HoldsList (λ t x. IsTableSection t x) o m.tables) (g.other 4 (λ e. omega (arith, e))) h.tables;
  memories = subst (λ (o : Option (List ℕ)). HoldsList (λ t x. IsMemorySection t x) o m.memories) (g.other 5 (λ e. omega (arith, e))) h.memories;
  globals = subst (λ (o : Option (List ℕ)). HoldsList (λ t x. IsGlobalSection t x) o m.globals) (g.other 6 (λ e. omega (arith, e))) h.globals;
  exports = subst (λ (o : Option (List ℕ)). HoldsList (λ t x. IsExportSection t x) o m.exports) (g.other 7 (λ e. omega (arith, e))) h.exports;
  start = subst (λ (o : Option (List ℕ)). HoldsNumber (λ t n. IsStartSection t n) o m.start) (g.other 8 (λ e. omega (arith, e))) h.start;
  elements = subst (λ (o : Option (List ℕ)). HoldsList (λ t x. IsElementSection t x) o m.elements) (g.other 9 (λ e. omega (arith, e))) h.elements;
  data_count = subst (λ (o : Option (List ℕ)). HoldsNumber (λ t n. IsDataCountSection t n) o m.data_count) (g.other 12 (λ e. omega (arith, e))) h.data_count;
  bodies = subst (λ (o : Option (List ℕ)). HoldsList (λ t x. IsCodeSection t x) o m.bodies) (g.other 10 (λ e. omega (arith, e))) h.bodies;
  datas = subst (λ (o : Option (List ℕ)). HoldsList (λ t x. IsDataSection t x) o m.datas) (g.other 11 (λ e. omega (arith, e))) h.datas;
}

tables_step : (m : Module) (now : List Section) (payload : List ℕ) (xs : List TableType) → Grows 4 m.sections now payload → HasParts m → IsTableSection payload xs
    → HasParts (record m { sections = now; tables = xs })
tables_step m now payload xs g h spelled = record {
  order = g.order;
  customs = g.customs;
  types = subst (λ (o : Option (List ℕ)). HoldsList (λ t x. IsTypeSection t x) o m.types) (g.other 1 (λ e. omega (arith, e))) h.types;
  imports = subst (λ (o : Option (List ℕ)). HoldsList (λ t x. IsImportSection t x) o m.imports) (g.other 2 (λ e. omega (arith, e))) h.imports;
  functions = subst (λ (o : Option (List ℕ)). HoldsList (λ t x. IsFunctionSection t x) o m.functions) (g.other 3 (λ e. omega (arith, e))) h.functions;
  tables = subst (λ (o : Option (List ℕ)). HoldsList (λ t x. IsTableSection t x) o (xs)) (sym g.new) spelled;
  memories = subst (λ (o : Option (List ℕ)). HoldsList (λ t x. IsMemorySection t x) o m.memories) (g.other 5 (λ e. omega (arith, e))) h.memories;
  globals = subst (λ (o : Option (List ℕ)). HoldsList (λ t x. IsGlobalSection t x) o m.globals) (g.other 6 (λ e. omega (arith, e))) h.globals;
  exports = subst (λ (o : Option (List ℕ)). HoldsList (λ t x. IsExportSection t x) o m.exports) (g.other 7 (λ e. omega (arith, e))) h.exports;
  start = subst (λ (o : Option (List ℕ)). HoldsNumber (λ t n. IsStartSection t n) o m.start) (g.other 8 (λ e. omega (arith, e))) h.start;
  elements = subst (λ (o : Option (List ℕ)). HoldsList (λ t x. IsElementSection t x) o m.elements) (g.other 9 (λ e. omega (arith, e))) h.elements;
  data_count = subst (λ (o : Option (List ℕ)). HoldsNumber (λ t n. IsDataCountSection t n) o m.data_count) (g.other 12 (λ e. omega (arith, e))) h.data_count;
  bodies = subst (λ (o : Option (List ℕ)). HoldsList (λ t x. IsCodeSection t x) o m.bodies) (g.other 10 (λ e. omega (arith, e))) h.bodies;
  datas = subst (λ (o : Option (List ℕ)). HoldsList (λ t x. IsDataSection t x) o m.datas) (g.other 11 (λ e. omega (arith, e))) h.datas;
}

memories_step : (m : Module) (now : List Section) (payload : List ℕ) (xs : List MemType) → Grows 5 m.sections now payload → HasParts m → IsMemorySection payload xs
    → HasParts (record m { sections = now; memories = xs })
memories_step m now payload xs g h spelled = record {
  order = g.order;
  customs = g.customs;
  types = subst (λ (o : Option (List ℕ)). HoldsList (λ t x. IsTypeSection t x) o m.types) (g.other 1 (λ e. omega (arith, e))) h.types;
  imports = subst (λ (o : Option (List ℕ)). HoldsList (λ t x. IsImportSection t x) o m.imports) (g.other 2 (λ e. omega (arith, e))) h.imports;
  functions = subst (λ (o : Option (List ℕ)). HoldsList (λ t x. IsFunctionSection t x) o m.functions) (g.other 3 (λ e. omega (arith, e))) h.functions;
  tables = subst (λ (o : Option (List ℕ)). HoldsList (λ t x. IsTableSection t x) o m.tables) (g.other 4 (λ e. omega (arith, e))) h.tables;
  memories = subst (λ (o : Option (List ℕ)). HoldsList (λ t x. IsMemorySection t x) o (xs)) (sym g.new) spelled;
  globals = subst (λ (o : Option (List ℕ)). HoldsList (λ t x. IsGlobalSection t x) o m.globals) (g.other 6 (λ e. omega (arith, e))) h.globals;
  exports = subst (λ (o : Option (List ℕ)). HoldsList (λ t x. IsExportSection t x) o m.exports) (g.other 7 (λ e. omega (arith, e))) h.exports;
  start = subst (λ (o : Option (List ℕ)). HoldsNumber (λ t n. IsStartSection t n) o m.start) (g.other 8 (λ e. omega (arith, e))) h.start;
  elements = subst (λ (o : Option (List ℕ)). HoldsList (λ t x. IsElementSection t x) o m.elements) (g.other 9 (λ e. omega (arith, e))) h.elements;
  data_count = subst (λ (o : Option (List ℕ)). HoldsNumber (λ t n. IsDataCountSection t n) o m.data_count) (g.other 12 (λ e. omega (arith, e))) h.data_count;
  bodies = subst (λ (o : Option (List ℕ)). HoldsList (λ t x. IsCodeSection t x) o m.bodies) (g.other 10 (λ e. omega (arith, e))) h.bodies;
  datas = subst (λ (o : Option (List ℕ)). HoldsList (λ t x. IsDataSection t x) o m.datas) (g.other 11 (λ e. omega (arith, e))) h.datas;
}

globals_step : (m : Module) (now : List Section) (payload : List ℕ) (xs : List GlobalDef) → Grows 6 m.sections now payload → HasParts m → IsGlobalSection payload xs
    → HasParts (record m { sections = now; globals = xs })
globals_step m now payload xs g h spelled = record {
  order = g.order;
  customs = g.customs;
  types = subst (λ (o : Option (List ℕ)). HoldsList (λ t x. IsTypeSection t x) o m.types) (g.other 1 (λ e. omega (arith, e))) h.types;
  imports = subst (λ (o : Option (List ℕ)). HoldsList (λ t x. IsImportSection t x) o m.imports) (g.other 2 (λ e. omega (arith, e))) h.imports;
  functions = subst (λ (o : Option (List ℕ)). HoldsList (λ t x. IsFunctionSection t x) o m.functions) (g.other 3 (λ e. omega (arith, e))) h.functions;
  tables = subst (λ (o : Option (List ℕ)). HoldsList (λ t x. IsTableSection t x) o m.tables) (g.other 4 (λ e. omega (arith, e))) h.tables;
  memories = subst (λ (o : Option (List ℕ)). HoldsList (λ t x. IsMemorySection t x) o m.memories) (g.other 5 (λ e. omega (arith, e))) h.memories;
  globals = subst (λ (o : Option (List ℕ)). HoldsList (λ t x. IsGlobalSection t x) o (xs)) (sym g.new) spelled;
  exports = subst (λ (o : Option (List ℕ)). HoldsList (λ t x. IsExportSection t x) o m.exports) (g.other 7 (λ e. omega (arith, e))) h.exports;
  start = subst (λ (o : Option (List ℕ)). HoldsNumber (λ t n. IsStartSection t n) o m.start) (g.other 8 (λ e. omega (arith, e))) h.start;
  elements = subst (λ (o : Option (List ℕ)). HoldsList (λ t x. IsElementSection t x) o m.elements) (g.other 9 (λ e. omega (arith, e))) h.elements;
  data_count = subst (λ (o : Option (List ℕ)). HoldsNumber (λ t n. IsDataCountSection t n) o m.data_count) (g.other 12 (λ e. omega (arith, e))) h.data_count;
  bodies = subst (λ (o : Option (List ℕ)). HoldsList (λ t x. IsCodeSection t x) o m.bodies) (g.other 10 (λ e. omega (arith, e))) h.bodies;
  datas = subst (λ (o : Option (List ℕ)). HoldsList (λ t x. IsDataSection t x) o m.datas) (g.other 11 (λ e. omega (arith, e))) h.datas;
}

exports_step : (m : Module) (now : List Section) (payload : List ℕ) (xs : List Export) → Grows 7 m.sections now payload → HasParts m → IsExportSection payload xs
    → HasParts (record m { sections = now; exports = xs })
exports_step m now payload xs g h spelled = record {
  order = g.order;
  customs = g.customs;
  types = subst (λ (o : Option (List ℕ)). HoldsList (λ t x. IsTypeSection t x) o m.types) (g.other 1 (λ e. omega (arith, e))) h.types;
  imports = subst (λ (o : Option (List ℕ)). HoldsList (λ t x. IsImportSection t x) o m.imports) (g.other 2 (λ e. omega (arith, e))) h.imports;
  functions = subst (λ (o : Option (List ℕ)). HoldsList (λ t x. IsFunctionSection t x) o m.functions) (g.other 3 (λ e. omega (arith, e))) h.functions;
  tables = subst (λ (o : Option (List ℕ)). HoldsList (λ t x. IsTableSection t x) o m.tables) (g.other 4 (λ e. omega (arith, e))) h.tables;
  memories = subst (λ (o : Option (List ℕ)). HoldsList (λ t x. IsMemorySection t x) o m.memories) (g.other 5 (λ e. omega (arith, e))) h.memories;
  globals = subst (λ (o : Option (List ℕ)). HoldsList (λ t x. IsGlobalSection t x) o m.globals) (g.other 6 (λ e. omega (arith, e))) h.globals;
  exports = subst (λ (o : Option (List ℕ)). HoldsList (λ t x. IsExportSection t x) o (xs)) (sym g.new) spelled;
  start = subst (λ (o : Option (List ℕ)). HoldsNumber (λ t n. IsStartSection t n) o m.start) (g.other 8 (λ e. omega (arith, e))) h.start;
  elements = subst (λ (o : Option (List ℕ)). HoldsList (λ t x. IsElementSection t x) o m.elements) (g.other 9 (λ e. omega (arith, e))) h.elements;
  data_count = subst (λ (o : Option (List ℕ)). HoldsNumber (λ t n. IsDataCountSection t n) o m.data_count) (g.other 12 (λ e. omega (arith, e))) h.data_count;
  bodies = subst (λ (o : Option (List ℕ)). HoldsList (λ t x. IsCodeSection t x) o m.bodies) (g.other 10 (λ e. omega (arith, e))) h.bodies;
  datas = subst (λ (o : Option (List ℕ)). HoldsList (λ t x. IsDataSection t x) o m.datas) (g.other 11 (λ e. omega (arith, e))) h.datas;
}

start_step : (m : Module) (now : List Section) (payload : List ℕ) (n : ℕ) → Grows 8 m.sections now payload → HasParts m → IsStartSection payload n
    → HasParts (record m { sections = now; start = Some n })
start_step m now payload n g h spelled = record {
  order = g.order;
  customs = g.customs;
  types = subst (λ (o : Option (List ℕ)). HoldsList (λ t x. IsTypeSection t x) o m.types) (g.other 1 (λ e. omega (arith, e))) h.types;
  imports = subst (λ (o : Option (List ℕ)). HoldsList (λ t x. IsImportSection t x) o m.imports) (g.other 2 (λ e. omega (arith, e))) h.imports;
  functions = subst (λ (o : Option (List ℕ)). HoldsList (λ t x. IsFunctionSection t x) o m.functions) (g.other 3 (λ e. omega (arith, e))) h.functions;
  tables = subst (λ (o : Option (List ℕ)). HoldsList (λ t x. IsTableSection t x) o m.tables) (g.other 4 (λ e. omega (arith, e))) h.tables;
  memories = subst (λ (o : Option (List ℕ)). HoldsList (λ t x. IsMemorySection t x) o m.memories) (g.other 5 (λ e. omega (arith, e))) h.memories;
  globals = subst (λ (o : Option (List ℕ)). HoldsList (λ t x. IsGlobalSection t x) o m.globals) (g.other 6 (λ e. omega (arith, e))) h.globals;
  exports = subst (λ (o : Option (List ℕ)). HoldsList (λ t x. IsExportSection t x) o m.exports) (g.other 7 (λ e. omega (arith, e))) h.exports;
  start = subst (λ (o : Option (List ℕ)). HoldsNumber (λ t n. IsStartSection t n) o (Some n)) (sym g.new) spelled;
  elements = subst (λ (o : Option (List ℕ)). HoldsList (λ t x. IsElementSection t x) o m.elements) (g.other 9 (λ e. omega (arith, e))) h.elements;
  data_count = subst (λ (o : Option (List ℕ)). HoldsNumber (λ t n. IsDataCountSection t n) o m.data_count) (g.other 12 (λ e. omega (arith, e))) h.data_count;
  bodies = subst (λ (o : Option (List ℕ)). HoldsList (λ t x. IsCodeSection t x) o m.bodies) (g.other 10 (λ e. omega (arith, e))) h.bodies;
  datas = subst (λ (o : Option (List ℕ)). HoldsList (λ t x. IsDataSection t x) o m.datas) (g.other 11 (λ e. omega (arith, e))) h.datas;
}

elements_step : (m : Module) (now : List Section) (payload : List ℕ) (xs : List Elem) → Grows 9 m.sections now payload → HasParts m → IsElementSection payload xs
    → HasParts (record m { sections = now; elements = xs })
elements_step m now payload xs g h spelled = record {
  order = g.order;
  customs = g.customs;
  types = subst (λ (o : Option (List ℕ)). HoldsList (λ t x. IsTypeSection t x) o m.types) (g.other 1 (λ e. omega (arith, e))) h.types;
  imports = subst (λ (o : Option (List ℕ)). HoldsList (λ t x. IsImportSection t x) o m.imports) (g.other 2 (λ e. omega (arith, e))) h.imports;
  functions = subst (λ (o : Option (List ℕ)). HoldsList (λ t x. IsFunctionSection t x) o m.functions) (g.other 3 (λ e. omega (arith, e))) h.functions;
  tables = subst (λ (o : Option (List ℕ)). HoldsList (λ t x. IsTableSection t x) o m.tables) (g.other 4 (λ e. omega (arith, e))) h.tables;
  memories = subst (λ (o : Option (List ℕ)). HoldsList (λ t x. IsMemorySection t x) o m.memories) (g.other 5 (λ e. omega (arith, e))) h.memories;
  globals = subst (λ (o : Option (List ℕ)). HoldsList (λ t x. IsGlobalSection t x) o m.globals) (g.other 6 (λ e. omega (arith, e))) h.globals;
  exports = subst (λ (o : Option (List ℕ)). HoldsList (λ t x. IsExportSection t x) o m.exports) (g.other 7 (λ e. omega (arith, e))) h.exports;
  start = subst (λ (o : Option (List ℕ)). HoldsNumber (λ t n. IsStartSection t n) o m.start) (g.other 8 (λ e. omega (arith, e))) h.start;
  elements = subst (λ (o : Option (List ℕ)). HoldsList (λ t x. IsElementSection t x) o (xs)) (sym g.new) spelled;
  data_count = subst (λ (o : Option (List ℕ)). HoldsNumber (λ t n. IsDataCountSection t n) o m.data_count) (g.other 12 (λ e. omega (arith, e))) h.data_count;
  bodies = subst (λ (o : Option (List ℕ)). HoldsList (λ t x. IsCodeSection t x) o m.bodies) (g.other 10 (λ e. omega (arith, e))) h.bodies;
  datas = subst (λ (o : Option (List ℕ)). HoldsList (λ t x. IsDataSection t x) o m.datas) (g.other 11 (λ e. omega (arith, e))) h.datas;
}

data_count_step : (m : Module) (now : List Section) (payload : List ℕ) (n : ℕ) → Grows 12 m.sections now payload → HasParts m → IsDataCountSection payload n
    → HasParts (record m { sections = now; data_count = Some n })
data_count_step m now payload n g h spelled = record {
  order = g.order;
  customs = g.customs;
  types = subst (λ (o : Option (List ℕ)). HoldsList (λ t x. IsTypeSection t x) o m.types) (g.other 1 (λ e. omega (arith, e))) h.types;
  imports = subst (λ (o : Option (List ℕ)). HoldsList (λ t x. IsImportSection t x) o m.imports) (g.other 2 (λ e. omega (arith, e))) h.imports;
  functions = subst (λ (o : Option (List ℕ)). HoldsList (λ t x. IsFunctionSection t x) o m.functions) (g.other 3 (λ e. omega (arith, e))) h.functions;
  tables = subst (λ (o : Option (List ℕ)). HoldsList (λ t x. IsTableSection t x) o m.tables) (g.other 4 (λ e. omega (arith, e))) h.tables;
  memories = subst (λ (o : Option (List ℕ)). HoldsList (λ t x. IsMemorySection t x) o m.memories) (g.other 5 (λ e. omega (arith, e))) h.memories;
  globals = subst (λ (o : Option (List ℕ)). HoldsList (λ t x. IsGlobalSection t x) o m.globals) (g.other 6 (λ e. omega (arith, e))) h.globals;
  exports = subst (λ (o : Option (List ℕ)). HoldsList (λ t x. IsExportSection t x) o m.exports) (g.other 7 (λ e. omega (arith, e))) h.exports;
  start = subst (λ (o : Option (List ℕ)). HoldsNumber (λ t n. IsStartSection t n) o m.start) (g.other 8 (λ e. omega (arith, e))) h.start;
  elements = subst (λ (o : Option (List ℕ)). HoldsList (λ t x. IsElementSection t x) o m.elements) (g.other 9 (λ e. omega (arith, e))) h.elements;
  data_count = subst (λ (o : Option (List ℕ)). HoldsNumber (λ t n. IsDataCountSection t n) o (Some n)) (sym g.new) spelled;
  bodies = subst (λ (o : Option (List ℕ)). HoldsList (λ t x. IsCodeSection t x) o m.bodies) (g.other 10 (λ e. omega (arith, e))) h.bodies;
  datas = subst (λ (o : Option (List ℕ)). HoldsList (λ t x. IsDataSection t x) o m.datas) (g.other 11 (λ e. omega (arith, e))) h.datas;
}

bodies_step : (m : Module) (now : List Section) (payload : List ℕ) (xs : List BodyTree) → Grows 10 m.sections now payload → HasParts m → IsCodeSection payload xs
    → HasParts (record m { sections = now; bodies = xs })
bodies_step m now payload xs g h spelled = record {
  order = g.order;
  customs = g.customs;
  types = subst (λ (o : Option (List ℕ)). HoldsList (λ t x. IsTypeSection t x) o m.types) (g.other 1 (λ e. omega (arith, e))) h.types;
  imports = subst (λ (o : Option (List ℕ)). HoldsList (λ t x. IsImportSection t x) o m.imports) (g.other 2 (λ e. omega (arith, e))) h.imports;
  functions = subst (λ (o : Option (List ℕ)). HoldsList (λ t x. IsFunctionSection t x) o m.functions) (g.other 3 (λ e. omega (arith, e))) h.functions;
  tables = subst (λ (o : Option (List ℕ)). HoldsList (λ t x. IsTableSection t x) o m.tables) (g.other 4 (λ e. omega (arith, e))) h.tables;
  memories = subst (λ (o : Option (List ℕ)). HoldsList (λ t x. IsMemorySection t x) o m.memories) (g.other 5 (λ e. omega (arith, e))) h.memories;
  globals = subst (λ (o : Option (List ℕ)). HoldsList (λ t x. IsGlobalSection t x) o m.globals) (g.other 6 (λ e. omega (arith, e))) h.globals;
  exports = subst (λ (o : Option (List ℕ)). HoldsList (λ t x. IsExportSection t x) o m.exports) (g.other 7 (λ e. omega (arith, e))) h.exports;
  start = subst (λ (o : Option (List ℕ)). HoldsNumber (λ t n. IsStartSection t n) o m.start) (g.other 8 (λ e. omega (arith, e))) h.start;
  elements = subst (λ (o : Option (List ℕ)). HoldsList (λ t x. IsElementSection t x) o m.elements) (g.other 9 (λ e. omega (arith, e))) h.elements;
  data_count = subst (λ (o : Option (List ℕ)). HoldsNumber (λ t n. IsDataCountSection t n) o m.data_count) (g.other 12 (λ e. omega (arith, e))) h.data_count;
  bodies = subst (λ (o : Option (List ℕ)). HoldsList (λ t x. IsCodeSection t x) o (xs)) (sym g.new) spelled;
  datas = subst (λ (o : Option (List ℕ)). HoldsList (λ t x. IsDataSection t x) o m.datas) (g.other 11 (λ e. omega (arith, e))) h.datas;
}

datas_step : (m : Module) (now : List Section) (payload : List ℕ) (xs : List DataSegment) → Grows 11 m.sections now payload → HasParts m → IsDataSection payload xs
    → HasParts (record m { sections = now; datas = xs })
datas_step m now payload xs g h spelled = record {
  order = g.order;
  customs = g.customs;
  types = subst (λ (o : Option (List ℕ)). HoldsList (λ t x. IsTypeSection t x) o m.types) (g.other 1 (λ e. omega (arith, e))) h.types;
  imports = subst (λ (o : Option (List ℕ)). HoldsList (λ t x. IsImportSection t x) o m.imports) (g.other 2 (λ e. omega (arith, e))) h.imports;
  functions = subst (λ (o : Option (List ℕ)). HoldsList (λ t x. IsFunctionSection t x) o m.functions) (g.other 3 (λ e. omega (arith, e))) h.functions;
  tables = subst (λ (o : Option (List ℕ)). HoldsList (λ t x. IsTableSection t x) o m.tables) (g.other 4 (λ e. omega (arith, e))) h.tables;
  memories = subst (λ (o : Option (List ℕ)). HoldsList (λ t x. IsMemorySection t x) o m.memories) (g.other 5 (λ e. omega (arith, e))) h.memories;
  globals = subst (λ (o : Option (List ℕ)). HoldsList (λ t x. IsGlobalSection t x) o m.globals) (g.other 6 (λ e. omega (arith, e))) h.globals;
  exports = subst (λ (o : Option (List ℕ)). HoldsList (λ t x. IsExportSection t x) o m.exports) (g.other 7 (λ e. omega (arith, e))) h.exports;
  start = subst (λ (o : Option (List ℕ)). HoldsNumber (λ t n. IsStartSection t n) o m.start) (g.other 8 (λ e. omega (arith, e))) h.start;
  elements = subst (λ (o : Option (List ℕ)). HoldsList (λ t x. IsElementSection t x) o m.elements) (g.other 9 (λ e. omega (arith, e))) h.elements;
  data_count = subst (λ (o : Option (List ℕ)). HoldsNumber (λ t n. IsDataCountSection t n) o m.data_count) (g.other 12 (λ e. omega (arith, e))) h.data_count;
  bodies = subst (λ (o : Option (List ℕ)). HoldsList (λ t x. IsCodeSection t x) o m.bodies) (g.other 10 (λ e. omega (arith, e))) h.bodies;
  datas = subst (λ (o : Option (List ℕ)). HoldsList (λ t x. IsDataSection t x) o (xs)) (sym g.new) spelled;
}

-- ---- the same of the code's lists of sections

pushed : (m : Module) (sections now : List code.Section) (s : code.Section) → m.sections ≡ map section_of sections → now ≡ sections ++ s ∷ [] → m.sections ++ section_of s ∷ [] ≡ map section_of now
pushed m sections now s old e = ap (λ (xs : List Section). xs ++ section_of s ∷ []) old ∙ sym (ap (λ (xs : List code.Section). map section_of xs) e ∙ map-append section_of sections (s ∷ []))

pub types_taken : (m : Module) (last : ℕ) (sections now : List code.Section) (s : code.Section) (xs : List FunctionType) → m.sections ≡ map section_of sections → now ≡ sections ++ s ∷ [] → s.id ≡ 1 → HasFront m last → last < 1 → IsTypeSection s.payload.now xs
    → HasFront (record m { sections = map section_of now; types = xs }) 1
types_taken m last sections now s xs old push id h less spelled =
    let g = subst (λ (xs : List Section). Grows 1 m.sections xs s.payload.now) (pushed m sections now s old push) (grows 1 m last (section_of s) id (λ e. omega (arith, e)) h less) in
    (g.last, types_step m (map section_of now) s.payload.now xs g h.1 spelled)

pub types_held : (s : Section) (xs : List FunctionType) → s.id ≡ 1 → IsTypeSection s.payload xs → IsInGrammar s
types_held s xs id spelled = subst (λ (k : ℕ). IsPayloadOf (kind_of_id k) s.payload) (sym id) (xs, spelled)

pub not_types : (last : ℕ) (s : Section) → s.id ≡ 1 → SpellsNone (λ t x. IsTypeSection t x) s.payload → MayFollow last s → ⊥
not_types last s id none may = let h : (xs : List FunctionType) × IsTypeSection s.payload xs = subst (λ (k : ℕ). IsPayloadOf (kind_of_id k) s.payload) id may.1 in none h.0 h.1

pub late_types : (last : ℕ) (s : Section) → s.id ≡ 1 → 1 ≤ last → MayFollow last s → ⊥
late_types last s id late may = elim (may.0) [
  | inl custom ↦ omega (arith, id, custom)
  | inr less ↦ let rank : section_rank s.id ≡ 1 = ap section_rank id in omega (arith, less, rank, late)
]

pub imports_taken : (m : Module) (last : ℕ) (sections now : List code.Section) (s : code.Section) (xs : List Import) → m.sections ≡ map section_of sections → now ≡ sections ++ s ∷ [] → s.id ≡ 2 → HasFront m last → last < 2 → IsImportSection s.payload.now xs
    → HasFront (record m { sections = map section_of now; imports = xs }) 2
imports_taken m last sections now s xs old push id h less spelled =
    let g = subst (λ (xs : List Section). Grows 2 m.sections xs s.payload.now) (pushed m sections now s old push) (grows 2 m last (section_of s) id (λ e. omega (arith, e)) h less) in
    (g.last, imports_step m (map section_of now) s.payload.now xs g h.1 spelled)

pub imports_held : (s : Section) (xs : List Import) → s.id ≡ 2 → IsImportSection s.payload xs → IsInGrammar s
imports_held s xs id spelled = subst (λ (k : ℕ). IsPayloadOf (kind_of_id k) s.payload) (sym id) (xs, spelled)

pub not_imports : (last : ℕ) (s : Section) → s.id ≡ 2 → SpellsNone (λ t x. IsImportSection t x) s.payload → MayFollow last s → ⊥
not_imports last s id none may = let h : (xs : List Import) × IsImportSection s.payload xs = subst (λ (k : ℕ). IsPayloadOf (kind_of_id k) s.payload) id may.1 in none h.0 h.1

pub late_imports : (last : ℕ) (s : Section) → s.id ≡ 2 → 2 ≤ last → MayFollow last s → ⊥
late_imports last s id late may = elim (may.0) [
  | inl custom ↦ omega (arith, id, custom)
  | inr less ↦ let rank : section_rank s.id ≡ 2 = ap section_rank id in omega (arith, less, rank, late)
]

pub functions_taken : (m : Module) (last : ℕ) (sections now : List code.Section) (s : code.Section) (xs : List ℕ) → m.sections ≡ map section_of sections → now ≡ sections ++ s ∷ [] → s.id ≡ 3 → HasFront m last → last < 3 → IsFunctionSection s.payload.now xs
    → HasFront (record m { sections = map section_of now; functions = xs }) 3
functions_taken m last sections now s xs old push id h less spelled =
    let g = subst (λ (xs : List Section). Grows 3 m.sections xs s.payload.now) (pushed m sections now s old push) (grows 3 m last (section_of s) id (λ e. omega (arith, e)) h less) in
    (g.last, functions_step m (map section_of now) s.payload.now xs g h.1 spelled)

pub functions_held : (s : Section) (xs : List ℕ) → s.id ≡ 3 → IsFunctionSection s.payload xs → IsInGrammar s
functions_held s xs id spelled = subst (λ (k : ℕ). IsPayloadOf (kind_of_id k) s.payload) (sym id) (xs, spelled)

pub not_functions : (last : ℕ) (s : Section) → s.id ≡ 3 → SpellsNone (λ t x. IsFunctionSection t x) s.payload → MayFollow last s → ⊥
not_functions last s id none may = let h : (xs : List ℕ) × IsFunctionSection s.payload xs = subst (λ (k : ℕ). IsPayloadOf (kind_of_id k) s.payload) id may.1 in none h.0 h.1

pub late_functions : (last : ℕ) (s : Section) → s.id ≡ 3 → 3 ≤ last → MayFollow last s → ⊥
late_functions last s id late may = elim (may.0) [
  | inl custom ↦ omega (arith, id, custom)
  | inr less ↦ let rank : section_rank s.id ≡ 3 = ap section_rank id in omega (arith, less, rank, late)
]

pub tables_taken : (m : Module) (last : ℕ) (sections now : List code.Section) (s : code.Section) (xs : List TableType) → m.sections ≡ map section_of sections → now ≡ sections ++ s ∷ [] → s.id ≡ 4 → HasFront m last → last < 4 → IsTableSection s.payload.now xs
    → HasFront (record m { sections = map section_of now; tables = xs }) 4
tables_taken m last sections now s xs old push id h less spelled =
    let g = subst (λ (xs : List Section). Grows 4 m.sections xs s.payload.now) (pushed m sections now s old push) (grows 4 m last (section_of s) id (λ e. omega (arith, e)) h less) in
    (g.last, tables_step m (map section_of now) s.payload.now xs g h.1 spelled)

pub tables_held : (s : Section) (xs : List TableType) → s.id ≡ 4 → IsTableSection s.payload xs → IsInGrammar s
tables_held s xs id spelled = subst (λ (k : ℕ). IsPayloadOf (kind_of_id k) s.payload) (sym id) (xs, spelled)

pub not_tables : (last : ℕ) (s : Section) → s.id ≡ 4 → SpellsNone (λ t x. IsTableSection t x) s.payload → MayFollow last s → ⊥
not_tables last s id none may = let h : (xs : List TableType) × IsTableSection s.payload xs = subst (λ (k : ℕ). IsPayloadOf (kind_of_id k) s.payload) id may.1 in none h.0 h.1

pub late_tables : (last : ℕ) (s : Section) → s.id ≡ 4 → 4 ≤ last → MayFollow last s → ⊥
late_tables last s id late may = elim (may.0) [
  | inl custom ↦ omega (arith, id, custom)
  | inr less ↦ let rank : section_rank s.id ≡ 4 = ap section_rank id in omega (arith, less, rank, late)
]

pub memories_taken : (m : Module) (last : ℕ) (sections now : List code.Section) (s : code.Section) (xs : List MemType) → m.sections ≡ map section_of sections → now ≡ sections ++ s ∷ [] → s.id ≡ 5 → HasFront m last → last < 5 → IsMemorySection s.payload.now xs
    → HasFront (record m { sections = map section_of now; memories = xs }) 5
memories_taken m last sections now s xs old push id h less spelled =
    let g = subst (λ (xs : List Section). Grows 5 m.sections xs s.payload.now) (pushed m sections now s old push) (grows 5 m last (section_of s) id (λ e. omega (arith, e)) h less) in
    (g.last, memories_step m (map section_of now) s.payload.now xs g h.1 spelled)

pub memories_held : (s : Section) (xs : List MemType) → s.id ≡ 5 → IsMemorySection s.payload xs → IsInGrammar s
memories_held s xs id spelled = subst (λ (k : ℕ). IsPayloadOf (kind_of_id k) s.payload) (sym id) (xs, spelled)

pub not_memories : (last : ℕ) (s : Section) → s.id ≡ 5 → SpellsNone (λ t x. IsMemorySection t x) s.payload → MayFollow last s → ⊥
not_memories last s id none may = let h : (xs : List MemType) × IsMemorySection s.payload xs = subst (λ (k : ℕ). IsPayloadOf (kind_of_id k) s.payload) id may.1 in none h.0 h.1

pub late_memories : (last : ℕ) (s : Section) → s.id ≡ 5 → 5 ≤ last → MayFollow last s → ⊥
late_memories last s id late may = elim (may.0) [
  | inl custom ↦ omega (arith, id, custom)
  | inr less ↦ let rank : section_rank s.id ≡ 5 = ap section_rank id in omega (arith, less, rank, late)
]

pub globals_taken : (m : Module) (last : ℕ) (sections now : List code.Section) (s : code.Section) (xs : List GlobalDef) → m.sections ≡ map section_of sections → now ≡ sections ++ s ∷ [] → s.id ≡ 6 → HasFront m last → last < 6 → IsGlobalSection s.payload.now xs
    → HasFront (record m { sections = map section_of now; globals = xs }) 6
globals_taken m last sections now s xs old push id h less spelled =
    let g = subst (λ (xs : List Section). Grows 6 m.sections xs s.payload.now) (pushed m sections now s old push) (grows 6 m last (section_of s) id (λ e. omega (arith, e)) h less) in
    (g.last, globals_step m (map section_of now) s.payload.now xs g h.1 spelled)

pub globals_held : (s : Section) (xs : List GlobalDef) → s.id ≡ 6 → IsGlobalSection s.payload xs → IsInGrammar s
globals_held s xs id spelled = subst (λ (k : ℕ). IsPayloadOf (kind_of_id k) s.payload) (sym id) (xs, spelled)

pub not_globals : (last : ℕ) (s : Section) → s.id ≡ 6 → SpellsNone (λ t x. IsGlobalSection t x) s.payload → MayFollow last s → ⊥
not_globals last s id none may = let h : (xs : List GlobalDef) × IsGlobalSection s.payload xs = subst (λ (k : ℕ). IsPayloadOf (kind_of_id k) s.payload) id may.1 in none h.0 h.1

pub late_globals : (last : ℕ) (s : Section) → s.id ≡ 6 → 6 ≤ last → MayFollow last s → ⊥
late_globals last s id late may = elim (may.0) [
  | inl custom ↦ omega (arith, id, custom)
  | inr less ↦ let rank : section_rank s.id ≡ 6 = ap section_rank id in omega (arith, less, rank, late)
]

pub exports_taken : (m : Module) (last : ℕ) (sections now : List code.Section) (s : code.Section) (xs : List Export) → m.sections ≡ map section_of sections → now ≡ sections ++ s ∷ [] → s.id ≡ 7 → HasFront m last → last < 7 → IsExportSection s.payload.now xs
    → HasFront (record m { sections = map section_of now; exports = xs }) 7
exports_taken m last sections now s xs old push id h less spelled =
    let g = subst (λ (xs : List Section). Grows 7 m.sections xs s.payload.now) (pushed m sections now s old push) (grows 7 m last (section_of s) id (λ e. omega (arith, e)) h less) in
    (g.last, exports_step m (map section_of now) s.payload.now xs g h.1 spelled)

pub exports_held : (s : Section) (xs : List Export) → s.id ≡ 7 → IsExportSection s.payload xs → IsInGrammar s
exports_held s xs id spelled = subst (λ (k : ℕ). IsPayloadOf (kind_of_id k) s.payload) (sym id) (xs, spelled)

pub not_exports : (last : ℕ) (s : Section) → s.id ≡ 7 → SpellsNone (λ t x. IsExportSection t x) s.payload → MayFollow last s → ⊥
not_exports last s id none may = let h : (xs : List Export) × IsExportSection s.payload xs = subst (λ (k : ℕ). IsPayloadOf (kind_of_id k) s.payload) id may.1 in none h.0 h.1

pub late_exports : (last : ℕ) (s : Section) → s.id ≡ 7 → 7 ≤ last → MayFollow last s → ⊥
late_exports last s id late may = elim (may.0) [
  | inl custom ↦ omega (arith, id, custom)
  | inr less ↦ let rank : section_rank s.id ≡ 7 = ap section_rank id in omega (arith, less, rank, late)
]

pub start_taken : (m : Module) (last : ℕ) (sections now : List code.Section) (s : code.Section) (n : ℕ) → m.sections ≡ map section_of sections → now ≡ sections ++ s ∷ [] → s.id ≡ 8 → HasFront m last → last < 8 → IsStartSection s.payload.now n
    → HasFront (record m { sections = map section_of now; start = Some n }) 8
start_taken m last sections now s n old push id h less spelled =
    let g = subst (λ (xs : List Section). Grows 8 m.sections xs s.payload.now) (pushed m sections now s old push) (grows 8 m last (section_of s) id (λ e. omega (arith, e)) h less) in
    (g.last, start_step m (map section_of now) s.payload.now n g h.1 spelled)

pub start_held : (s : Section) (n : ℕ) → s.id ≡ 8 → IsStartSection s.payload n → IsInGrammar s
start_held s n id spelled = subst (λ (k : ℕ). IsPayloadOf (kind_of_id k) s.payload) (sym id) (n, spelled)

pub not_start : (last : ℕ) (s : Section) → s.id ≡ 8 → SpellsNone (λ t x. IsStartSection t x) s.payload → MayFollow last s → ⊥
not_start last s id none may = let h : (n : ℕ) × IsStartSection s.payload n = subst (λ (k : ℕ). IsPayloadOf (kind_of_id k) s.payload) id may.1 in none h.0 h.1

pub late_start : (last : ℕ) (s : Section) → s.id ≡ 8 → 8 ≤ last → MayFollow last s → ⊥
late_start last s id late may = elim (may.0) [
  | inl custom ↦ omega (arith, id, custom)
  | inr less ↦ let rank : section_rank s.id ≡ 8 = ap section_rank id in omega (arith, less, rank, late)
]

pub elements_taken : (m : Module) (last : ℕ) (sections now : List code.Section) (s : code.Section) (xs : List Elem) → m.sections ≡ map section_of sections → now ≡ sections ++ s ∷ [] → s.id ≡ 9 → HasFront m last → last < 9 → IsElementSection s.payload.now xs
    → HasFront (record m { sections = map section_of now; elements = xs }) 9
elements_taken m last sections now s xs old push id h less spelled =
    let g = subst (λ (xs : List Section). Grows 9 m.sections xs s.payload.now) (pushed m sections now s old push) (grows 9 m last (section_of s) id (λ e. omega (arith, e)) h less) in
    (g.last, elements_step m (map section_of now) s.payload.now xs g h.1 spelled)

pub elements_held : (s : Section) (xs : List Elem) → s.id ≡ 9 → IsElementSection s.payload xs → IsInGrammar s
elements_held s xs id spelled = subst (λ (k : ℕ). IsPayloadOf (kind_of_id k) s.payload) (sym id) (xs, spelled)

pub not_elements : (last : ℕ) (s : Section) → s.id ≡ 9 → SpellsNone (λ t x. IsElementSection t x) s.payload → MayFollow last s → ⊥
not_elements last s id none may = let h : (xs : List Elem) × IsElementSection s.payload xs = subst (λ (k : ℕ). IsPayloadOf (kind_of_id k) s.payload) id may.1 in none h.0 h.1

pub late_elements : (last : ℕ) (s : Section) → s.id ≡ 9 → 9 ≤ last → MayFollow last s → ⊥
late_elements last s id late may = elim (may.0) [
  | inl custom ↦ omega (arith, id, custom)
  | inr less ↦ let rank : section_rank s.id ≡ 9 = ap section_rank id in omega (arith, less, rank, late)
]

pub data_count_taken : (m : Module) (last : ℕ) (sections now : List code.Section) (s : code.Section) (n : ℕ) → m.sections ≡ map section_of sections → now ≡ sections ++ s ∷ [] → s.id ≡ 12 → HasFront m last → last < 10 → IsDataCountSection s.payload.now n
    → HasFront (record m { sections = map section_of now; data_count = Some n }) 10
data_count_taken m last sections now s n old push id h less spelled =
    let g = subst (λ (xs : List Section). Grows 12 m.sections xs s.payload.now) (pushed m sections now s old push) (grows 12 m last (section_of s) id (λ e. omega (arith, e)) h less) in
    (g.last, data_count_step m (map section_of now) s.payload.now n g h.1 spelled)

pub data_count_held : (s : Section) (n : ℕ) → s.id ≡ 12 → IsDataCountSection s.payload n → IsInGrammar s
data_count_held s n id spelled = subst (λ (k : ℕ). IsPayloadOf (kind_of_id k) s.payload) (sym id) (n, spelled)

pub not_data_count : (last : ℕ) (s : Section) → s.id ≡ 12 → SpellsNone (λ t x. IsDataCountSection t x) s.payload → MayFollow last s → ⊥
not_data_count last s id none may = let h : (n : ℕ) × IsDataCountSection s.payload n = subst (λ (k : ℕ). IsPayloadOf (kind_of_id k) s.payload) id may.1 in none h.0 h.1

pub late_data_count : (last : ℕ) (s : Section) → s.id ≡ 12 → 10 ≤ last → MayFollow last s → ⊥
late_data_count last s id late may = elim (may.0) [
  | inl custom ↦ omega (arith, id, custom)
  | inr less ↦ let rank : section_rank s.id ≡ 10 = ap section_rank id in omega (arith, less, rank, late)
]

pub bodies_taken : (m : Module) (last : ℕ) (sections now : List code.Section) (s : code.Section) (xs : List BodyTree) → m.sections ≡ map section_of sections → now ≡ sections ++ s ∷ [] → s.id ≡ 10 → HasFront m last → last < 11 → IsCodeSection s.payload.now xs
    → HasFront (record m { sections = map section_of now; bodies = xs }) 11
bodies_taken m last sections now s xs old push id h less spelled =
    let g = subst (λ (xs : List Section). Grows 10 m.sections xs s.payload.now) (pushed m sections now s old push) (grows 10 m last (section_of s) id (λ e. omega (arith, e)) h less) in
    (g.last, bodies_step m (map section_of now) s.payload.now xs g h.1 spelled)

pub bodies_held : (s : Section) (xs : List BodyTree) → s.id ≡ 10 → IsCodeSection s.payload xs → IsInGrammar s
bodies_held s xs id spelled = subst (λ (k : ℕ). IsPayloadOf (kind_of_id k) s.payload) (sym id) (xs, spelled)

pub not_bodies : (last : ℕ) (s : Section) → s.id ≡ 10 → SpellsNone (λ t x. IsCodeSection t x) s.payload → MayFollow last s → ⊥
not_bodies last s id none may = let h : (xs : List BodyTree) × IsCodeSection s.payload xs = subst (λ (k : ℕ). IsPayloadOf (kind_of_id k) s.payload) id may.1 in none h.0 h.1

pub late_bodies : (last : ℕ) (s : Section) → s.id ≡ 10 → 11 ≤ last → MayFollow last s → ⊥
late_bodies last s id late may = elim (may.0) [
  | inl custom ↦ omega (arith, id, custom)
  | inr less ↦ let rank : section_rank s.id ≡ 11 = ap section_rank id in omega (arith, less, rank, late)
]

pub datas_taken : (m : Module) (last : ℕ) (sections now : List code.Section) (s : code.Section) (xs : List DataSegment) → m.sections ≡ map section_of sections → now ≡ sections ++ s ∷ [] → s.id ≡ 11 → HasFront m last → last < 12 → IsDataSection s.payload.now xs
    → HasFront (record m { sections = map section_of now; datas = xs }) 12
datas_taken m last sections now s xs old push id h less spelled =
    let g = subst (λ (xs : List Section). Grows 11 m.sections xs s.payload.now) (pushed m sections now s old push) (grows 11 m last (section_of s) id (λ e. omega (arith, e)) h less) in
    (g.last, datas_step m (map section_of now) s.payload.now xs g h.1 spelled)

pub datas_held : (s : Section) (xs : List DataSegment) → s.id ≡ 11 → IsDataSection s.payload xs → IsInGrammar s
datas_held s xs id spelled = subst (λ (k : ℕ). IsPayloadOf (kind_of_id k) s.payload) (sym id) (xs, spelled)

pub not_datas : (last : ℕ) (s : Section) → s.id ≡ 11 → SpellsNone (λ t x. IsDataSection t x) s.payload → MayFollow last s → ⊥
not_datas last s id none may = let h : (xs : List DataSegment) × IsDataSection s.payload xs = subst (λ (k : ℕ). IsPayloadOf (kind_of_id k) s.payload) id may.1 in none h.0 h.1

pub late_datas : (last : ℕ) (s : Section) → s.id ≡ 11 → 12 ≤ last → MayFollow last s → ⊥
late_datas last s id late may = elim (may.0) [
  | inl custom ↦ omega (arith, id, custom)
  | inr less ↦ let rank : section_rank s.id ≡ 12 = ap section_rank id in omega (arith, less, rank, late)
]

-- ---- custom sections, and none

pub custom_taken : (m : Module) (last : ℕ) (sections now : List code.Section) (s : code.Section) → m.sections ≡ map section_of sections → now ≡ sections ++ s ∷ [] → s.id ≡ 0 → HasFront m last → IsCustomSection s.payload.now
    → HasFront (record m { sections = map section_of now }) last
custom_taken m last sections now s old push id h named =
    let x = section_of s in
    let is : (x.id == 0) ≡ true = eq-eqb x.id 0 id in
    let one : ranks_of (x ∷ []) ≡ [] = rw is refl in
    let same : ranks_of (m.sections ++ x ∷ []) ≡ ranks_of m.sections = ranks_of-append m.sections (x ∷ []) ∙ ap (λ (ns : List ℕ). ranks_of m.sections ++ ns) one ∙ append-nil (ranks_of m.sections) in
    let keeps = λ (k : ℕ) (other : k ≢ 0). stays k m.sections x (ne_eqb x.id k (λ e. other (sym e ∙ id))) in
    subst (λ (xs : List Section). HasFront (record m { sections = xs }) last) (pushed m sections now s old push) (
      rw same h.0,
      record {
        order = rw same h.1.order;
        customs = All-push IsNamedIfCustom m.sections x h.1.customs (λ _. named);
        types = subst (λ (o : Option (List ℕ)). HoldsList (λ t x. IsTypeSection t x) o m.types) (keeps 1 (λ e. omega (arith, e))) h.1.types;
        imports = subst (λ (o : Option (List ℕ)). HoldsList (λ t x. IsImportSection t x) o m.imports) (keeps 2 (λ e. omega (arith, e))) h.1.imports;
        functions = subst (λ (o : Option (List ℕ)). HoldsList (λ t x. IsFunctionSection t x) o m.functions) (keeps 3 (λ e. omega (arith, e))) h.1.functions;
        tables = subst (λ (o : Option (List ℕ)). HoldsList (λ t x. IsTableSection t x) o m.tables) (keeps 4 (λ e. omega (arith, e))) h.1.tables;
        memories = subst (λ (o : Option (List ℕ)). HoldsList (λ t x. IsMemorySection t x) o m.memories) (keeps 5 (λ e. omega (arith, e))) h.1.memories;
        globals = subst (λ (o : Option (List ℕ)). HoldsList (λ t x. IsGlobalSection t x) o m.globals) (keeps 6 (λ e. omega (arith, e))) h.1.globals;
        exports = subst (λ (o : Option (List ℕ)). HoldsList (λ t x. IsExportSection t x) o m.exports) (keeps 7 (λ e. omega (arith, e))) h.1.exports;
        start = subst (λ (o : Option (List ℕ)). HoldsNumber (λ t n. IsStartSection t n) o m.start) (keeps 8 (λ e. omega (arith, e))) h.1.start;
        elements = subst (λ (o : Option (List ℕ)). HoldsList (λ t x. IsElementSection t x) o m.elements) (keeps 9 (λ e. omega (arith, e))) h.1.elements;
        data_count = subst (λ (o : Option (List ℕ)). HoldsNumber (λ t n. IsDataCountSection t n) o m.data_count) (keeps 12 (λ e. omega (arith, e))) h.1.data_count;
        bodies = subst (λ (o : Option (List ℕ)). HoldsList (λ t x. IsCodeSection t x) o m.bodies) (keeps 10 (λ e. omega (arith, e))) h.1.bodies;
        datas = subst (λ (o : Option (List ℕ)). HoldsList (λ t x. IsDataSection t x) o m.datas) (keeps 11 (λ e. omega (arith, e))) h.1.datas;
      },
    )

pub custom_held : (s : Section) → s.id ≡ 0 → IsCustomSection s.payload → IsInGrammar s
custom_held s id named = subst (λ (k : ℕ). IsPayloadOf (kind_of_id k) s.payload) (sym id) named

pub not_custom : (last : ℕ) (s : Section) → s.id ≡ 0 → (IsCustomSection s.payload → ⊥) → MayFollow last s → ⊥
not_custom last s id none may = none (subst (λ (k : ℕ). IsPayloadOf (kind_of_id k) s.payload) id may.1)

-- an id that no section has
pub not_known : (last : ℕ) (s : Section) → 13 ≤ s.id → MayFollow last s → ⊥
not_known last s high may = elim (may.0) [
  | inl custom ↦ omega (arith, high, custom)
  | inr less ↦
      let ten : (s.id == 10) ≡ false = ne_eqb s.id 10 (λ e. omega (arith, e, high)) in
      let eleven : (s.id == 11) ≡ false = ne_eqb s.id 11 (λ e. omega (arith, e, high)) in
      let twelve : (s.id == 12) ≡ false = ne_eqb s.id 12 (λ e. omega (arith, e, high)) in
      let low = le-ltb s.id 10 (omega (arith, high)) in
      let rank : section_rank s.id ≡ 0 = rw (ten, eleven, twelve, low) refl in
      omega (arith, less, rank)
]
