use Rattle.std.proofs.Common.{List, All, subst, arith}
use Rattle.std.proofs.lemmas.List.Elements.{All-map}
use Rattle.std.proofs.Math.ListN.{length-map}
use Rattle.wz_module.specs.declared.items.Section as section
use Rattle.wz_module.specs.declared.items.Import as import
use Rattle.wz_module.specs.declared.items.Export as export
use Rattle.wz_module.specs.declared.items.Elem as elem
use Rattle.wz_module.specs.declared.items.DataSegment as segment
use Rattle.wz_types.specs.FunctionType.{FunctionType}
use Rattle.wz_module.specs.Functions.{body_tree_of}
use Rattle.wz_module.specs.Views.{section_of, import_of, export_of, global_of, elem_of, init_of, data_of}
use Rattle.wz_module.specs.ShortLists.{IsShortList, HasShortSides, HasShortNames}
use Rattle.wz_valid.proofs.hand_made.finish.Goals as goal

pub from_parts-requires : goal.from_parts-requires
from_parts-requires c =
    let p = c.args.parts in
    let few = c.are_few.ensures.0 c.if-not-are_few.false in
    let imports = few 0 0 (omega arith) in
    let functions = few 1 0 (omega arith) in
    let tables = few 2 0 (omega arith) in
    let memories = few 3 0 (omega arith) in
    let globals = few 4 0 (omega arith) in
    let sections = few 5 0 (omega arith) in
    let types = few 6 0 (omega arith) in
    let exports = few 7 0 (omega arith) in
    let elements = few 8 0 (omega arith) in
    let bodies = few 9 0 (omega arith) in
    let datas = few 10 0 (omega arith) in
    let seen = length-map p.imports.items import_of in
    record {
      functions = omega (arith, imports, functions, seen);
      tables = omega (arith, imports, tables, seen);
      memories = omega (arith, imports, memories, seen);
      globals = omega (arith, imports, globals, seen, length-map p.globals.items global_of);
      sections = omega (arith, sections, length-map p.sections.items section_of);
      types = omega (arith, types);
      exports = omega (arith, exports, length-map p.exports.items export_of);
      elements = omega (arith, elements, length-map p.elements.items elem_of);
      bodies = omega (arith, bodies, length-map p.bodies.items body_tree_of);
      datas = omega (arith, datas, length-map p.datas.items data_of);
      payloads = All-map (λ s. IsShortList s.payload) section_of p.sections.items
          (subst (λ (xs : List section.Section). All (λ s. IsShortList s.payload.now) xs) c.as_slice.ensures.value (c.are_payloads_short.ensures.0 c.if-not-are_payloads_short.false));
      signatures = subst (λ (xs : List FunctionType). All HasShortSides xs) c.as_slice-else-not-are_payloads_short.ensures.value
          (c.are_sides_short.ensures c.if-not-are_sides_short.false);
      import_names = All-map HasShortNames import_of p.imports.items
          (subst (λ (xs : List import.Import). All (λ i. HasShortNames (import_of i)) xs) c.as_slice-2.ensures.value (c.are_imports_short.ensures c.if-not-are_imports_short.false));
      export_names = All-map (λ e. IsShortList e.name) export_of p.exports.items
          (subst (λ (xs : List export.Export). All (λ e. IsShortList e.name.now) xs) c.as_slice-else-not-are_imports_short.ensures.value
          (c.are_exports_short.ensures.0 c.if-not-are_exports_short.false));
      references = All-map (λ e. IsShortList e.init) elem_of p.elements.items
          (subst (λ (xs : List elem.Elem). All (λ e. IsShortList (init_of e.items)) xs) c.as_slice-3.ensures.value (c.are_elements_short.ensures.0 c.if-not-are_elements_short.false));
      contents = All-map (λ d. IsShortList d.bytes) data_of p.datas.items
          (subst (λ (xs : List segment.DataSegment). All (λ d. IsShortList d.bytes.now) xs) c.as_slice-else-not-are_elements_short.ensures.value
          (c.are_datas_short.ensures.0 c.if-not-are_datas_short.false));
    }
