-- The output's context is the module's with more segments and with its own declared functions.
use Rattle.std.proofs.Common.{◌≡◌, ℕ, ◌+◌, ◌≤◌, List, ◌++◌, length, map, inl, inr}
use Rattle.std.proofs.Common.{sym, ap, subst, ◌∙◌, arith}
use Rattle.std.specs.List.{flat_map}
use Rattle.std.proofs.lemmas.List.{length-append, length-map, map-append}
use Rattle.std.proofs.lemmas.List.Concat.{flat_map-append}
use Rattle.std.proofs.lemmas.Bool.{or_cases}
use Rattle.wz_types.specs.declared.types.GlobalType.{GlobalType}
use Rattle.wz_types.specs.declared.types.RefKind.{RefKind}
use Rattle.wz_code.specs.References.{referred_in, AreIn}
use Rattle.wz_code.proofs.NumberLemmas.{Has, has-first, has-second, in-both}
use Rattle.wz_module.specs.Elements.{Elem}
use Rattle.wz_module.specs.Module.{Module}
use Rattle.wz_module.specs.References.{referred_in_segment, exported_function}
use Rattle.wz_valid_code.specs.Widening.{widened}
use Rattle.wz_valid.specs.Indices.{imported_memories, imported_globals, all_functions, all_tables}
use Rattle.wz_valid.specs.Contexts.{context_of}
use Rattle.wz_valid.specs.DeclaredFunctions.{declared_in}
use Rattle.wz_store.specs.State.{Memory}
use Rattle.wz_encode.specs.Elements.{kept_elements, declaring, declarations}
use Rattle.wz_encode.specs.Datas.{segment_of}
use Rattle.wz_snapshot.specs.Recorded.{RecordedState}
use Rattle.wz_exports.specs.Kept.{KeptExports}
use Rattle.wz_exports.specs.Undeclared.{body_refs, value_refs, refs_elsewhere, undeclared_functions}
use Rattle.wz_exports.specs.Laws.{RefsAreFound}
use Rattle.wz_rewrite.specs.OutputState.{output_state}
use Rattle.wz_rewrite.specs.Slots.{output_slots, filled_slots, with_behind}
use Rattle.wz_rewrite.specs.Dropped.{dropped_elements}
use Rattle.wz_rewrite.specs.Output.{output_module}
use Rattle.wz_rewrite.specs.ValidOutput.{HasTypesOf, FitsGlobal, AllowsPages}
use Rattle.wz_rewrite.proofs.ConstantLemmas.{begun-refs, begun-kinds}
use Rattle.wz_rewrite.proofs.SizeLemmas.{grown-count}
use Rattle.wz_rewrite.proofs.ContentLemmas.{dropped_passive}
use Rattle.wz_rewrite.proofs.ElementLemmas.{kept-refs, kept-kinds, declares}
use Rattle.wz_rewrite.proofs.SlotLemmas.{slots-many}

abbrev pub written : Module → RecordedState → List Memory → KeptExports → Module
written m r memories k = output_module m (output_state m r memories k)

module _ (m : Module) (r : RecordedState) (memories : List Memory) (k : KeptExports) (types : HasTypesOf m r memories) where
  abbrev out : Module
  out = written m r memories k

  abbrev undeclared : List ℕ
  undeclared = undeclared_functions m r k

  abbrev dropped : List ℕ
  dropped = dropped_elements m (output_state m r memories k)

  -- ---- the functions that the output declares

  abbrev old_elements : List Elem
  old_elements = kept_elements dropped 0 m.elements

  abbrev new_elements : List Elem
  new_elements = map declaring (declarations undeclared)

  abbrev in_globals : List ℕ
  in_globals = flat_map (λ g. referred_in g.init) out.globals

  abbrev in_exports : List ℕ
  in_exports = flat_map (λ e. exported_function e.target) k.entries

  elements-in : AreIn (flat_map referred_in_segment out.elements) (declared_in out)
  elements-in f h =
      let inside = has-first f (flat_map referred_in_segment out.elements) in_exports h in
      has-second f in_globals (flat_map referred_in_segment out.elements ++ in_exports) inside

  old-in-elements : AreIn (flat_map referred_in_segment m.elements) (flat_map referred_in_segment out.elements)
  old-in-elements f h =
      let old = subst (λ (ns : List ℕ). Has f ns) (sym (kept-refs dropped 0 m.elements (dropped_passive m (output_state m r memories k)))) h in
      subst (λ (ns : List ℕ). Has f ns) (sym (flat_map-append referred_in_segment old_elements new_elements))
      (has-first f (flat_map referred_in_segment old_elements) (flat_map referred_in_segment new_elements) old)

  pub old-declared : AreIn (flat_map referred_in_segment m.elements) (declared_in out)
  old-declared f h = elements-in f (old-in-elements f h)

  pub anew-declared : AreIn undeclared (declared_in out)
  anew-declared f h =
      elements-in f
      (subst (λ (ns : List ℕ). Has f ns) (sym (flat_map-append referred_in_segment old_elements new_elements))
      (has-second f (flat_map referred_in_segment old_elements) (flat_map referred_in_segment new_elements) (declares undeclared f h)))

  pub values-declared : AreIn (flat_map value_refs r.globals) (declared_in out)
  values-declared f h =
      has-first f in_globals (flat_map referred_in_segment out.elements ++ in_exports)
      (subst (λ (ns : List ℕ). Has f ns) (sym (begun-refs (λ g v. FitsGlobal m g v) m.globals r.globals types.globals)) h)

  exports-declared : AreIn in_exports (declared_in out)
  exports-declared f h =
      has-second f in_globals (flat_map referred_in_segment out.elements ++ in_exports) (has-second f (flat_map referred_in_segment out.elements) in_exports h)

  elsewhere-declared : AreIn (refs_elsewhere m r k) (declared_in out)
  elsewhere-declared =
      in-both (flat_map referred_in_segment m.elements) (in_exports ++ flat_map value_refs r.globals) (declared_in out) old-declared
      (in-both in_exports (flat_map value_refs r.globals) (declared_in out) exports-declared values-declared)

  -- each function that a body names
  pub bodies-declared : RefsAreFound → AreIn (flat_map body_refs m.bodies) (declared_in out)
  bodies-declared found f h =
      elim (or_cases _ _ (found m r k f h)) [
        | inl elsewhere ↦ elsewhere-declared f elsewhere
        | inr anew ↦ anew-declared f anew
      ]

  -- ---- the context

  pub same-memories : length (imported_memories m.imports ++ out.memories) ≡ length (imported_memories m.imports ++ m.memories)
  same-memories =
      length-append (imported_memories m.imports) out.memories
      ∙ ap (λ (n : ℕ). length (imported_memories m.imports) + n) (grown-count (λ memory p. AllowsPages memory p) m.memories r.pages types.sizes)
      ∙ sym (length-append (imported_memories m.imports) m.memories)

  pub same-globals : imported_globals m.imports ++ map (λ g. g.kind) out.globals ≡ imported_globals m.imports ++ map (λ g. g.kind) m.globals
  same-globals =
      ap (λ (kinds : List GlobalType). imported_globals m.imports ++ kinds) (begun-kinds (λ g v. FitsGlobal m g v) m.globals r.globals types.globals)

  abbrev pub more_kinds : List RefKind
  more_kinds = map (λ e. e.kind) new_elements

  more-elements : map (λ e. e.kind) out.elements ≡ map (λ e. e.kind) m.elements ++ more_kinds
  more-elements =
      map-append (λ (e : Elem). e.kind) old_elements new_elements
      ∙ ap (λ (kinds : List RefKind). kinds ++ more_kinds) (kept-kinds dropped 0 m.elements)

  pub context-is : context_of out ≡ widened (context_of m) more_kinds (length out.datas) (declared_in out)
  context-is = λ i. record {
    types = m.types;
    functions = all_functions m;
    tables = map (λ table. table.kind) (all_tables m);
    memories = same-memories i;
    globals = same-globals i;
    imported_globals = length (imported_globals m.imports);
    elements = more-elements i;
    datas = length out.datas;
    declared = declared_in out;
  }

  pub more-datas : length m.datas ≤ length out.datas
  more-datas =
      let o = output_state m r memories k in
      let many = slots-many r.empty_data 0 m.datas r.segments in
      let filled = length-map (filled_slots m o) (λ s. segment_of s.0 s.1) in
      let all = length-map (output_slots m o) (λ slot. with_behind memories slot) in
      omega (arith, many, filled, all)
