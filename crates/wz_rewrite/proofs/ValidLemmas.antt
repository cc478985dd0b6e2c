-- The output of a valid module is valid, part by part.
use Rattle.std.proofs.Common.{◌≡◌, ℕ, ◌/◌, ◌^◌, ◌<◌, ◌≤◌, List, [], ◌∷◌, ◌++◌, length, map, Option, Some, None, Ok, IsTrue, IsSomeAnd}
use Rattle.std.proofs.Common.{refl, sym, ap, subst, ◌∙◌, slice_get, All, take, arith}
use Rattle.std.specs.Prelude.{is_some}
use Rattle.std.specs.List.{AllZip, flat_map, sum, sum_by}
use Rattle.std.proofs.lemmas.List.Elements.{All-nil, All-cons, All-head, All-tail, All-append, All-weaker}
use Rattle.std.proofs.lemmas.Slice.Zip.{AllZip-long}
use Rattle.std.proofs.lemmas.List.{length-append, length-map}
use Rattle.std.proofs.lemmas.List.Sums.{sum-map, get_or-le-sum_by}
use Rattle.std.proofs.lemmas.Option.{slice_get_within, get_or_from_slice_get}
use Rattle.wz_types.specs.declared.types.GlobalType.{GlobalType}
use Rattle.wz_types.specs.declared.types.MemType.{MemType}
use Rattle.wz_types.specs.declared.types.ValType.{ValType}
use Rattle.wz_types.specs.declared.types.ValType.TheVariants.{I32}
use Rattle.wz_types.specs.Fits.{type_of_kind}
use Rattle.wz_code.specs.Trees.{Code}
use Rattle.wz_code.specs.References.{referred_in, AreIn}
use Rattle.wz_code.proofs.NumberLemmas.{in-first, in-second, in-flat, in-filtered, all-from-has}
use Rattle.wz_module.specs.declared.items.ImportKind.{ImportKind}
use Rattle.wz_module.specs.declared.items.ImportKind.TheVariants as kind
use Rattle.wz_module.specs.declared.items.ExportTarget.{ExportTarget}
use Rattle.wz_module.specs.declared.items.ExportTarget.TheVariants as target
use Rattle.wz_module.specs.Imports.{Import}
use Rattle.wz_module.specs.Exports.{Export}
use Rattle.wz_module.specs.Functions.{BodyTree}
use Rattle.wz_module.specs.Elements.{ElemMode, PassiveElem, ActiveElem, DeclarativeElem, Elem}
use Rattle.wz_module.specs.Module.{Module}
use Rattle.wz_module.specs.References.{referred_in_mode, referred_in_segment}
use Rattle.wz_valid_code.specs.Context.{TypingContext, scope_of}
use Rattle.wz_valid_code.specs.Typing.{IsConstant}
use Rattle.wz_valid_code.specs.Widening.{widened}
use Rattle.wz_valid_code.proofs.WideningLemmas.{typing_widens, constant_widens}
use Rattle.wz_valid.specs.declared.faults.Part.{Part}
use Rattle.wz_valid.specs.declared.faults.Part.TheVariants as part
use Rattle.wz_valid.specs.Indices.{memory_import, imported_memories, all_functions}
use Rattle.wz_valid.specs.Contexts.{context_of, globals_context_of}
use Rattle.wz_valid.specs.DeclaredFunctions.{declared_in}
use Rattle.wz_valid.specs.Limits.{IsMemoryOk}
use Rattle.wz_valid.specs.Items.{IsTreeTyped, IsBodyOk, IsOnlyMemory, IsGlobalOk, IsTarget, IsExportOk, IsElemModeOk, IsElemOk, IsDataModeOk}
use Rattle.wz_valid.specs.Validity.{IsItemOk, IsPartOk, IsValid}
use Rattle.wz_valid.specs.Profile.{IsFunctionKind, IsFunctionImport, pages_limit, first_pages, IsInProfile}
use Rattle.wz_linear.specs.Bytes.{IsWithin}
use Rattle.wz_store.specs.State.{Memory, pages_of}
use Rattle.wz_words.specs.Settings.{Settings}
use Rattle.wz_snapshot.specs.declared.segment.ChosenSegment.{ChosenSegment}
use Rattle.wz_snapshot.specs.Recorded.{RecordedState}
use Rattle.wz_exports.specs.Kept.{KeptExports, kept, kept_exports}
use Rattle.wz_exports.specs.Undeclared.{body_refs, undeclared_functions, rising}
use Rattle.wz_exports.specs.Laws.{RefsAreFound}
use Rattle.wz_exports.proofs.KeptLemmas.{names_differ}
use Rattle.wz_exports.proofs.RisingLemmas.{has-rising}
use Rattle.wz_rewrite.specs.OutputState.{HasRange, HasRanges, output_state}
use Rattle.wz_rewrite.specs.Slots.{output_slots}
use Rattle.wz_rewrite.specs.Dropped.{dropped_elements}
use Rattle.wz_rewrite.specs.ValidOutput.{AllowsPages, HasTypesOf, GivesNamesOnce, IsValidWith, OutputIsValid}
use Rattle.wz_rewrite.proofs.ItemLemmas.{all-items, item-of, some-more, below-of-some, NamesDiffer, IsNewName, new-name, names-differ}
use Rattle.wz_rewrite.proofs.ConstantLemmas.{begun-ok}
use Rattle.wz_rewrite.proofs.SizeLemmas.{grown-count, grown-sum, grown-ok, each-within}
use Rattle.wz_rewrite.proofs.ElementLemmas.{kept-all, references-ok, declared-all}
use Rattle.wz_rewrite.proofs.SlotLemmas.{IsChosenOk, slots-ok, segments-ok}
use Rattle.wz_rewrite.proofs.BodyLemmas.{from-some, named-there, entries-kept, targets-kept}
use Rattle.wz_rewrite.proofs.ContextLemmas.{written, old-declared, anew-declared, values-declared, bodies-declared, same-memories, same-globals, more_kinds, context-is, more-datas}

-- ---- memories of a module without imported ones

no-imports : (imports : List Import) → All IsFunctionImport imports → imported_memories imports ≡ []
no-imports [] all = refl
no-imports (x ∷ imports) all = by x.kind (All-head IsFunctionImport x imports all) (no-imports imports (All-tail IsFunctionImport x imports all)) where
  by : (k : ImportKind) → IsFunctionKind k → imported_memories imports ≡ [] → memory_import k ++ imported_memories imports ≡ []
  by (kind.Func type) function none = none
  by (kind.Table type) function none = absurd function
  by (kind.Memory type) function none = absurd function
  by (kind.Global type) function none = absurd function

sizes-long : (R : MemType → ℕ → Type 0) (memories : List MemType) (pages : List ℕ) → AllZip R memories pages → length memories ≡ length pages
sizes-long R memories pages all = sym (AllZip-long R memories pages all)

-- a chosen range is of a memory that is there, at an address of 32 bits
small-memory : (memories : List Memory) (number : ℕ) (memory : Memory) → slice_get memories number ≡ Some memory → sum (map pages_of memories) ≤ pages_limit
    → length memory.bytes < 2 ^ 32
small-memory memories number memory here few =
    let one = get_or-le-sum_by pages_of memories number memory (slice_get_within memories number memory here) in
    let same = ap pages_of (get_or_from_slice_get memories number memory memory here) in
    let all = sum-map pages_of memories in
    let pages : length memory.bytes / 65536 ≤ 16384 = omega (arith, one, same, all, few) in
    omega (arith, pages)

address-small : (memories : List Memory) (segment : ChosenSegment) (o : Option Memory) → slice_get memories segment.memory ≡ o → sum (map pages_of memories) ≤ pages_limit
    → IsSomeAnd o (λ memory. IsWithin memory.bytes segment.at segment.len) → segment.at < 2 ^ 32
address-small memories segment None here few range = absurd range
address-small memories segment (Some memory) here few range = let small = small-memory memories segment.memory memory here few in omega (arith, small, range)

chosen-ok : (memories : List Memory) (count : ℕ) (segment : ChosenSegment) → length memories ≤ count → sum (map pages_of memories) ≤ pages_limit → HasRange memories segment
    → IsChosenOk count segment
chosen-ok memories count segment enough few range =
    let inside = below-of-some memories segment.memory (λ memory. IsWithin memory.bytes segment.at segment.len) range in
    (omega (arith, inside, enough), address-small memories segment (slice_get memories segment.memory) refl few range)

module _ (m : Module) (s : Settings) (k : KeptExports) (r : RecordedState) (memories : List Memory) (valid : IsValid m) (profile : IsInProfile m)
    (differ : GivesNamesOnce s) (is_kept : kept m s ≡ Ok k) (types : HasTypesOf m r memories) (ranges : HasRanges memories r.segments) (found : RefsAreFound) where
  abbrev out : Module
  out = written m r memories k

  abbrev undeclared : List ℕ
  undeclared = undeclared_functions m r k

  abbrev declared : List ℕ
  declared = declared_in out

  abbrev wider : TypingContext
  wider = widened (context_of m) (more_kinds m r memories k types) (length out.datas) declared

  same-context : context_of out ≡ wider
  same-context = context-is m r memories k types

  -- ---- constant expressions and code of the module

  constant-still : (code : Code) (type : ValType) → AreIn (referred_in code) declared → IsConstant (context_of m) code type → IsConstant (context_of out) code type
  constant-still code type inside ok =
      subst (λ (c : TypingContext). IsConstant c code type) (sym same-context)
      (constant_widens (context_of m) (more_kinds m r memories k types) (length out.datas) declared code type inside ok)

  constants-still : (codes : List Code) (type : ValType) → AreIn (flat_map referred_in codes) declared → All (λ code. IsConstant (context_of m) code type) codes
      → All (λ code. IsConstant (context_of out) code type) codes
  constants-still [] type inside ok = All-nil (λ (code : Code). IsConstant (context_of out) code type)
  constants-still (code ∷ codes) type inside ok =
      All-cons (λ (x : Code). IsConstant (context_of out) x type) code codes
      (constant-still code type (in-first (referred_in code) (flat_map referred_in codes) declared inside)
      (All-head (λ (x : Code). IsConstant (context_of m) x type) code codes ok))
      (constants-still codes type (in-second (referred_in code) (flat_map referred_in codes) declared inside)
      (All-tail (λ (x : Code). IsConstant (context_of m) x type) code codes ok))

  -- ---- bodies

  body-ok : (i : ℕ) (body : BodyTree) → slice_get m.bodies i ≡ Some body → IsBodyOk m i body → IsBodyOk out i body
  body-ok i body here ok =
      let inside : AreIn (referred_in body.1) declared = λ f h. bodies-declared m r memories k types found f
      (in-flat body_refs m.bodies i body here f h) in
      some-more (slice_get m.functions i) (λ type. IsSomeAnd (slice_get m.types type) (λ signature. IsTreeTyped (context_of m) signature body)) _
      (λ type at fine. some-more (slice_get m.types type) (λ signature. IsTreeTyped (context_of m) signature body) _
      (λ signature known typed.
      subst (λ (c : TypingContext). IsTreeTyped c signature body) (sym same-context)
      (typing_widens (scope_of (context_of m) signature body.0) (more_kinds m r memories k types) (length out.datas) declared
      (more-datas m r memories k types) (signature.results ∷ []) body.1 [] signature.results inside typed)) fine) ok

  -- ---- element segments

  mode-ok : (e : Elem) (mode : ElemMode) → AreIn (referred_in_mode mode) declared → IsElemModeOk m e mode → IsElemModeOk out e mode
  mode-ok e PassiveElem inside ok = tt
  mode-ok e (ActiveElem table offset) inside ok = (ok.0, constant-still offset I32 inside ok.1)
  mode-ok e DeclarativeElem inside ok = tt

  element-ok : (e : Elem) → AreIn (referred_in_segment e) declared → IsElemOk m e → IsElemOk out e
  element-ok e inside ok =
      let mode = referred_in_mode e.mode in
      let inits = flat_map referred_in e.init in (
        constants-still e.init (type_of_kind e.kind) (in-second mode inits declared inside) ok.0,
        mode-ok e e.mode (in-first mode inits declared inside) ok.1,
      )

  olds-ok : (es : List Elem) → AreIn (flat_map referred_in_segment es) declared → All (λ e. IsElemOk m e) es → All (λ e. IsElemOk out e) es
  olds-ok [] inside ok = All-nil (λ (e : Elem). IsElemOk out e)
  olds-ok (e ∷ es) inside ok =
      All-cons (λ (x : Elem). IsElemOk out x) e es
      (element-ok e (in-first (referred_in_segment e) (flat_map referred_in_segment es) declared inside) (All-head (λ (x : Elem). IsElemOk m x) e es ok))
      (olds-ok es (in-second (referred_in_segment e) (flat_map referred_in_segment es) declared inside) (All-tail (λ (x : Elem). IsElemOk m x) e es ok))

  undeclared-there : All (λ f. IsTrue (is_some (slice_get (all_functions m) f))) undeclared
  undeclared-there =
      let named = flat_map body_refs m.bodies in
      all-from-has (λ f. IsTrue (is_some (slice_get (all_functions m) f))) undeclared
      (λ f h. named-there m valid f (subst (λ b. IsTrue b) (has-rising f named) (in-filtered _ (rising named) f h)))

  elements-ok : All (λ e. IsElemOk out e) out.elements
  elements-ok =
      let P : Elem → Type 0 = λ e. IsElemOk out e in
      All-append P _ _
      (kept-all P (λ e ok. (ok.0, tt)) (dropped_elements m (output_state m r memories k)) 0 m.elements
      (olds-ok m.elements (old-declared m r memories k types) (all-items (λ e. IsElemOk m e) m.elements (valid part.Element))))
      (declared-all P undeclared (references-ok (context_of out) undeclared (anew-declared m r memories k types) undeclared-there, tt))

  -- ---- globals, memories and data segments

  globals-ok : All (λ g. IsGlobalOk out g) out.globals
  globals-ok = begun-ok (globals_context_of out) (length m.types) m.globals r.globals types.globals types.own (values-declared m r memories k types)

  memories-ok : All IsMemoryOk out.memories
  memories-ok =
      let few = each-within r.pages pages_limit types.together in
      grown-ok m.memories r.pages types.sizes (All-weaker (λ (p : ℕ). p ≤ pages_limit) (λ (p : ℕ). p ≤ 2 ^ 16) (λ p h. omega (arith, h)) r.pages few)
      (all-items IsMemoryOk m.memories (λ i less. some-more (slice_get m.memories i) _ IsMemoryOk (λ memory here ok. ok.0) (valid part.Memory i less)))

  few-pages : sum (map pages_of memories) ≤ pages_limit
  few-pages = subst (λ (ps : List ℕ). sum ps ≤ pages_limit) types.pages types.together

  enough-memories : length memories ≤ (context_of out).memories
  enough-memories =
      let before = length-append (imported_memories m.imports) m.memories in
      let same = same-memories m r memories k types in
      let pages = ap (λ (ps : List ℕ). length ps) types.pages in
      let each = length-map memories pages_of in
      let sizes = sizes-long (λ memory p. AllowsPages memory p) m.memories r.pages types.sizes in
      omega (arith, before, same, pages, each, sizes)

  datas-ok : All (λ d. IsDataModeOk out d.mode) out.datas
  datas-ok =
      let count = (context_of out).memories in
      segments-ok (context_of out) memories (output_slots m (output_state m r memories k))
      (slots-ok count r.empty_data 0 m.datas r.segments
      (All-weaker (λ (c : ChosenSegment). HasRange memories c) (λ (c : ChosenSegment). IsChosenOk count c)
      (λ c range. chosen-ok memories count c enough-memories few-pages range) r.segments ranges))

  only-memory : (i : ℕ) → i < length m.memories → IsOnlyMemory m i
  only-memory i less =
      from-some (slice_get m.memories i) (λ memory. IsMemoryOk memory × IsOnlyMemory m i) (IsOnlyMemory m i) (λ memory ok. ok.1) (valid part.Memory i less)

  memory-ok : (i : ℕ) → i < length out.memories → IsItemOk out part.Memory i
  memory-ok i less =
      let same = grown-count (λ memory p. AllowsPages memory p) m.memories r.pages types.sizes in
      some-more (slice_get out.memories i) IsMemoryOk (λ memory. IsMemoryOk memory × IsOnlyMemory out i)
      (λ memory here ok. (ok, only-memory i (omega (arith, less, same)))) (item-of IsMemoryOk out.memories i memories-ok less)

  -- ---- exports

  target-still : (t : ExportTarget) → IsTarget m t → IsTarget out t
  target-still (target.Func index) ok = ok
  target-still (target.Table index) ok = ok
  target-still (target.Memory index) ok = let same = same-memories m r memories k types in omega (arith, ok, same)
  target-still (target.Global index) ok =
      let same = ap (λ (kinds : List GlobalType). length kinds) (same-globals m r memories k types) in omega (arith, ok, same)

  same-entries : k.entries ≡ kept_exports s m.exports
  same-entries = entries-kept m s k is_kept

  targets-ok : All (λ e. IsTarget out e.target) k.entries
  targets-ok =
      let P : List Export → Type 0 = λ es. All (λ e. IsTarget out e.target) es in
      let old = all-items (λ e. IsTarget m e.target) m.exports
      (λ i less. some-more (slice_get m.exports i) (λ e. IsExportOk m i e) (λ e. IsTarget m e.target) (λ e here ok. ok.0) (valid part.Export i less)) in
      subst P (sym same-entries)
      (targets-kept (λ t. IsTarget out t) s m.exports
      (All-weaker (λ (e : Export). IsTarget m e.target) (λ (e : Export). IsTarget out e.target) (λ e ok. target-still e.target ok) m.exports old))

  names-ok : NamesDiffer k.entries
  names-ok =
      subst (λ (es : List Export). NamesDiffer es) (sym same-entries)
      (names_differ s m.exports differ
      (names-differ m.exports
      (λ i less. some-more (slice_get m.exports i) (λ e. IsExportOk m i e) (λ e. IsNewName e (take i m.exports)) (λ e here ok. ok.1) (valid part.Export i less))))

  export-ok : (i : ℕ) → i < length k.entries → IsItemOk out part.Export i
  export-ok i less =
      some-more (slice_get k.entries i) (λ e. IsTarget out e.target) (λ e. IsExportOk out i e)
      (λ e here ok. (ok, new-name k.entries i e here names-ok)) (item-of (λ e. IsTarget out e.target) k.entries i targets-ok less)

  -- ---- the whole

  each-part : (p : Part) → IsPartOk out p
  each-part part.Import = valid part.Import
  each-part part.Function = valid part.Function
  each-part part.Table = valid part.Table
  each-part part.Memory = memory-ok
  each-part part.Global = λ i less. item-of (λ g. IsGlobalOk out g) out.globals i globals-ok less
  each-part part.Export = export-ok
  each-part part.Start = λ i less. absurd (omega (arith, less))
  each-part part.Element = λ i less. item-of (λ e. IsElemOk out e) out.elements i elements-ok less
  each-part part.Code = λ i less. some-more (slice_get m.bodies i) (λ body. IsBodyOk m i body) (λ body. IsBodyOk out i body) (body-ok i) (valid part.Code i less)
  each-part part.DataSegment = λ i less. item-of (λ d. IsDataModeOk out d.mode) out.datas i datas-ok less

  same-pages : first_pages out ≡ sum r.pages
  same-pages =
      ap (λ (imported : List MemType). sum_by (λ memory. memory.limits.min) (imported ++ out.memories)) (no-imports m.imports profile.imports)
      ∙ grown-sum (λ memory p. AllowsPages memory p) m.memories r.pages types.sizes

  within : IsInProfile out
  within = record { imports = profile.imports; memories = (let few = types.together in omega (arith, same-pages, few)); tables = profile.tables; locals = profile.locals }

  pub is-valid : IsValidWith out k
  is-valid = record { valid = each-part; profile = within; start = refl; exports = refl }

pub output_is_valid : RefsAreFound → OutputIsValid
output_is_valid found m s k r memories valid profile differ is_kept types ranges = is-valid m s k r memories valid profile differ is_kept types ranges found
