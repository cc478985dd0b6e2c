-- What instantiation makes of a valid module is typed.
use Rattle.std.proofs.Common.{◌≡◌, ℕ, ◌+◌, ◌*◌, ◌^◌, ◌<◌, ◌≤◌, nat_le, List, [], ◌∷◌, Option, Some, None, Bool, true, false, ◌&&◌, if◌then◌else◌, IsSomeAnd, length, map, get_or, drop, slice_get, option_map, refl, sym, ap, subst, arith}
use Rattle.std.specs.List.{All}
use Rattle.std.proofs.lemmas.Bool.{and_parts, leb-true}
use Rattle.std.proofs.lemmas.List.{length-take, length-replicate}
use Rattle.std.proofs.lemmas.List.Elements.{All-map}
use Rattle.std.proofs.lemmas.List.Sums.{get_or-le-sum_by}
use Rattle.std.proofs.lemmas.Option.{slice_get_within, slice_get-get_or, get_or_from_slice_get}
use Rattle.std.proofs.Math.ListN.{length-map}
use Rattle.wz_types.specs.declared.types.RefKind.{RefKind}
use Rattle.wz_types.specs.declared.types.TableType.{TableType}
use Rattle.wz_types.specs.declared.types.MemType.{MemType}
use Rattle.wz_types.specs.declared.trap.TrapKind.TheVariants.{TableBounds, MemoryBounds}
use Rattle.wz_types.specs.declared.value.Reference.{Reference}
use Rattle.wz_types.specs.declared.value.Reference.TheVariants.{Null}
use Rattle.wz_types.specs.declared.value.Value.{Value}
use Rattle.wz_types.specs.declared.value.Value.TheVariants.{Ref}
use Rattle.wz_types.specs.SameType.{same_kind}
use Rattle.wz_types.specs.Fits.{Fits, type_of_kind}
use Rattle.wz_types.proofs.SameTypeLemmas.{same_type-itself, same_kind-true}
use Rattle.wz_linear.specs.Bytes.{part}
use Rattle.wz_code.specs.Trees.{Code}
use Rattle.wz_valid_code.specs.Typing.{IsConstant}
use Rattle.wz_module.specs.Elements.{ElemMode, PassiveElem, ActiveElem, DeclarativeElem, Elem}
use Rattle.wz_module.specs.Datas.{DataMode, PassiveData, ActiveData, DataSegment}
use Rattle.wz_module.specs.Module.{Module}
use Rattle.wz_valid.specs.declared.faults.Part.TheVariants as part
use Rattle.wz_valid.specs.Limits.{IsTableOk}
use Rattle.wz_valid.specs.Indices.{all_functions}
use Rattle.wz_valid.specs.Contexts.{context_of}
use Rattle.wz_valid.specs.Items.{IsElemOk}
use Rattle.wz_valid.specs.Validity.{IsValid}
use Rattle.wz_valid.specs.Profile.{IsInProfile}
use Rattle.wz_store.specs.State.{Table, Memory, Element, pages_of, page_size, pages_together}
use Rattle.wz_store.specs.Changes.{Change, WriteTable, WriteMemory, EmptyElement, EmptyData, range_of, applied}
use Rattle.wz_store.specs.Made.{new_table, new_memory, new_element}
use Rattle.wz_bulk.specs.Effects.{BulkEffect, Makes, Aborts, Misfits, within}
use Rattle.wz_bulk.specs.TableEffects.{table_init_effect}
use Rattle.wz_bulk.specs.MemoryEffects.{memory_init_effect}
use Rattle.wz_machine.specs.State.{State, lasting_parts, FunctionInstance}
use Rattle.wz_machine.specs.TypedState.{state_context, HasType, HaveKind, HoldsBytes, IsStateTyped}
use Rattle.wz_machine.specs.TypedSteps.{IsChangeTyped}
use Rattle.wz_machine.specs.TypedLaws.{ChangeKeepsTyping}
use Rattle.wz_machine.proofs.StuckParts.{every-part, every-same, bytes-part, part-short, each-same}
use Rattle.wz_init.specs.Functions.{functions_in}
use Rattle.wz_init.specs.Constants.{constant_value, constant_reference, constant_number}
use Rattle.wz_init.specs.Allocation.{each_of, first_element}
use Rattle.wz_init.specs.Instances.{Instance, ElementUnfit, DataUnfit, NoInstance, Fresh, instance_then}
use Rattle.wz_init.specs.Instantiation.{copied, element_copied, element_run, elements_run, data_copied, data_run, datas_run, segments_run}
use Rattle.wz_init.specs.Reached.{lasting_of}
use Rattle.wz_init.specs.Typed.{DatasHoldBytes}
use Rattle.wz_init.proofs.ModuleLemmas.{reads_none}
use Rattle.wz_init.proofs.FreshLemmas.{WasAllocated}
use Rattle.wz_init.proofs.FirstLemmas.{own_value, each_from, reference_is, IsFirst}
use Rattle.wz_init.proofs.SmallLemmas.{all_at}
use Rattle.wz_init.proofs.TypedModules.{FunctionLaws, has_type, functions_typed}

-- ---- what is allocated

-- the state is typed in the context that its own lists give
abbrev pub IsSelfTyped : State → Type 0
IsSelfTyped s = IsStateTyped (state_context s) s

pub pages_at_most : (memories : List Memory) (i : ℕ) (memory : Memory) → slice_get memories i ≡ Some memory → pages_of memory ≤ pages_together memories
pages_at_most memories i memory here =
    subst (λ (x : Memory). pages_of x ≤ pages_together memories) (get_or_from_slice_get memories i memory memory here)
    (get_or-le-sum_by pages_of memories i memory (slice_get_within memories i memory here))

tables_ok : (m : Module) → IsValid m → All (λ table. IsTableOk table) m.tables
tables_ok m valid i d less =
    subst (λ (o : Option TableType). IsSomeAnd o (λ table. IsTableOk table)) (slice_get-get_or m.tables i d less) (valid part.Table i less)

-- a new table holds null alone
abbrev IsTableTyped : State → Table → Type 0
IsTableTyped s table = HaveKind (state_context s) table.kind table.entries × (length table.entries < 2 ^ 32)

new_table_typed : (s : State) (type : TableType) → IsTableOk type → IsTableTyped s (new_table type)
new_table_typed s type ok = (
  every-same (state_context s) type.kind (Null type.kind) type.limits.min (same_type-itself (type_of_kind type.kind)),
  omega (arith, ok.0, length-replicate type.limits.min (Null type.kind)),
)

new_tables_typed : (m : Module) (s : State) → IsValid m → s.tables ≡ map new_table m.tables → (i : ℕ) (table : Table) → slice_get s.tables i ≡ Some table → IsTableTyped s table
new_tables_typed m s valid is i table here =
    all_at (λ (t : Table). IsTableTyped s t) (map new_table m.tables)
    (All-map (λ (t : Table). IsTableTyped s t) new_table m.tables (λ k d less. new_table_typed s (get_or m.tables k d) (tables_ok m valid k d less))) i table
    (subst (λ (ts : List Table). slice_get ts i ≡ Some table) is here)

-- a new memory holds zeros alone
new_memory_bytes : (type : MemType) → HoldsBytes (new_memory type).bytes
new_memory_bytes type k byte here = let same = each-same 0 (type.limits.min * page_size) k byte here in omega (arith, same)

new_memories_typed : (m : Module) (s : State) → s.memories ≡ map new_memory m.memories → (i : ℕ) (memory : Memory) → slice_get s.memories i ≡ Some memory
    → HoldsBytes memory.bytes
new_memories_typed m s is i memory here =
    all_at (λ (x : Memory). HoldsBytes x.bytes) (map new_memory m.memories)
    (All-map (λ (x : Memory). HoldsBytes x.bytes) new_memory m.memories (λ k d less. new_memory_bytes (get_or m.memories k d))) i memory
    (subst (λ (ms : List Memory). slice_get ms i ≡ Some memory) is here)

new_datas_typed : (m : Module) (s : State) → DatasHoldBytes m → s.datas ≡ map (λ (segment : DataSegment). segment.bytes) m.datas → (i : ℕ) (bytes : List ℕ)
    → slice_get s.datas i ≡ Some bytes → HoldsBytes bytes
new_datas_typed m s datas is i bytes here =
    all_at (λ (byte : ℕ). byte < 256) bytes
    (all_at (λ (bs : List ℕ). All (λ byte. byte < 256) bs) (map (λ (segment : DataSegment). segment.bytes) m.datas)
    (All-map (λ (bs : List ℕ). All (λ byte. byte < 256) bs) (λ (segment : DataSegment). segment.bytes) m.datas datas) i bytes
    (subst (λ (ds : List (List ℕ)). slice_get ds i ≡ Some bytes) is here))

module _ (m : Module) (s : State) (profile : IsInProfile m) (parts : lasting_parts s ≡ lasting_of m) where
  -- a constant expression of a kind gives a reference of it
  item_typed : (kind : RefKind) (init : Code) (r : Reference) → IsConstant (context_of m) init (type_of_kind kind) → constant_reference m init ≡ Some r
      → HasType (state_context s) (Ref r) (type_of_kind kind)
  item_typed kind init r constant is =
      let has = own_value m (context_of m) init (type_of_kind kind) (reads_none m profile) constant in
      let same : has.content ≡ Ref r = reference_is (constant_value m init) has.content r has.evaluated is in
      has_type m s parts (Ref r) (type_of_kind kind)
      (subst (λ (content : Value). Fits content (type_of_kind kind) (length (all_functions m)) (length m.types)) same has.fitting)

  element_typed : (x : Elem) (e : Element) → IsElemOk m x → first_element m x ≡ Some e → HaveKind (state_context s) e.kind e.items
  element_typed x e ok h = by (each_of (λ init. constant_reference m init) x.init) refl h
    where
      by : (o : Option (List Reference)) → each_of (λ init. constant_reference m init) x.init ≡ o → option_map (λ items. new_element x.kind items) o ≡ Some e
          → HaveKind (state_context s) e.kind e.items
      by None a h = absurd (cc h)
      by (Some items) a h =
          let same : new_element x.kind items ≡ e = cc h in
          subst (λ (y : Element). HaveKind (state_context s) y.kind y.items) same
          (each_from (λ init. constant_reference m init) (λ init. IsConstant (context_of m) init (type_of_kind x.kind))
          (λ r. HasType (state_context s) (Ref r) (type_of_kind x.kind)) (λ init r constant is. item_typed x.kind init r constant is) x.init ok.0 items a)

  pub allocated_typed : FunctionLaws → IsValid m → DatasHoldBytes m → All (λ e. IsElemOk m e) m.elements → WasAllocated m (functions_in m) s → IsFirst s s → IsSelfTyped s
  allocated_typed laws valid datas elements was first = record {
    functions = functions_typed laws m s valid profile parts;
    globals = λ i global here.
        subst (λ (n : ℕ). Fits global.content global.type.value n (length s.types)) (sym (length-map s.functions (λ (f : FunctionInstance). f.signature)))
        (first.fitting i global here);
    tables = λ i table here. (new_tables_typed m s valid (ap (λ (t : State). t.tables) was.is) i table here).0;
    elements = λ i e here.
        each_from (λ e. first_element m e) (λ e. IsElemOk m e) (λ e. HaveKind (state_context s) e.kind e.items) (λ x e ok h. element_typed x e ok h) m.elements elements
        was.elements was.second i e (subst (λ (t : State). slice_get t.elements i ≡ Some e) was.is here);
    memories = new_memories_typed m s (ap (λ (t : State). t.memories) was.is);
    datas = new_datas_typed m s datas (ap (λ (t : State). t.datas) was.is);
    pages = λ i memory here. let few = pages_at_most s.memories i memory here in let all : pages_together s.memories ≤ 16384 = first.pages in omega (arith, few, all);
    sizes = λ i table here. (new_tables_typed m s valid (ap (λ (t : State). t.tables) was.is) i table here).1;
  }

-- ---- active segments

abbrev IsEffectTyped : State → BulkEffect → Type 0
IsEffectTyped s (Makes change) = IsChangeTyped s change
IsEffectTyped s (Aborts kind) = Unit {0}
IsEffectTyped s Misfits = Unit {0}

table_init_typed : (s : State) (index table offset count : ℕ) (t : Option Table) (e : Option Element) → IsSelfTyped s → slice_get s.tables table ≡ t
    → slice_get s.elements index ≡ e → IsEffectTyped s (table_init_effect table t e offset 0 count)
table_init_typed s index table offset count None e typed here is = tt
table_init_typed s index table offset count (Some t) None typed here is = tt
table_init_typed s index table offset count (Some t) (Some element) typed here is =
    by (same_kind element.kind t.kind) refl (within offset count (length t.entries) && within 0 count (length element.items)) refl
  where
    by : (b : Bool) → same_kind element.kind t.kind ≡ b → (c : Bool) → (within offset count (length t.entries) && within 0 count (length element.items)) ≡ c
        → IsEffectTyped s (if b then (if c then Makes (WriteTable table offset (range_of element.items 0 count)) else Aborts TableBounds) else Misfits)
    by true kinds true fits =
        λ other there.
        let same : t ≡ other = cc (here, there) in
        let one : HaveKind (state_context s) t.kind element.items =
        subst (λ (kind : RefKind). HaveKind (state_context s) kind element.items) (same_kind-true element.kind t.kind kinds) (typed.elements index element is) in
        let le = leb-true (offset + count) (length t.entries) (and_parts (nat_le (offset + count) (length t.entries)) (nat_le (0 + count) (length element.items)) fits).0 in
        subst (λ (x : Table). HaveKind (state_context s) x.kind (range_of element.items 0 count) × (offset + length (range_of element.items 0 count) ≤ length x.entries)) same
        (every-part (state_context s) t.kind element.items 0 count one, omega (arith, le, length-take count (drop 0 element.items)))
    by true kinds false fits = tt
    by false kinds c fits = tt

memory_init_typed : (s : State) (index memory offset count : ℕ) (o : Option Memory) (segment : Option (List ℕ)) → IsSelfTyped s → slice_get s.memories memory ≡ o
    → slice_get s.datas index ≡ segment → IsEffectTyped s (memory_init_effect memory o segment offset 0 count)
memory_init_typed s index memory offset count None segment typed here is = tt
memory_init_typed s index memory offset count (Some found) None typed here is = tt
memory_init_typed s index memory offset count (Some found) (Some bytes) typed here is =
    by (within offset count (length found.bytes) && within 0 count (length bytes)) refl
  where
    by : (b : Bool) → (within offset count (length found.bytes) && within 0 count (length bytes)) ≡ b
        → IsEffectTyped s (if b then Makes (WriteMemory memory offset (part bytes 0 count)) else Aborts MemoryBounds)
    by true fits = (
      bytes-part bytes 0 count (typed.datas index bytes is),
      λ other there.
          let same : found ≡ other = cc (here, there) in
          let le = leb-true (offset + count) (length found.bytes) (and_parts (nat_le (offset + count) (length found.bytes)) (nat_le (0 + count) (length bytes)) fits).0 in
          let short = part-short bytes 0 count in
          subst (λ (x : Memory). offset + length (part bytes 0 count) ≤ length x.bytes) same (omega (arith, le, short)),
    )
    by false fits = tt

-- what instantiation comes to is typed, if it is an instance
abbrev pub IsInstanceTyped : Fresh → Type 0
IsInstanceTyped (Instance s) = IsSelfTyped s
IsInstanceTyped (ElementUnfit index) = Unit {0}
IsInstanceTyped (DataUnfit index) = Unit {0}
IsInstanceTyped NoInstance = Unit {0}

then_typed : (more : State → Fresh) (made : Fresh) → ((s : State) → IsSelfTyped s → IsInstanceTyped (more s)) → IsInstanceTyped made → IsInstanceTyped (instance_then more made)
then_typed more (Instance s) on typed = on s typed
then_typed more (ElementUnfit index) on typed = tt
then_typed more (DataUnfit index) on typed = tt
then_typed more NoInstance on typed = tt

module _ (changes : ChangeKeepsTyping) (m : Module) where
  copied_typed : (unfit : Fresh) (drop : Change) (s : State) (effect : BulkEffect) → IsInstanceTyped unfit → ((t : State) → IsChangeTyped t drop) → IsSelfTyped s
      → IsEffectTyped s effect → IsInstanceTyped (copied unfit drop s effect)
  copied_typed unfit drop s (Makes change) none fine typed h = changes (applied change s) drop (changes s change typed h) (fine (applied change s))
  copied_typed unfit drop s (Aborts kind) none fine typed h = none
  copied_typed unfit drop s Misfits none fine typed h = tt

  element_run_typed : (index count : ℕ) (mode : ElemMode) (s : State) → IsSelfTyped s → IsInstanceTyped (element_run m index count mode s)
  element_run_typed index count PassiveElem s typed = typed
  element_run_typed index count (ActiveElem table offset) s typed = by (constant_number m offset)
    where
      by : (o : Option ℕ) → IsInstanceTyped (element_copied index table count o s)
      by None = tt
      by (Some n) =
          copied_typed (ElementUnfit index) (EmptyElement index) s (table_init_effect table (slice_get s.tables table) (slice_get s.elements index) n 0 count) tt (λ t. tt) typed
          (table_init_typed s index table n count (slice_get s.tables table) (slice_get s.elements index) typed refl refl)
  element_run_typed index count DeclarativeElem s typed = changes s (EmptyElement index) typed tt

  elements_run_typed : (index : ℕ) (elements : List Elem) (s : State) → IsSelfTyped s → IsInstanceTyped (elements_run m index elements s)
  elements_run_typed index [] s typed = typed
  elements_run_typed index (x ∷ elements) s typed =
      then_typed (λ now. elements_run m (index + 1) elements now) (element_run m index (length x.init) x.mode s)
      (λ now typed. elements_run_typed (index + 1) elements now typed) (element_run_typed index (length x.init) x.mode s typed)

  data_run_typed : (index count : ℕ) (mode : DataMode) (s : State) → IsSelfTyped s → IsInstanceTyped (data_run m index count mode s)
  data_run_typed index count PassiveData s typed = typed
  data_run_typed index count (ActiveData memory offset) s typed = by (constant_number m offset)
    where
      by : (o : Option ℕ) → IsInstanceTyped (data_copied index memory count o s)
      by None = tt
      by (Some n) =
          copied_typed (DataUnfit index) (EmptyData index) s (memory_init_effect memory (slice_get s.memories memory) (slice_get s.datas index) n 0 count) tt (λ t. tt) typed
          (memory_init_typed s index memory n count (slice_get s.memories memory) (slice_get s.datas index) typed refl refl)

  datas_run_typed : (index : ℕ) (segments : List DataSegment) (s : State) → IsSelfTyped s → IsInstanceTyped (datas_run m index segments s)
  datas_run_typed index [] s typed = typed
  datas_run_typed index (x ∷ segments) s typed =
      then_typed (λ now. datas_run m (index + 1) segments now) (data_run m index (length x.bytes) x.mode s)
      (λ now typed. datas_run_typed (index + 1) segments now typed) (data_run_typed index (length x.bytes) x.mode s typed)

  pub segments_run_typed : (s : State) → IsSelfTyped s → IsInstanceTyped (segments_run m s)
  segments_run_typed s typed =
      then_typed (λ now. datas_run m 0 m.datas now) (elements_run m 0 m.elements s) (λ now typed. datas_run_typed 0 m.datas now typed)
      (elements_run_typed 0 m.elements s typed)
