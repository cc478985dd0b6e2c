-- The fresh instance, by the store that it is made in.
use Rattle.std.proofs.Common.{◌≡◌, ℕ, ◌+◌, ◌<◌, List, [], ◌∷◌, Option, Some, None, length, map, slice_get, option_map, option_and_then, refl, sym, ap, subst, ◌∙◌, arith, IsSomeAnd, Result, Ok, Err, OnOk, IfErr}
use Rattle.std.specs.List.{All}
use Rattle.std.proofs.lemmas.Option.{slice_get-map, slice_get_within}
use Rattle.std.proofs.Math.ListN.{length-map}
use Rattle.wz_types.specs.declared.types.RefKind.{RefKind}
use Rattle.wz_types.specs.declared.types.TableType.{TableType}
use Rattle.wz_module.specs.declared.items.ElemMode.{ElemMode}
use Rattle.wz_module.specs.declared.items.ElemMode.TheVariants as elem_mode
use Rattle.wz_module.specs.declared.items.Elem as code_elem
use Rattle.wz_module.specs.declared.items.DataMode.{DataMode}
use Rattle.wz_module.specs.declared.items.DataMode.TheVariants as data_mode
use Rattle.wz_module.specs.declared.items.DataSegment as code_data
use Rattle.wz_module.specs.Elements as written
use Rattle.wz_module.specs.Elements.{PassiveElem, ActiveElem, DeclarativeElem, Elem}
use Rattle.wz_module.specs.Datas.{PassiveData, ActiveData, DataSegment}
use Rattle.wz_module.specs.Datas as kept
use Rattle.wz_module.specs.Module.{Module}
use Rattle.wz_module.specs.ShortLists.{IsShortList}
use Rattle.wz_module.specs.Views.{elem_of, data_of, init_of}
use Rattle.wz_store.specs.State.{Global, Table, Element, StateOf}
use Rattle.wz_store.specs.Changes.{Change, Nothing, SetGlobal, WriteTable, WriteMemory, GrowTable, GrowMemory, EmptyElement, EmptyData, applied}
use Rattle.wz_store.specs.Made.{StoredFunction, StoreState, new_table, new_memory}
use Rattle.wz_bulk.specs.Effects.{BulkEffect, Makes, Aborts, Misfits}
use Rattle.wz_bulk.specs.TableEffects.{table_init_effect}
use Rattle.wz_bulk.specs.MemoryEffects.{memory_init_effect}
use Rattle.wz_machine.specs.State.{State}
use Rattle.wz_init.specs.declared.faults.StartFault.{StartFault}
use Rattle.wz_init.specs.declared.faults.StartFault.TheVariants.{ElementOutOfBounds, DataOutOfBounds, NoMemory}
use Rattle.wz_init.specs.Functions.{function_in, stored_functions, functions_in}
use Rattle.wz_init.specs.States.{with_functions, state_in}
use Rattle.wz_init.specs.Constants.{constant_number}
use Rattle.wz_init.specs.Allocation.{first_globals, first_elements, allocated_of, allocated}
use Rattle.wz_init.specs.Instances.{InstanceOf, Instance, ElementUnfit, DataUnfit, NoInstance, instance_then}
use Rattle.wz_init.specs.Instantiation.{copied, element_copied, element_run, elements_run, data_copied, data_run, datas_run, segments_run, from_allocated, instantiated, fresh}
use Rattle.wz_init.specs.Plain.{plain_element, plain_element_run, plain_elements_run, plain_datas_run, table_kinds, element_kinds, IsElemModeReady, AreElemsReady, IsDataModeReady, AreDatasReady, IsUnfit}
use Rattle.wz_init.proofs.SegmentLemmas.{element_run_keeps, memories_kept, datas_kept}
use Rattle.wz_init.proofs.AllocationLemmas.{allocated_by}
use Rattle.wz_init.proofs.ModuleLemmas.{IsElemModeBody, IsElemBody, IsDataModeBody, then_same, same_elements_run, same_datas_run, all_of_map}
use Rattle.wz_init.proofs.SmallLemmas.{all_at}

-- ---- the same with other functions

pub functions_by : {F G : Type 0} → (F → G) → InstanceOf F → InstanceOf G
functions_by f (Instance s) = Instance (with_functions f s)
functions_by f (ElementUnfit index) = ElementUnfit index
functions_by f (DataUnfit index) = DataUnfit index
functions_by f NoInstance = NoInstance

change_with : {F G : Type 0} (f : F → G) (change : Change) (s : StateOf F) → applied change (with_functions f s) ≡ with_functions f (applied change s)
change_with f Nothing s = refl
change_with f (SetGlobal index value) s = refl
change_with f (WriteTable index at new) s = refl
change_with f (WriteMemory index at bytes) s = refl
change_with f (GrowTable index by reference) s = refl
change_with f (GrowMemory index pages) s = refl
change_with f (EmptyElement index) s = refl
change_with f (EmptyData index) s = refl

then_with : {F G : Type 0} (f : F → G) (more : StateOf F → InstanceOf F) (other : StateOf G → InstanceOf G)
    → ((s : StateOf F) → other (with_functions f s) ≡ functions_by f (more s)) → (made : InstanceOf F)
    → instance_then other (functions_by f made) ≡ functions_by f (instance_then more made)
unfolding functions_by
then_with f more other same (Instance s) = same s
then_with f more other same (ElementUnfit index) = refl
then_with f more other same (DataUnfit index) = refl
then_with f more other same NoInstance = refl

copied_with : {F G : Type 0} (f : F → G) (unfit : InstanceOf F) (drop : Change) (s : StateOf F) (effect : BulkEffect)
    → copied (functions_by f unfit) drop (with_functions f s) effect ≡ functions_by f (copied unfit drop s effect)
unfolding functions_by
copied_with f unfit drop s (Makes change) =
    ap (λ t. Instance (applied drop t)) (change_with f change s) ∙ ap (λ t. Instance t) (change_with f drop (applied change s))
copied_with f unfit drop s (Aborts kind) = refl
copied_with f unfit drop s Misfits = refl

element_copied_with : {F G : Type 0} (f : F → G) (index table count : ℕ) (offset : Option ℕ) (s : StateOf F)
    → element_copied index table count offset (with_functions f s) ≡ functions_by f (element_copied index table count offset s)
unfolding functions_by
element_copied_with f index table count None s = refl
element_copied_with f index table count (Some offset) s =
    copied_with f (ElementUnfit index) (EmptyElement index) s (table_init_effect table (slice_get s.tables table) (slice_get s.elements index) offset 0 count)

element_run_with : {F G : Type 0} (f : F → G) (m : Module) (index count : ℕ) (mode : written.ElemMode) (s : StateOf F)
    → element_run m index count mode (with_functions f s) ≡ functions_by f (element_run m index count mode s)
unfolding functions_by
element_run_with f m index count PassiveElem s = refl
element_run_with f m index count (ActiveElem table offset) s = element_copied_with f index table count (constant_number m offset) s
element_run_with f m index count DeclarativeElem s = refl

elements_run_with : {F G : Type 0} (f : F → G) (m : Module) (index : ℕ) (elements : List Elem) (s : StateOf F)
    → elements_run m index elements (with_functions f s) ≡ functions_by f (elements_run m index elements s)
unfolding functions_by
elements_run_with f m index [] s = refl
elements_run_with f m index (e ∷ elements) s =
    ap (instance_then (λ now. elements_run m (index + 1) elements now)) (element_run_with f m index (length e.init) e.mode s)
    ∙ then_with f (λ now. elements_run m (index + 1) elements now) (λ now. elements_run m (index + 1) elements now)
    (λ now. elements_run_with f m (index + 1) elements now) (element_run m index (length e.init) e.mode s)

data_copied_with : {F G : Type 0} (f : F → G) (index memory count : ℕ) (offset : Option ℕ) (s : StateOf F)
    → data_copied index memory count offset (with_functions f s) ≡ functions_by f (data_copied index memory count offset s)
unfolding functions_by
data_copied_with f index memory count None s = refl
data_copied_with f index memory count (Some offset) s =
    copied_with f (DataUnfit index) (EmptyData index) s (memory_init_effect memory (slice_get s.memories memory) (slice_get s.datas index) offset 0 count)

data_run_with : {F G : Type 0} (f : F → G) (m : Module) (index count : ℕ) (mode : kept.DataMode) (s : StateOf F)
    → data_run m index count mode (with_functions f s) ≡ functions_by f (data_run m index count mode s)
unfolding functions_by
data_run_with f m index count PassiveData s = refl
data_run_with f m index count (ActiveData memory offset) s = data_copied_with f index memory count (constant_number m offset) s

datas_run_with : {F G : Type 0} (f : F → G) (m : Module) (index : ℕ) (segments : List DataSegment) (s : StateOf F)
    → datas_run m index segments (with_functions f s) ≡ functions_by f (datas_run m index segments s)
unfolding functions_by
datas_run_with f m index [] s = refl
datas_run_with f m index (d ∷ segments) s =
    ap (instance_then (λ now. datas_run m (index + 1) segments now)) (data_run_with f m index (length d.bytes) d.mode s)
    ∙ then_with f (λ now. datas_run m (index + 1) segments now) (λ now. datas_run m (index + 1) segments now) (λ now. datas_run_with f m (index + 1) segments now)
    (data_run m index (length d.bytes) d.mode s)

segments_run_with : {F G : Type 0} (f : F → G) (m : Module) (s : StateOf F) → segments_run m (with_functions f s) ≡ functions_by f (segments_run m s)
segments_run_with f m s =
    ap (instance_then (λ now. datas_run m 0 m.datas now)) (elements_run_with f m 0 m.elements s)
    ∙ then_with f (λ now. datas_run m 0 m.datas now) (λ now. datas_run m 0 m.datas now) (λ now. datas_run_with f m 0 m.datas now) (elements_run m 0 m.elements s)

-- the fresh instance is the one that the store comes to, with the module's functions
fresh_is : (m : Module) (globals : List Global) (elements : List Element) → first_globals m ≡ Some globals → first_elements m ≡ Some elements
    → fresh m ≡ functions_by (λ function. function_in m.bodies function) (segments_run m (allocated_of m (stored_functions m) globals elements))
unfolding fresh instantiated
fresh_is m globals elements has are =
    ap (λ (o : Option State). from_allocated m o) (allocated_by m (functions_in m) globals elements has are)
    ∙ segments_run_with (λ function. function_in m.bodies function) m (allocated_of m (stored_functions m) globals elements)

-- ---- what was allocated

pub record WasAllocated {F : Type 0} (m : Module) (functions : List F) (s : StateOf F) : Type 0 where
  pub globals : List Global
  pub elements : List Element
  pub first : first_globals m ≡ Some globals
  pub second : first_elements m ≡ Some elements
  pub is : s ≡ allocated_of m functions globals elements

pub was_allocated : {F : Type 0} (m : Module) (functions : List F) (s : StateOf F) → allocated m functions ≡ Some s → WasAllocated m functions s
was_allocated {F = F} m functions s h = by (first_globals m) refl (first_elements m) refl h
  where
    by : (gs : Option (List Global)) → first_globals m ≡ gs → (es : Option (List Element)) → first_elements m ≡ es
        → option_and_then (λ globals. option_map (λ elements. allocated_of m functions globals elements) es) gs ≡ Some s → WasAllocated m functions s
    by None e es e' h = absurd (cc h)
    by (Some gs) e None e' h = absurd (cc h)
    by (Some gs) e (Some es) e' h =
        let is : allocated_of m functions gs es ≡ s = cc h in record { globals = gs; elements = es; first = e; second = e'; is = sym is }

-- ---- what active segments ask for is there

kinds_of_new : (tables : List TableType) → map (λ (table : Table). table.kind) (map new_table tables) ≡ map (λ (t : TableType). t.kind) tables
kinds_of_new [] = refl
kinds_of_new (t ∷ tables) = ap (λ ks. t.kind ∷ ks) (kinds_of_new tables)

kinds_of_elements : (elements : List code_elem.Elem) → map (λ (element : Element). element.kind) (map plain_element elements) ≡ map (λ (e : code_elem.Elem). e.kind) elements
kinds_of_elements [] = refl
kinds_of_elements (e ∷ elements) = ap (λ ks. e.kind ∷ ks) (kinds_of_elements elements)

some_and : {X : Type 0} (o : Option X) (P : X → Type 0) (x : X) → o ≡ Some x → P x → IsSomeAnd o P
some_and o P x e h = subst (λ (w : Option _). IsSomeAnd w P) (sym e) h

elem_mode_ready : (m : Module) (tables elements : List RefKind) (index : ℕ) (asked : RefKind) (mode : ElemMode)
    → tables ≡ map (λ (t : TableType). t.kind) m.tables → slice_get elements index ≡ Some asked → IsElemModeBody m asked mode → IsElemModeReady tables elements index mode
elem_mode_ready m tables elements index asked elem_mode.Passive same here h = tt
elem_mode_ready m tables elements index asked (elem_mode.Active table offset) same here h = (
  h.0.plain,
  some_and (slice_get elements index) (λ kind. slice_get tables table ≡ Some kind) asked here (ap (λ (ks : List RefKind). slice_get ks table) same ∙ h.1),
)
elem_mode_ready m tables elements index asked elem_mode.Declarative same here h = tt

pub elements_are_ready : (m : Module) (elements : List code_elem.Elem) (s : StoreState) → map elem_of elements ≡ m.elements → All (λ e. IsElemBody m e) elements
    → All (λ e. IsShortList e.init) m.elements → first_elements m ≡ Some (map plain_element elements) → WasAllocated m (stored_functions m) s → AreElemsReady s elements
elements_are_ready m elements s e bodies short first was =
    λ index x here.
    let same : was.elements ≡ map plain_element elements = cc (first, was.second) in
    let tables : table_kinds s ≡ map (λ (t : TableType). t.kind) m.tables =
    ap (λ (t : StoreState). table_kinds t) was.is ∙ kinds_of_new m.tables in
    let kinds : element_kinds s ≡ map (λ (y : code_elem.Elem). y.kind) elements =
    ap (λ (t : StoreState). element_kinds t) was.is ∙ ap (λ (es : List Element). map (λ (element : Element). element.kind) es) same ∙ kinds_of_elements elements in
    let there : slice_get (element_kinds s) index ≡ Some x.kind =
    ap (λ (ks : List RefKind). slice_get ks index) kinds ∙ slice_get-map (λ (y : code_elem.Elem). y.kind) elements index
    ∙ ap (λ (o : Option code_elem.Elem). option_map (λ (y : code_elem.Elem). y.kind) o) here in
    record {
      short = all_at (λ (y : code_elem.Elem). IsShortList (elem_of y).init) elements (all_of_map (λ e. IsShortList e.init) elem_of elements m.elements e short) index x here;
      mode =
          elem_mode_ready m (table_kinds s) (element_kinds s) index x.kind x.mode tables there
          (all_at (λ (y : code_elem.Elem). IsElemBody m y) elements bodies index x here).mode;
    }

-- ---- what all element segments leave alone

pub same_state : {F : Type 0} (s now : StateOf F) → Instance s ≡ Instance now → s ≡ now
same_state s now h = cc h

pub then_keeps : {F A : Type 0} (view : StateOf F → A) (more : StateOf F → InstanceOf F) (s now : StateOf F) (made : InstanceOf F)
    → ((mid : StateOf F) → made ≡ Instance mid → view mid ≡ view s) → ((mid : StateOf F) → more mid ≡ Instance now → view now ≡ view mid)
    → instance_then more made ≡ Instance now → view now ≡ view s
then_keeps view more s now (Instance mid) first second h = second mid h ∙ first mid refl
then_keeps view more s now (ElementUnfit index) first second h = absurd (cc h)
then_keeps view more s now (DataUnfit index) first second h = absurd (cc h)
then_keeps view more s now NoInstance first second h = absurd (cc h)

elements_run_keep : {F A : Type 0} (view : StateOf F → A) → ((change : Change) (s : StateOf F) → view (applied change s) ≡ view s)
    → (index : ℕ) (elements : List code_elem.Elem) (s now : StateOf F) → plain_elements_run index elements s ≡ Instance now → view now ≡ view s
elements_run_keep view kept index [] s now h = ap view (sym (same_state s now h))
elements_run_keep view kept index (e ∷ elements) s now h =
    then_keeps view (λ next. plain_elements_run (index + 1) elements next) s now (plain_element_run index (length (init_of e.items)) e.mode s)
    (λ mid ran. element_run_keeps view kept index (length (init_of e.items)) e.mode s mid ran)
    (λ mid ran. elements_run_keep view kept (index + 1) elements mid now ran) h

data_mode_ready : (m : Module) (memories datas index : ℕ) (mode : DataMode) → memories ≡ length m.memories → index < datas → IsDataModeBody m mode
    → IsDataModeReady memories datas index mode
data_mode_ready m memories datas index data_mode.Passive same less h = tt
data_mode_ready m memories datas index (data_mode.Active memory offset) same less h = (h.0.plain, omega (arith, same, h.1), less)

pub datas_are_ready : (m : Module) (elements : List code_elem.Elem) (segments : List code_data.DataSegment) (s now : StoreState) → map data_of segments ≡ m.datas
    → All (λ d. IsDataModeBody m d.mode) segments → All (λ d. IsShortList d.bytes) m.datas → WasAllocated m (stored_functions m) s
    → plain_elements_run 0 elements s ≡ Instance now → AreDatasReady now segments
datas_are_ready m elements segments s now e bodies short was ran =
    λ index x here.
    let memories : length now.memories ≡ length m.memories =
    elements_run_keep (λ (t : StoreState). length t.memories) (λ change t. memories_kept change t) 0 elements s now ran
    ∙ ap (λ (t : StoreState). length t.memories) was.is ∙ length-map m.memories new_memory in
    let datas : length now.datas ≡ length segments =
    elements_run_keep (λ (t : StoreState). length t.datas) (λ change t. datas_kept change t) 0 elements s now ran
    ∙ ap (λ (t : StoreState). length t.datas) was.is ∙ length-map m.datas (λ (d : DataSegment). d.bytes) ∙ ap (λ (ds : List DataSegment). length ds) (sym e)
    ∙ length-map segments data_of in
    let less : index < length now.datas = omega (arith, datas, slice_get_within segments index x here) in
    record {
      short = all_at (λ (d : code_data.DataSegment). IsShortList (data_of d).bytes) segments (all_of_map (λ d. IsShortList d.bytes) data_of segments m.datas e short) index x here;
      mode =
          data_mode_ready m (length now.memories) (length now.datas) index x.mode memories less
          (all_at (λ (d : code_data.DataSegment). IsDataModeBody m d.mode) segments bodies index x here);
    }

-- ---- the fresh instance by what the code does

-- the segments are run through as the code does, and then the functions have their instructions
pub comes_to : (m : Module) (elements : List code_elem.Elem) (segments : List code_data.DataSegment) (s : StoreState) → map elem_of elements ≡ m.elements
    → map data_of segments ≡ m.datas → All (λ e. IsElemBody m e) elements → All (λ d. IsDataModeBody m d.mode) segments → WasAllocated m (stored_functions m) s
    → fresh m ≡ functions_by (λ function. function_in m.bodies function) (instance_then (λ now. plain_datas_run 0 segments now) (plain_elements_run 0 elements s))
comes_to m elements segments s e e' bodies modes was =
    let f = λ (function : StoredFunction). function_in m.bodies function in
    fresh_is m was.globals was.elements was.first was.second ∙ ap (λ (t : StoreState). functions_by f (segments_run m t)) (sym was.is)
    ∙ ap (λ (es : List Elem). functions_by f (instance_then (λ now. datas_run m 0 m.datas now) (elements_run m 0 es s))) (sym e)
    ∙ ap (λ (ds : List DataSegment). functions_by f (instance_then (λ now. datas_run m 0 ds now) (elements_run m 0 (map elem_of elements) s))) (sym e')
    ∙ ap (λ made. functions_by f (instance_then (λ now. datas_run m 0 (map data_of segments) now) made)) (same_elements_run m 0 elements s bodies)
    ∙ ap (λ made. functions_by f made)
    (then_same (λ now. datas_run m 0 (map data_of segments) now) (λ now. plain_datas_run 0 segments now) (λ now. same_datas_run m 0 segments now modes)
    (plain_elements_run 0 elements s))

pub made_fresh : (m : Module) (segments : List code_data.DataSegment) (made : InstanceOf StoredFunction) (mid now : StoreState)
    → fresh m ≡ functions_by (λ function. function_in m.bodies function) (instance_then (λ now. plain_datas_run 0 segments now) made) → made ≡ Instance mid
    → plain_datas_run 0 segments mid ≡ Instance now → fresh m ≡ Instance (state_in m now)
unfolding functions_by
made_fresh m segments made mid now total first second =
    let f = λ (function : StoredFunction). function_in m.bodies function in
    total ∙ ap (λ x. functions_by f (instance_then (λ now. plain_datas_run 0 segments now) x)) first ∙ ap (λ x. functions_by f x) second

pub unfit_element : (m : Module) (more : StoreState → InstanceOf StoredFunction) (made : InstanceOf StoredFunction) (fault : StartFault)
    → fresh m ≡ functions_by (λ function. function_in m.bodies function) (instance_then more made) → IsUnfit made fault → IsUnfit (fresh m) fault
unfolding functions_by
unfit_element m more made (ElementOutOfBounds index) total h =
    total ∙ ap (λ x. functions_by (λ function. function_in m.bodies function) (instance_then more x)) h
unfit_element m more made (DataOutOfBounds index) total h =
    total ∙ ap (λ x. functions_by (λ function. function_in m.bodies function) (instance_then more x)) h
unfit_element m more made NoMemory total h = tt

pub unfit_data : (m : Module) (more : StoreState → InstanceOf StoredFunction) (made : InstanceOf StoredFunction) (mid : StoreState) (fault : StartFault)
    → fresh m ≡ functions_by (λ function. function_in m.bodies function) (instance_then more made) → made ≡ Instance mid → IsUnfit (more mid) fault
    → IsUnfit (fresh m) fault
unfolding functions_by
unfit_data m more made mid (ElementOutOfBounds index) total first h =
    let f = λ (function : StoredFunction). function_in m.bodies function in
    total ∙ ap (λ x. functions_by f (instance_then more x)) first ∙ ap (λ x. functions_by f x) h
unfit_data m more made mid (DataOutOfBounds index) total first h =
    let f = λ (function : StoredFunction). function_in m.bodies function in
    total ∙ ap (λ x. functions_by f (instance_then more x)) first ∙ ap (λ x. functions_by f x) h
unfit_data m more made mid NoMemory total first h = tt

-- ---- answers

pub ok_along : {T E : Type 0} (r : Result T E) (P Q : Type 0) → (P → Q) → OnOk r P → OnOk r Q
ok_along (Ok value) P Q f h = f h
ok_along (Err fault) P Q f h = h

pub err_along : {T E : Type 0} (r : Result T E) (P Q : E → Type 0) → ((e : E) → P e → Q e) → IfErr r P → IfErr r Q
err_along (Ok value) P Q f h = h
err_along (Err fault) P Q f h = f fault h
