-- What the code goes by is what instantiation is of a valid module in the tool's profile.
use Rattle.std.proofs.Common.{◌≡◌, ℕ, ◌+◌, ◌<◌, List, [], ◌∷◌, ◌++◌, Option, Some, None, IsSome, IsSomeAnd, length, map, get_or, slice_get, unwrap_or, option_map, option_and_then, refl, sym, ap, subst, ◌∙◌}
use Rattle.std.specs.List.{All}
use Rattle.std.proofs.lemmas.Option.{slice_get-map}
use Rattle.std.proofs.lemmas.List.Elements.{All-head, All-tail}
use Rattle.std.proofs.Math.ListN.{length-map, get_or-map}
use Rattle.wz_types.specs.declared.types.ValType.{ValType}
use Rattle.wz_types.specs.declared.types.ValType.TheVariants.{I32}
use Rattle.wz_types.specs.declared.types.RefKind.{RefKind}
use Rattle.wz_types.specs.declared.types.RefKind.TheVariants as kind
use Rattle.wz_types.specs.declared.types.TableType.{TableType}
use Rattle.wz_types.specs.declared.types.GlobalType.{GlobalType}
use Rattle.wz_types.specs.declared.value.Reference.{Reference}
use Rattle.wz_types.specs.declared.value.Reference.TheVariants.{Null, Fn}
use Rattle.wz_types.specs.declared.value.Value.{Value}
use Rattle.wz_types.specs.declared.value.Value.TheVariants as value
use Rattle.wz_types.specs.Fits.{type_of, kind_of, type_of_kind}
use Rattle.wz_types.specs.declared.types.MemType.{MemType}
use Rattle.wz_types.proofs.FitsLemmas.{fits-parts}
use Rattle.wz_code.specs.BodyParts.{BodyParts}
use Rattle.wz_code.specs.Trees.{tree_of}
use Rattle.wz_valid_code.specs.Context.{TypingContext}
use Rattle.wz_valid_code.specs.Typing.{IsConstant}
use Rattle.wz_module.specs.declared.items.ImportKind.{ImportKind}
use Rattle.wz_module.specs.declared.items.ImportKind.TheVariants as import
use Rattle.wz_module.specs.declared.items.GlobalDef as code_global
use Rattle.wz_module.specs.declared.items.ElemMode.{ElemMode}
use Rattle.wz_module.specs.declared.items.ElemMode.TheVariants as elem_mode
use Rattle.wz_module.specs.declared.items.ElemItems.{ElemItems}
use Rattle.wz_module.specs.declared.items.ElemItems.TheVariants.{Funcs, Exprs}
use Rattle.wz_module.specs.declared.items.Elem as code_elem
use Rattle.wz_module.specs.declared.items.DataMode.{DataMode}
use Rattle.wz_module.specs.declared.items.DataMode.TheVariants as data_mode
use Rattle.wz_module.specs.declared.items.DataSegment as code_data
use Rattle.wz_module.specs.Imports.{Import}
use Rattle.wz_module.specs.Globals.{GlobalDef}
use Rattle.wz_module.specs.Elements.{Elem, function_reference}
use Rattle.wz_module.specs.Datas.{DataSegment}
use Rattle.wz_module.specs.Module.{Module}
use Rattle.wz_module.specs.Views.{global_of, elem_of, elem_mode_of, data_of, data_mode_of, init_of}
use Rattle.wz_valid.specs.Indices.{imported_tables, imported_memories, table_import, memory_import, all_functions, all_tables, all_memories}
use Rattle.wz_valid.specs.Contexts.{context_of, globals_context_of}
use Rattle.wz_valid.specs.Items.{IsGlobalOk, IsElemOk, IsElemModeOk, IsDataModeOk}
use Rattle.wz_valid.specs.Profile.{IsFunctionImport, IsFunctionKind, IsInProfile}
use Rattle.wz_store.specs.State.{StateOf}
use Rattle.wz_store.specs.Made.{new_global, new_element}
use Rattle.wz_init.specs.Constants.{constant_number, constant_reference, number_in, reference_in}
use Rattle.wz_init.specs.Allocation.{each_of, first_global, first_globals, first_element, first_elements}
use Rattle.wz_init.specs.Instances.{InstanceOf, Instance, ElementUnfit, DataUnfit, NoInstance, instance_then}
use Rattle.wz_init.specs.Instantiation.{element_copied, element_run, elements_run, data_copied, data_run, datas_run}
use Rattle.wz_init.specs.Plain.{plain_value, plain_number, plain_reference, IsPlainConstant, IsPlainNumber, IsPlainReference, plain_global, plain_items, ArePlainItems, plain_element, plain_element_run, plain_elements_run, plain_data_run, plain_datas_run}
use Rattle.wz_init.proofs.ConstantLemmas.{ReadsNone, no_global_imports, plain_body, may_refer_there, reference_value, referred}

-- ---- lists

-- what holds of the items that a map gives
pub all_unmapped : {X Y : Type 0} (P : Y → Type 0) (f : X → Y) (xs : List X) → All P (map f xs) → All (λ x. P (f x)) xs
all_unmapped P f xs h k d less =
    subst P (get_or-map f xs k d) (h k (f d) (subst (λ (n : ℕ). k < n) (sym (length-map xs f)) less))

all_along : {Y : Type 0} (P : Y → Type 0) (ys zs : List Y) → ys ≡ zs → All P zs → All P ys
all_along {Y = Y} P ys zs e h = subst (λ (l : List Y). All P l) (sym e) h

pub all_of_map : {X Y : Type 0} (P : Y → Type 0) (f : X → Y) (xs : List X) (ys : List Y) → map f xs ≡ ys → All P ys → All (λ x. P (f x)) xs
all_of_map P f xs ys e h = all_unmapped P f xs (all_along P (map f xs) ys e h)

-- each item gives what a function of the code's item is
pub each_same : {X Y Z : Type 0} (f : Y → Option Z) (view : X → Y) (g : X → Z) (xs : List X) → All (λ x. f (view x) ≡ Some (g x)) xs
    → each_of f (map view xs) ≡ Some (map g xs)
each_same f view g [] h = refl
each_same {Z = Z} f view g (x ∷ xs) h =
    ap (λ (o : Option Z). option_and_then (λ y. option_map (λ ys. y ∷ ys) (each_of f (map view xs))) o) (All-head (λ x. f (view x) ≡ Some (g x)) x xs h)
    ∙ ap (λ (o : Option (List Z)). option_map (λ ys. g x ∷ ys) o) (each_same f view g xs (All-tail (λ x. f (view x) ≡ Some (g x)) x xs h))

-- ---- the contexts of expressions

pub reads_none : (m : Module) → IsInProfile m → ReadsNone m (context_of m)
reads_none m profile = record { functions = refl; globals = ap (λ (gs : List GlobalType). length gs) (no_global_imports m.imports profile.imports) }

pub globals_read_none : (m : Module) → IsInProfile m → ReadsNone m (globals_context_of m)
globals_read_none m profile = record { functions = refl; globals = ap (λ (gs : List GlobalType). length gs) (no_global_imports m.imports profile.imports) }

-- ---- by what is asked of the value

some_is : {X : Type 0} (o : Option X) (x : X) → o ≡ Some x → IsSome o
some_is None x e = absurd (cc e)
some_is (Some y) x e = refl

no_kind_is_number : (k : RefKind) → type_of_kind k ≡ I32 → ⊥
no_kind_is_number kind.Func h = cc h
no_kind_is_number kind.Extern h = cc h

number_of_type : (content : Value) → type_of content ≡ I32 → (n : ℕ) × (number_in (Some content) ≡ Some n)
number_of_type (value.I32 bits) h = (bits, refl)
number_of_type (value.I64 bits) h = absurd (cc h)
number_of_type (value.F32 bits) h = absurd (cc h)
number_of_type (value.F64 bits) h = absurd (cc h)
number_of_type (value.Ref reference) h = absurd (no_kind_is_number (kind_of reference) h)

reference_of_type : (content : Value) (asked : RefKind) → type_of content ≡ type_of_kind asked → (reference : Reference) × (reference_in (Some content) ≡ Some reference)
reference_of_type (value.I32 bits) kind.Func h = absurd (cc h)
reference_of_type (value.I32 bits) kind.Extern h = absurd (cc h)
reference_of_type (value.I64 bits) kind.Func h = absurd (cc h)
reference_of_type (value.I64 bits) kind.Extern h = absurd (cc h)
reference_of_type (value.F32 bits) kind.Func h = absurd (cc h)
reference_of_type (value.F32 bits) kind.Extern h = absurd (cc h)
reference_of_type (value.F64 bits) kind.Func h = absurd (cc h)
reference_of_type (value.F64 bits) kind.Extern h = absurd (cc h)
reference_of_type (value.Ref reference) asked h = (reference, refl)

-- a body whose expression is a number, or a reference
pub record IsNumberBody (m : Module) (body : BodyParts) : Type 0 where
  pub plain : IsPlainNumber body
  pub same : constant_number m (tree_of body 0) ≡ Some (plain_number body)

pub record IsReferenceBody (m : Module) (body : BodyParts) : Type 0 where
  pub plain : IsPlainReference body
  pub same : constant_reference m (tree_of body 0) ≡ Some (plain_reference body)

pub number_body : (m : Module) (context : TypingContext) (body : BodyParts) → ReadsNone m context → IsConstant context (tree_of body 0) I32 → IsNumberBody m body
number_body m context body reads h =
    let has = plain_body m context body I32 reads h in
    let number = number_of_type has.content (fits-parts has.content I32 (length (all_functions m)) (length m.types) has.fitting).has_type in
    let read : number_in (plain_value body) ≡ Some number.0 = ap number_in has.plain ∙ number.1 in
    record {
      plain = some_is (number_in (plain_value body)) number.0 read;
      same = ap number_in has.evaluated ∙ number.1 ∙ ap (λ (o : Option ℕ). Some (unwrap_or o 0)) (sym read);
    }

pub reference_body : (m : Module) (context : TypingContext) (body : BodyParts) (asked : RefKind) → ReadsNone m context → IsConstant context (tree_of body 0) (type_of_kind asked)
    → IsReferenceBody m body
reference_body m context body asked reads h =
    let has = plain_body m context body (type_of_kind asked) reads h in
    let found = reference_of_type has.content asked (fits-parts has.content (type_of_kind asked) (length (all_functions m)) (length m.types) has.fitting).has_type in
    let read : reference_in (plain_value body) ≡ Some found.0 = ap reference_in has.plain ∙ found.1 in
    record {
      plain = some_is (reference_in (plain_value body)) found.0 read;
      same = ap reference_in has.evaluated ∙ found.1 ∙ ap (λ (o : Option Reference). Some (unwrap_or o (Null kind.Func))) (sym read);
    }

-- ---- globals

pub record IsGlobalBody (m : Module) (g : code_global.GlobalDef) : Type 0 where
  pub plain : IsPlainConstant g.init
  pub same : first_global m (global_of g) ≡ Some (plain_global g)

global_body : (m : Module) (g : code_global.GlobalDef) → IsInProfile m → IsGlobalOk m (global_of g) → IsGlobalBody m g
global_body m g profile h =
    let has = plain_body m (globals_context_of m) g.init g.kind.value (globals_read_none m profile) h in
    record {
      plain = some_is (plain_value g.init) has.content has.plain;
      same =
          ap (λ (o : Option Value). option_map (λ value. new_global g.kind value) o) has.evaluated
          ∙ ap (λ (o : Option Value). Some (new_global g.kind (unwrap_or o (value.I32 0)))) (sym has.plain);
    }

pub global_bodies : (m : Module) (globals : List code_global.GlobalDef) → map global_of globals ≡ m.globals → IsInProfile m → All (λ g. IsGlobalOk m g) m.globals
    → All (λ g. IsGlobalBody m g) globals
global_bodies m globals e profile h k d less =
    global_body m (get_or globals k d) profile (all_of_map (λ g. IsGlobalOk m g) global_of globals m.globals e h k d less)

pub same_globals : (m : Module) (globals : List code_global.GlobalDef) → map global_of globals ≡ m.globals → All (λ g. IsGlobalBody m g) globals
    → first_globals m ≡ Some (map plain_global globals)
same_globals m globals e h =
    ap (λ (gs : List GlobalDef). each_of (λ g. first_global m g) gs) (sym e)
    ∙ each_same (λ g. first_global m g) global_of plain_global globals (λ k d less. (h k d less).same)

-- ---- element segments

-- what ref.func of an element segment names
function_there : (m : Module) (function : ℕ) (type : ValType) → IsInProfile m → IsConstant (context_of m) (function_reference function) type
    → function < length (all_functions m)
function_there m function type profile h = may_refer_there m (context_of m) function (reads_none m profile) (referred (context_of m) function [] h.0 h.1)

function_references : (m : Module) (functions : List ℕ) (type : ValType) → IsInProfile m
    → All (λ init. IsConstant (context_of m) init type) (map function_reference functions)
    → each_of (λ init. constant_reference m init) (map function_reference functions) ≡ Some (map Fn functions)
function_references m functions type profile h =
    each_same (λ init. constant_reference m init) function_reference Fn functions
    (λ k d less.
    ap reference_in
    (reference_value m (get_or functions k d)
    (function_there m (get_or functions k d) type profile (all_unmapped (λ init. IsConstant (context_of m) init type) function_reference functions h k d less))))

pub record AreItemBodies (m : Module) (items : ElemItems) : Type 0 where
  pub plain : ArePlainItems items
  pub same : each_of (λ init. constant_reference m init) (init_of items) ≡ Some (plain_items items)

item_bodies : (m : Module) (items : ElemItems) (asked : RefKind) → IsInProfile m → All (λ init. IsConstant (context_of m) init (type_of_kind asked)) (init_of items)
    → AreItemBodies m items
item_bodies m (Funcs functions) asked profile h = record { plain = tt; same = function_references m functions.items (type_of_kind asked) profile h }
item_bodies m (Exprs bodies) asked profile h =
    let each = λ (k : ℕ) (d : BodyParts) (less : k < length bodies.items).
    reference_body m (context_of m) (get_or bodies.items k d) asked (reads_none m profile)
    (all_unmapped (λ init. IsConstant (context_of m) init (type_of_kind asked)) (λ (body : BodyParts). tree_of body 0) bodies.items h k d less) in
    record {
      plain = λ k d less. (each k d less).plain;
      same = each_same (λ init. constant_reference m init) (λ (body : BodyParts). tree_of body 0) plain_reference bodies.items (λ k d less. (each k d less).same);
    }

-- an active segment's offset is a number, and its table is there and is of its kind
abbrev pub IsElemModeBody : Module → RefKind → ElemMode → Type 0
IsElemModeBody m asked elem_mode.Passive = Unit {0}
IsElemModeBody m asked (elem_mode.Active table offset) = IsNumberBody m offset × (slice_get (map (λ (t : TableType). t.kind) m.tables) table ≡ Some asked)
IsElemModeBody m asked elem_mode.Declarative = Unit {0}

no_tables_imported : (imports : List Import) → All (λ i. IsFunctionImport i) imports → imported_tables imports ≡ []
no_tables_imported [] h = refl
no_tables_imported (i ∷ imports) h =
    ap (λ (ts : List TableType). ts ++ imported_tables imports) (none i.kind (All-head (λ (i : Import). IsFunctionImport i) i imports h))
    ∙ no_tables_imported imports (All-tail (λ (i : Import). IsFunctionImport i) i imports h)
  where
    none : (kind : ImportKind) → IsFunctionKind kind → table_import kind ≡ []
    none (import.Func type) h = refl
    none (import.Table type) h = absurd h
    none (import.Memory type) h = absurd h
    none (import.Global type) h = absurd h

pub own_tables : (m : Module) → IsInProfile m → all_tables m ≡ m.tables
own_tables m profile = ap (λ (ts : List TableType). ts ++ m.tables) (no_tables_imported m.imports profile.imports)

kind_there : (tables : List TableType) (index : ℕ) (asked : RefKind) → IsSomeAnd (slice_get tables index) (λ type. type.kind ≡ asked)
    → slice_get (map (λ (t : TableType). t.kind) tables) index ≡ Some asked
kind_there tables index asked h = slice_get-map (λ (t : TableType). t.kind) tables index ∙ inside (slice_get tables index) h
  where
    inside : (o : Option TableType) → IsSomeAnd o (λ type. type.kind ≡ asked) → option_map (λ (t : TableType). t.kind) o ≡ Some asked
    inside None h = absurd h
    inside (Some type) h = ap Some h

elem_mode_body : (m : Module) (e : Elem) (mode : ElemMode) → IsInProfile m → IsElemModeOk m e (elem_mode_of mode) → IsElemModeBody m e.kind mode
elem_mode_body m e elem_mode.Passive profile h = tt
elem_mode_body m e (elem_mode.Active table offset) profile h = (
  number_body m (context_of m) offset (reads_none m profile) h.1,
  kind_there m.tables table e.kind
      (subst (λ (ts : List TableType). IsSomeAnd (slice_get ts table) (λ type. type.kind ≡ e.kind)) (own_tables m profile) h.0),
)
elem_mode_body m e elem_mode.Declarative profile h = tt

pub record IsElemBody (m : Module) (e : code_elem.Elem) : Type 0 where
  pub items : AreItemBodies m e.items
  pub mode : IsElemModeBody m e.kind e.mode

pub elem_bodies : (m : Module) (elements : List code_elem.Elem) → map elem_of elements ≡ m.elements → IsInProfile m → All (λ e. IsElemOk m e) m.elements
    → All (λ e. IsElemBody m e) elements
elem_bodies m elements e profile h k d less =
    let x = get_or elements k d in
    let fine = all_of_map (λ e. IsElemOk m e) elem_of elements m.elements e h k d less in
    record { items = item_bodies m x.items x.kind profile fine.0; mode = elem_mode_body m (elem_of x) x.mode profile fine.1 }

pub same_elements : (m : Module) (elements : List code_elem.Elem) → map elem_of elements ≡ m.elements → All (λ e. IsElemBody m e) elements
    → first_elements m ≡ Some (map plain_element elements)
same_elements m elements e h =
    ap (λ (es : List Elem). each_of (λ e. first_element m e) es) (sym e)
    ∙ each_same (λ e. first_element m e) elem_of plain_element elements
    (λ k d less. ap (λ (o : Option (List Reference)). option_map (λ items. new_element (get_or elements k d).kind items) o) (h k d less).items.same)

-- ---- active segments

pub then_same : {F : Type 0} (f g : StateOf F → InstanceOf F) → ((s : StateOf F) → f s ≡ g s) → (made : InstanceOf F) → instance_then f made ≡ instance_then g made
then_same f g same (Instance s) = same s
then_same f g same (ElementUnfit index) = refl
then_same f g same (DataUnfit index) = refl
then_same f g same NoInstance = refl

elem_run_same : {F : Type 0} (m : Module) (asked : RefKind) (index count : ℕ) (mode : ElemMode) (s : StateOf F) → IsElemModeBody m asked mode
    → element_run m index count (elem_mode_of mode) s ≡ plain_element_run index count mode s
elem_run_same m asked index count elem_mode.Passive s h = refl
elem_run_same m asked index count (elem_mode.Active table offset) s h = ap (λ (o : Option ℕ). element_copied index table count o s) h.0.same
elem_run_same m asked index count elem_mode.Declarative s h = refl

pub same_elements_run : {F : Type 0} (m : Module) (index : ℕ) (elements : List code_elem.Elem) (s : StateOf F) → All (λ e. IsElemBody m e) elements
    → elements_run m index (map elem_of elements) s ≡ plain_elements_run index elements s
same_elements_run m index [] s h = refl
same_elements_run m index (e ∷ elements) s h =
    ap (λ made. instance_then (λ now. elements_run m (index + 1) (map elem_of elements) now) made)
    (elem_run_same m e.kind index (length (init_of e.items)) e.mode s (All-head (λ e. IsElemBody m e) e elements h).mode)
    ∙ then_same (λ now. elements_run m (index + 1) (map elem_of elements) now) (λ now. plain_elements_run (index + 1) elements now)
    (λ now. same_elements_run m (index + 1) elements now (All-tail (λ e. IsElemBody m e) e elements h)) (plain_element_run index (length (init_of e.items)) e.mode s)

abbrev pub IsDataModeBody : Module → DataMode → Type 0
IsDataModeBody m data_mode.Passive = Unit {0}
IsDataModeBody m (data_mode.Active memory offset) = IsNumberBody m offset × (memory < length m.memories)

no_memories_imported : (imports : List Import) → All (λ i. IsFunctionImport i) imports → imported_memories imports ≡ []
no_memories_imported [] h = refl
no_memories_imported (i ∷ imports) h =
    ap (λ (ms : List MemType). ms ++ imported_memories imports) (none i.kind (All-head (λ (i : Import). IsFunctionImport i) i imports h))
    ∙ no_memories_imported imports (All-tail (λ (i : Import). IsFunctionImport i) i imports h)
  where
    none : (kind : ImportKind) → IsFunctionKind kind → memory_import kind ≡ []
    none (import.Func type) h = refl
    none (import.Table type) h = absurd h
    none (import.Memory type) h = absurd h
    none (import.Global type) h = absurd h

pub own_memories : (m : Module) → IsInProfile m → all_memories m ≡ m.memories
own_memories m profile = ap (λ (ms : List MemType). ms ++ m.memories) (no_memories_imported m.imports profile.imports)

data_mode_body : (m : Module) (mode : DataMode) → IsInProfile m → IsDataModeOk m (data_mode_of mode) → IsDataModeBody m mode
data_mode_body m data_mode.Passive profile h = tt
data_mode_body m (data_mode.Active memory offset) profile h =
    (number_body m (context_of m) offset (reads_none m profile) h.1, subst (λ (ms : List MemType). memory < length ms) (own_memories m profile) h.0)

pub data_bodies : (m : Module) (segments : List code_data.DataSegment) → map data_of segments ≡ m.datas → IsInProfile m → All (λ d. IsDataModeOk m d.mode) m.datas
    → All (λ d. IsDataModeBody m d.mode) segments
data_bodies m segments e profile h k d less =
    data_mode_body m (get_or segments k d).mode profile (all_of_map (λ (d : DataSegment). IsDataModeOk m d.mode) data_of segments m.datas e h k d less)

data_run_same : {F : Type 0} (m : Module) (index count : ℕ) (mode : DataMode) (s : StateOf F) → IsDataModeBody m mode
    → data_run m index count (data_mode_of mode) s ≡ plain_data_run index count mode s
data_run_same m index count data_mode.Passive s h = refl
data_run_same m index count (data_mode.Active memory offset) s h = ap (λ (o : Option ℕ). data_copied index memory count o s) h.0.same

pub same_datas_run : {F : Type 0} (m : Module) (index : ℕ) (segments : List code_data.DataSegment) (s : StateOf F) → All (λ d. IsDataModeBody m d.mode) segments
    → datas_run m index (map data_of segments) s ≡ plain_datas_run index segments s
same_datas_run m index [] s h = refl
same_datas_run m index (d ∷ segments) s h =
    ap (λ made. instance_then (λ now. datas_run m (index + 1) (map data_of segments) now) made)
    (data_run_same m index (length d.bytes.now) d.mode s (All-head (λ (d : code_data.DataSegment). IsDataModeBody m d.mode) d segments h))
    ∙ then_same (λ now. datas_run m (index + 1) (map data_of segments) now) (λ now. plain_datas_run (index + 1) segments now)
    (λ now. same_datas_run m (index + 1) segments now (All-tail (λ (d : code_data.DataSegment). IsDataModeBody m d.mode) d segments h))
    (plain_data_run index (length d.bytes.now) d.mode s)
