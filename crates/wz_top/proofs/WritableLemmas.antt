-- The output of a state that a run reached can be written: its numbers have their widths, and each of its sections is short.
use Rattle.std.proofs.Common.{◌≡◌, ℕ, ◌+◌, ◌-◌, ◌^◌, ◌<◌, ◌≤◌, List, [], ◌∷◌, length, Bool, Option, Some, None, refl, sym, ap, subst, ◌∙◌, inl, inr, arith}
use Rattle.std.specs.Prelude.{IfSome, IsTrue, slice_get, nat_lt, filter}
use Rattle.std.specs.List.{All, AllZip, concat, flat_map, sum_by, zip}
use Rattle.std.proofs.lemmas.Bool.{cases_Bool, ltb-true}
use Rattle.std.proofs.lemmas.List.{length-append, length-map}
use Rattle.std.proofs.lemmas.List.Elements.{All-nil, All-cons, All-head, All-tail, All-append}
use Rattle.std.proofs.lemmas.List.Sums.{length-filter, count_by-le-length}
use Rattle.std.proofs.lemmas.Option.{get_or_from_slice_get}
use Rattle.wz_io.specs.Reading.{input_limit}
use Rattle.wz_types.specs.declared.types.ValType.{ValType}
use Rattle.wz_types.specs.declared.types.MemType.{MemType}
use Rattle.wz_types.specs.declared.types.ValType.TheVariants as valtype
use Rattle.wz_types.specs.declared.value.Reference.TheVariants.{Null, Fn, Foreign}
use Rattle.wz_types.specs.declared.value.Value.{Value}
use Rattle.wz_types.specs.declared.value.Value.TheVariants.{I32, I64, F32, F64, Ref}
use Rattle.wz_types.specs.FunctionType.{FunctionType}
use Rattle.wz_types.specs.SameType.{same_type}
use Rattle.wz_types.specs.Fits.{Fits}
use Rattle.wz_code.proofs.NumberLemmas.{all-from-has}
use Rattle.wz_module.specs.declared.items.ImportKind.{ImportKind}
use Rattle.wz_module.specs.declared.items.ImportKind.TheVariants as kind
use Rattle.wz_module.specs.Imports.{Import}
use Rattle.wz_module.specs.Globals.{GlobalDef}
use Rattle.wz_module.specs.Sections.{Section}
use Rattle.wz_module.specs.Module.{Module}
use Rattle.wz_decode_sections.specs.ElementSection.{IsElementSection}
use Rattle.wz_encode.specs.Limits.{memories_text}
use Rattle.wz_encode.specs.Globals.{globals_text}
use Rattle.wz_encode.specs.Exports.{exports_text}
use Rattle.wz_encode.specs.Elements.{elements_text}
use Rattle.wz_encode.specs.Laws.{CanBeMemory, CanBeConstant}
use Rattle.wz_valid.specs.declared.faults.Part.TheVariants as part
use Rattle.wz_valid.specs.Indices.{function_import, imported_functions, all_functions}
use Rattle.wz_valid.specs.Limits.{IsMaximumOk, IsMemoryOk}
use Rattle.wz_valid.specs.Items.{IsOnlyMemory}
use Rattle.wz_valid.specs.Validity.{IsValid}
use Rattle.wz_machine.specs.State.{State, FunctionInstance, LastingParts}
use Rattle.wz_snapshot.specs.Recorded.{recorded}
use Rattle.wz_exports.specs.Kept.{KeptExports}
use Rattle.wz_exports.specs.Undeclared.{body_refs, rising, undeclared_functions}
use Rattle.wz_exports.proofs.RisingLemmas.{AtLeast, rises, has-rising}
use Rattle.wz_init.specs.Functions.{functions_in}
use Rattle.wz_init.specs.Reached.{IsOwn, IsReachedOf}
use Rattle.wz_init.proofs.ConstantLemmas.{as_many_functions}
use Rattle.wz_rewrite.specs.OutputState.{OutputState}
use Rattle.wz_rewrite.specs.Dropped.{dropped_elements}
use Rattle.wz_rewrite.specs.Segments.{segments_of}
use Rattle.wz_rewrite.specs.Slots.{output_slots, filled_slots}
use Rattle.wz_rewrite.specs.Parts.{output_memories, global_types}
use Rattle.wz_rewrite.specs.Sections.{output_payload, renewed_elements, datas_text, brings_elements, new_elements, brings_datas, new_datas, section_with, sections_for, output_sections}
use Rattle.wz_rewrite.specs.Laws.{SpellsElements}
use Rattle.wz_rewrite.specs.ValidOutput.{IsNotForeign, FitsGlobal, AreOfTypes}
use Rattle.wz_rewrite.proofs.IdLemmas.{by_id}
use Rattle.wz_rewrite.proofs.BodyLemmas.{named-there}
use Rattle.wz_rewrite.proofs.SegmentLemmas.{payload_split}
use Rattle.wz_top.proofs.OutsideLaws.{value_in}
use Rattle.wz_top.proofs.RunnableLemmas.{both_second}
use Rattle.wz_top.proofs.FreshPartsLemmas.{within_some}
use Rattle.wz_top.proofs.InputSizes.{IsAtMost, IsSmall}
use Rattle.wz_top.proofs.KeptSizes.{export_size}
use Rattle.wz_top.proofs.TextSizes.{slot_size, memories_short, globals_short, exports_short, renewed_short, declared_short, datas_short}
use Rattle.wz_top.proofs.ChosenSizes.{most_bytes}
use Rattle.wz_top.proofs.SampleSize.{number_short}

-- ---- what a reached state has of its module

own_value : (value : Value) → IsOwn value → IsNotForeign value
own_value (I32 bits) h = tt
own_value (I64 bits) h = tt
own_value (F32 bits) h = tt
own_value (F64 bits) h = tt
own_value (Ref (Null kind)) h = tt
own_value (Ref (Fn index)) h = tt
own_value (Ref (Foreign id sort)) h = absurd h

pub of_types : (m : Module) (s : State) → IsReachedOf m s → AreOfTypes m s.globals s.memories
of_types m s is =
    let types : s.types ≡ m.types = ap (λ (p : LastingParts). p.types) is.module_parts in
    let functions : s.functions ≡ functions_in m = ap (λ (p : LastingParts). p.functions) is.module_parts in
    let count : length s.functions ≡ length (all_functions m) = ap (λ (fs : List FunctionInstance). length fs) functions ∙ as_many_functions m in
    record {
      kinds = ap (λ (p : LastingParts). p.globals) is.module_parts;
      fitting = λ i g here.
          subst (λ (n : ℕ). Fits g.content g.type.value n (length m.types)) count
          (subst (λ (ts : List FunctionType). Fits g.content g.type.value (length s.functions) (length ts)) types (is.left.fitting i g here));
      own = λ i g here. own_value g.content (is.left.own.globals i g here);
      maxima = ap (λ (p : LastingParts). p.memory_maxima) is.module_parts;
      sizes = is.left.sizes;
      together = is.left.pages;
    }

-- ---- functions

import_count : (k : ImportKind) → length (function_import k) ≤ 1
import_count (kind.Func type) = omega arith
import_count (kind.Table type) = omega arith
import_count (kind.Memory type) = omega arith
import_count (kind.Global type) = omega arith

imported_count : (imports : List Import) → length (imported_functions imports) ≤ length imports
imported_count [] = omega arith
imported_count (i ∷ imports) =
    let one = import_count i.kind in
    let more = imported_count imports in
    let split = length-append (function_import i.kind) (imported_functions imports) in
    omega (arith, one, more, split)

pub functions_count : (m : Module) (n : ℕ) → IsSmall n m → length (all_functions m) ≤ n + n
functions_count m n small =
    let imports = imported_count m.imports in
    let split = length-append (imported_functions m.imports) m.functions in
    let first = small.imports in
    let own = small.functions in
    omega (arith, imports, split, first, own)

-- numbers that rise, below another
rising_count : (low high : ℕ) (numbers : List ℕ) → AtLeast low numbers → All (λ n. n < high) numbers → length numbers ≤ high - low
rising_count low high [] rise below = omega arith
rising_count low high (n ∷ numbers) rise below =
    let one = All-head (λ (k : ℕ). k < high) n numbers below in
    let more = rising_count (n + 1) high numbers rise.1 (All-tail (λ (k : ℕ). k < high) n numbers below) in
    let first = rise.0 in
    omega (arith, one, more, first)

named_below : (m : Module) → IsValid m → All (λ f. f < length (all_functions m)) (rising (flat_map body_refs m.bodies))
named_below m valid =
    let named = flat_map body_refs m.bodies in
    all-from-has (λ f. f < length (all_functions m)) (rising named)
    (λ f h. within_some (all_functions m) f (slice_get (all_functions m) f) refl (named-there m valid f (subst (λ b. IsTrue b) (has-rising f named) h)))

pub undeclared_count : (m : Module) (s : State) (k : KeptExports) → IsValid m → length (undeclared_functions m (recorded s) k) ≤ length (all_functions m)
undeclared_count m s k valid =
    let named = rising (flat_map body_refs m.bodies) in
    let all = rising_count 0 (length (all_functions m)) named (rises (flat_map body_refs m.bodies)) (named_below m valid) in
    filtered _ named all where
      filtered : (test : ℕ → Bool) (numbers : List ℕ) → length numbers ≤ length (all_functions m) - 0 → length (filter test numbers) ≤ length (all_functions m)
      filtered test numbers h = let kept = length-filter test numbers in let count = count_by-le-length test numbers in omega (arith, kept, count, h)

-- ---- constants

constant_can : (value : Value) (type : ValType) (functions types : ℕ) → Fits value type functions types → IsNotForeign value → functions < 2 ^ 32 → CanBeConstant value
constant_can (I32 bits) type functions types fit own few = ltb-true bits (2 ^ 32) (both_second (same_type type valtype.I32) (nat_lt bits (2 ^ 32)) fit)
constant_can (I64 bits) type functions types fit own few = ltb-true bits (2 ^ 64) (both_second (same_type type valtype.I64) (nat_lt bits (2 ^ 64)) fit)
constant_can (F32 bits) type functions types fit own few = ltb-true bits (2 ^ 32) (both_second (same_type type valtype.F32) (nat_lt bits (2 ^ 32)) fit)
constant_can (F64 bits) type functions types fit own few = ltb-true bits (2 ^ 64) (both_second (same_type type valtype.F64) (nat_lt bits (2 ^ 64)) fit)
constant_can (Ref (Null kind)) type functions types fit own few = tt
constant_can (Ref (Fn index)) type functions types fit own few =
    let there = ltb-true index functions (both_second (same_type type valtype.FuncRef) (nat_lt index functions) fit) in omega (arith, there, few)
constant_can (Ref (Foreign id sort)) type functions types fit own few = absurd own

pub constants_can : (m : Module) (globals : List GlobalDef) (values : List Value) → AllZip (λ global value. FitsGlobal m global value) globals values
    → All IsNotForeign values → length (all_functions m) < 2 ^ 32 → All CanBeConstant values
constants_can m [] [] fit own few = All-nil CanBeConstant
constants_can m [] (value ∷ values) fit own few = absurd fit
constants_can m (global ∷ globals) [] fit own few = absurd fit
constants_can m (global ∷ globals) (value ∷ values) fit own few =
    All-cons CanBeConstant value values
    (constant_can value global.kind.value (length (all_functions m)) (length m.types) fit.0 (All-head IsNotForeign value values own) few)
    (constants_can m globals values fit.1 (All-tail IsNotForeign value values own) few)

-- ---- memories

maximum_can : (max : Option ℕ) (min : ℕ) → IsMaximumOk max min (2 ^ 16) → IfSome max (λ x. x < 2 ^ 32)
maximum_can None min ok = tt
maximum_can (Some max) min ok = let most = ok.0 in omega (arith, most)

memory_can : (type : MemType) → IsMemoryOk type → CanBeMemory type
memory_can type ok = let least = ok.0 in (omega (arith, least), maximum_can type.limits.max type.limits.min ok.1)

pub memories_can : (m : Module) → IsValid m → All CanBeMemory m.memories
memories_can m valid i d less =
    let found = value_in (λ (memory : MemType). IsMemoryOk memory × IsOnlyMemory m i) (slice_get m.memories i) (valid part.Memory i less) in
    subst CanBeMemory (sym (get_or_from_slice_get m.memories i found.0 d found.1)) (memory_can found.0 found.2.0)

-- ---- sections

abbrev pub IsShort : Section → Type 0
IsShort s = length s.payload < 2 ^ 32

-- how much there is in the parts of an output
pub record HasSizes (m : Module) (o : OutputState) : Type 0 where
  pub input : IsSmall input_limit m
  pub memories : length (output_memories m o) ≤ input_limit
  pub globals : length (zip (global_types m) o.globals) ≤ input_limit
  pub exports : length o.exports ≤ input_limit
  pub names : sum_by export_size o.exports ≤ input_limit + 1048576
  pub undeclared : length o.undeclared ≤ input_limit + input_limit
  pub slots : length (output_slots m o) ≤ input_limit + 10000
  pub bytes : sum_by slot_size (filled_slots m o) ≤ input_limit + most_bytes

one_short : (id : ℕ) (payload : List ℕ) → length payload < 2 ^ 32 → All IsShort (section_with id (Some payload))
one_short id payload h = All-cons IsShort (record { id = id; payload = payload }) [] h (All-nil IsShort)

flat_all : {X Y : Type 0} (P : X → Type 0) (Q : Y → Type 0) (f : X → List Y) → ((x : X) → P x → All Q (f x)) → (xs : List X) → All P xs → All Q (flat_map f xs)
flat_all P Q f each [] h = All-nil Q
flat_all P Q f each (x ∷ xs) h = All-append Q (f x) (flat_map f xs) (each x (All-head P x xs h)) (flat_all P Q f each xs (All-tail P x xs h))

module _ (m : Module) (o : OutputState) (sizes : HasSizes m o) where
  memories_fit : length (memories_text (output_memories m o)) < 2 ^ 32
  memories_fit = let text = memories_short (output_memories m o) in let count = sizes.memories in omega (arith, text, count)

  globals_fit : length (globals_text (global_types m) o.globals) < 2 ^ 32
  globals_fit = let text = globals_short (global_types m) o.globals in let count = sizes.globals in omega (arith, text, count)

  exports_fit : length (exports_text o.exports) < 2 ^ 32
  exports_fit = let text = exports_short o.exports in let count = sizes.exports in let names = sizes.names in omega (arith, text, count, names)

  renewed_fit : (payload : List ℕ) → length payload ≤ input_limit → IsElementSection payload m.elements → length (renewed_elements m o payload) < 2 ^ 32
  renewed_fit payload few h =
      let split = payload_split payload m.elements h in
      let whole : length payload ≡ length split.count + length (concat (segments_of payload)) =
      ap (λ (l : List ℕ). length l) split.parts ∙ length-append split.count (concat (segments_of payload)) in
      let text = renewed_short payload (segments_of payload) (dropped_elements m o) o.undeclared (omega (arith, whole)) in
      let count = sizes.undeclared in
      omega (arith, text, count, few)

  declared_fit : length (elements_text None [] [] o.undeclared) < 2 ^ 32
  declared_fit = let text = declared_short o.undeclared in let count = sizes.undeclared in omega (arith, text, count)

  same_count : length (filled_slots m o) ≡ length (output_slots m o)
  same_count = length-map (output_slots m o) _

  datas_fit : length (datas_text (filled_slots m o)) < 2 ^ 32
  datas_fit =
      let text = datas_short (filled_slots m o) in
      let same = same_count in
      let count = sizes.slots in
      let bytes = sizes.bytes in
      omega (arith, text, same, count, bytes)

  own_short : (payload : List ℕ) (id : ℕ) → length payload ≤ input_limit → (id ≡ 9 → IsElementSection payload m.elements)
      → All IsShort (section_with id (output_payload m o id payload))
  own_short payload =
      by_id (λ id. length payload ≤ input_limit → (id ≡ 9 → IsElementSection payload m.elements) → All IsShort (section_with id (output_payload m o id payload)))
      (λ few spelled. one_short 5 _ memories_fit)
      (λ few spelled. one_short 6 _ globals_fit)
      (λ few spelled. one_short 7 _ exports_fit)
      (λ few spelled. All-nil IsShort)
      (λ few spelled. one_short 9 _ (renewed_fit payload few (spelled refl)))
      (λ few spelled. one_short 11 _ datas_fit)
      (λ few spelled. one_short 12 _ (let count = number_short (length (output_slots m o)) in omega (arith, count)))
      (λ id h few spelled. rw (h.memories, h.globals, h.exports, h.start, h.elements, h.datas, h.count) (one_short id payload (omega (arith, few))))

  new_elements_short : (id : ℕ) → All IsShort (section_with 9 (new_elements m o id))
  new_elements_short id = elim (cases_Bool (brings_elements m o id)) [
    | inl b ↦ rw b (one_short 9 _ declared_fit)
    | inr b ↦ rw b (All-nil IsShort)
  ]

  new_datas_short : (id : ℕ) → All IsShort (section_with 11 (new_datas m o id))
  new_datas_short id = elim (cases_Bool (brings_datas m o id)) [
    | inl b ↦ rw b (one_short 11 _ datas_fit)
    | inr b ↦ rw b (All-nil IsShort)
  ]

  place_short : (s : Section) → IsAtMost input_limit s × (s.id ≡ 9 → IsElementSection s.payload m.elements) → All IsShort (sections_for m o s)
  place_short s h =
      All-append IsShort _ _ (new_elements_short s.id) (All-append IsShort _ _ (own_short s.payload s.id h.0 h.1) (new_datas_short s.id))

  pub sections_short : SpellsElements m → All IsShort (output_sections m o)
  sections_short spelled =
      let few = sizes.input.payloads in
      flat_all (λ (s : Section). IsAtMost input_limit s × (s.id ≡ 9 → IsElementSection s.payload m.elements)) IsShort (λ s. sections_for m o s) place_short m.sections
      (λ k d inside. (few k d inside, spelled k d inside))
