-- What is written are bytes.
use Rattle.std.proofs.Common.{◌≡◌, ℕ, ◌+◌, ◌-◌, ◌^◌, ◌<◌, List, [], ◌∷◌, ◌++◌, length, Option, Some, None, Bool, true, false, refl, sym, subst, arith, inl, inr, lit<}
use Rattle.std.specs.Prelude.{IfSome, ℤ, ◌==◌, ◌&&◌}
use Rattle.std.specs.List.{All, zip, flat_map}
use Rattle.std.specs.Int.{w32, w64, cast_signed, to_le_bytes}
use Rattle.std.proofs.lemmas.Bool.{cases_Bool}
use Rattle.std.proofs.lemmas.List.Elements.{All-nil, All-cons, All-head, All-tail, All-append, All-weaker}
use Rattle.std.proofs.lemmas.Slice.Zip.{length-zip}
use Rattle.wz_bytes.specs.Unsigned.{IsUnsigned, unsigned_at}
use Rattle.wz_bytes.specs.Signed.{IsSigned}
use Rattle.wz_bytes.specs.Shortest.{shortest_unsigned, shortest_signed}
use Rattle.wz_bytes.specs.Forms.{AreBytes}
use Rattle.wz_bytes.proofs.ByteLemmas.{utf8_bytes}
use Rattle.wz_bytes.proofs.UnsignedLaws.{unsigned_exact}
use Rattle.wz_bytes.proofs.ShortestLaws.{signed_shortest}
use Rattle.wz_types.specs.declared.types.ValType.{ValType}
use Rattle.wz_types.specs.declared.types.ValType.TheVariants as valtype
use Rattle.wz_types.specs.declared.types.RefKind.{RefKind}
use Rattle.wz_types.specs.declared.types.RefKind.TheVariants as kind
use Rattle.wz_types.specs.declared.types.GlobalType.{GlobalType}
use Rattle.wz_types.specs.declared.value.Reference.TheVariants.{Null, Fn, Foreign}
use Rattle.wz_types.specs.declared.value.Value.{Value}
use Rattle.wz_types.specs.declared.value.Value.TheVariants.{I32, I64, F32, F64, Ref}
use Rattle.wz_module.specs.declared.items.ExportTarget.{ExportTarget}
use Rattle.wz_module.specs.declared.items.ExportTarget.TheVariants.{Func, Table, Memory, Global}
use Rattle.wz_module.specs.Exports.{Export}
use Rattle.wz_decode_code.specs.Types.{type_byte, kind_byte}
use Rattle.wz_encode.specs.Vectors.{vector_text, bytes_text}
use Rattle.wz_encode.specs.Limits.{limits_text, memory_type_text}
use Rattle.wz_encode.specs.Constants.{constant_text, constant_expression_text}
use Rattle.wz_encode.specs.Globals.{mutability_byte, global_text}
use Rattle.wz_encode.specs.Exports.{target_text, export_text}
use Rattle.wz_encode.specs.Elements.{declarative_flag, with_declarative_flag, is_dropped, segment_text, kept_segments_text, declaration_text, declarations, elements_anew}
use Rattle.wz_encode.specs.Datas.{Slot, PassiveSlot, EmptySlot, HeadSlot, active_text, slot_text}
use Rattle.wz_encode.specs.Laws.{CanBeVector, CanBeIndex, CanBeMemory, CanBeConstant, target_index, CanBeExport, CanBeSegment, MemoriesAreBytes, GlobalsAreBytes, ExportsAreBytes, ElementsAreBytes, DatasAreBytes, CountIsBytes}
use Rattle.wz_encode.proofs.WrittenLaws.{number_spelled, within_32, within_64, within_more, bytes_below, zip_can}
use Rattle.wz_encode.proofs.ElementsWritten.{at_most_one}

abbrev Below : ℕ → Type 0
Below b = b < 256

-- ---- pieces

none : AreBytes []
none = All-nil Below

one_more : (b : ℕ) (bytes : List ℕ) → b < 256 → AreBytes bytes → AreBytes (b ∷ bytes)
one_more b bytes small h = All-cons Below b bytes small h

both : (xs ys : List ℕ) → AreBytes xs → AreBytes ys → AreBytes (xs ++ ys)
both xs ys h k = All-append Below xs ys h k

pub behind_bytes : (xs ys : List ℕ) → AreBytes (xs ++ ys) → AreBytes ys
behind_bytes [] ys h = h
behind_bytes (x ∷ xs) ys h = behind_bytes xs ys (All-tail Below x (xs ++ ys) h)

all_bytes : {X : Type 0} (item : X → List ℕ) (xs : List X) → All (λ x. AreBytes (item x)) xs → AreBytes (flat_map item xs)
all_bytes item [] h = none
all_bytes item (x ∷ xs) h = both (item x) (flat_map item xs) (All-head (λ x. AreBytes (item x)) x xs h) (all_bytes item xs (All-tail (λ x. AreBytes (item x)) x xs h))

-- ---- numbers and vectors

unsigned_bytes : (bits : ℕ) (text : List ℕ) (n : ℕ) → IsUnsigned bits text n → AreBytes text
unsigned_bytes bits [] n h = absurd h
unsigned_bytes bits (b ∷ bytes) n (inl h) = one_more b bytes (let l = h.1 in omega (arith, l)) (subst AreBytes (sym h.0) none)
unsigned_bytes bits (b ∷ bytes) n (inr h) = one_more b bytes h.1 (unsigned_bytes (bits - 7) bytes h.3 h.5)

signed_bytes : (bits : ℕ) (text : List ℕ) (z : ℤ) → IsSigned bits text z → AreBytes text
signed_bytes bits [] z h = absurd h
signed_bytes bits (b ∷ bytes) z (inl h) = one_more b bytes (let l = h.1 in omega (arith, l)) (subst AreBytes (sym h.0) none)
signed_bytes bits (b ∷ bytes) z (inr (inl h)) = one_more b bytes (let l = h.2 in omega (arith, l)) (subst AreBytes (sym h.0) none)
signed_bytes bits (b ∷ bytes) z (inr (inr h)) = one_more b bytes h.1 (signed_bytes (bits - 7) bytes h.3 h.5)

number_bytes : (n : ℕ) → n < 2 ^ 32 → AreBytes (shortest_unsigned n)
number_bytes n few = unsigned_bytes 32 (shortest_unsigned n) n (number_spelled n few)

pub count_bytes : CountIsBytes
count_bytes count few = number_bytes count few

pub vector_bytes : {X : Type 0} (item : X → List ℕ) (xs : List X) → length xs < 2 ^ 32 → All (λ x. AreBytes (item x)) xs → AreBytes (vector_text item xs)
vector_bytes item xs few h = both (shortest_unsigned (length xs)) (flat_map item xs) (number_bytes (length xs) few) (all_bytes item xs h)

text_bytes : (bytes : List ℕ) → length bytes < 2 ^ 32 → AreBytes bytes → AreBytes (bytes_text bytes)
text_bytes bytes few h = both (shortest_unsigned (length bytes)) bytes (number_bytes (length bytes) few) h

-- ---- memories

limits_bytes : (min : ℕ) (max : Option ℕ) → min < 2 ^ 32 → IfSome max (λ max. max < 2 ^ 32) → AreBytes (limits_text min max)
limits_bytes min None few most = one_more 0x00 (shortest_unsigned min) (lit< tt) (number_bytes min few)
limits_bytes min (Some max) few most =
    one_more 0x01 (shortest_unsigned min ++ shortest_unsigned max) (lit< tt) (both (shortest_unsigned min) (shortest_unsigned max) (number_bytes min few) (number_bytes max most))

pub memories_bytes : MemoriesAreBytes
memories_bytes memories can =
    vector_bytes memory_type_text memories can.0
    (All-weaker (λ t. CanBeMemory t) (λ t. AreBytes (memory_type_text t)) (λ t h. limits_bytes t.limits.min t.limits.max h.0 h.1) memories can.1)

-- ---- globals

type_bytes : (type : ValType) → type_byte type < 256
type_bytes valtype.I32 = lit< tt
type_bytes valtype.I64 = lit< tt
type_bytes valtype.F32 = lit< tt
type_bytes valtype.F64 = lit< tt
type_bytes valtype.FuncRef = lit< tt
type_bytes valtype.ExternRef = lit< tt

kind_bytes : (k : RefKind) → kind_byte k < 256
kind_bytes kind.Func = lit< tt
kind_bytes kind.Extern = lit< tt

mutability_bytes : (m : Bool) → mutability_byte m < 256
mutability_bytes false = lit< tt
mutability_bytes true = lit< tt

constant_bytes : (value : Value) → CanBeConstant value → AreBytes (constant_text value)
constant_bytes (I32 bits) few =
    let z = cast_signed w32 bits in
    let within = within_32 bits few in
    one_more 0x41 (shortest_signed z) (lit< tt) (signed_bytes 32 (shortest_signed z) z (signed_shortest 32 z within (within_more z within)).spelled)
constant_bytes (I64 bits) few =
    let z = cast_signed w64 bits in
    let within = within_64 bits few in
    one_more 0x42 (shortest_signed z) (lit< tt) (signed_bytes 64 (shortest_signed z) z (signed_shortest 64 z within within).spelled)
constant_bytes (F32 bits) few = one_more 0x43 (to_le_bytes w32 bits) (lit< tt) (bytes_below 0 4 bits)
constant_bytes (F64 bits) few = one_more 0x44 (to_le_bytes w64 bits) (lit< tt) (bytes_below 0 8 bits)
constant_bytes (Ref (Null k)) few = one_more 0xD0 (kind_byte k ∷ []) (lit< tt) (one_more (kind_byte k) [] (kind_bytes k) none)
constant_bytes (Ref (Fn index)) few = one_more 0xD2 (shortest_unsigned index) (lit< tt) (number_bytes index few)
constant_bytes (Ref (Foreign id sort)) few = absurd few

expression_bytes : (value : Value) → CanBeConstant value → AreBytes (constant_expression_text value)
expression_bytes value can = both (constant_text value) (0x0B ∷ []) (constant_bytes value can) (one_more 0x0B [] (lit< tt) none)

global_bytes : (g : GlobalType × Value) → CanBeConstant g.1 → AreBytes (global_text g)
global_bytes g can =
    let type = type_byte g.0.value in
    let mutable = mutability_byte g.0.mutable in
    let first = one_more type (mutable ∷ []) (type_bytes g.0.value) (one_more mutable [] (mutability_bytes g.0.mutable) none) in
    both (type ∷ mutable ∷ []) (constant_expression_text g.1) first (expression_bytes g.1 can)

pub globals_bytes : GlobalsAreBytes
globals_bytes kinds values can =
    let few : length (zip kinds values) < 2 ^ 32 = let l = length-zip kinds values in omega (arith, l, can.0) in
    vector_bytes global_text (zip kinds values) few
    (All-weaker (λ (g : GlobalType × Value). CanBeConstant g.1) (λ g. AreBytes (global_text g)) global_bytes (zip kinds values) (zip_can kinds values can.1))

-- ---- exports

target_bytes : (target : ExportTarget) → target_index target < 2 ^ 32 → AreBytes (target_text target)
target_bytes (Func index) few = one_more 0x00 (shortest_unsigned index) (lit< tt) (number_bytes index few)
target_bytes (Table index) few = one_more 0x01 (shortest_unsigned index) (lit< tt) (number_bytes index few)
target_bytes (Memory index) few = one_more 0x02 (shortest_unsigned index) (lit< tt) (number_bytes index few)
target_bytes (Global index) few = one_more 0x03 (shortest_unsigned index) (lit< tt) (number_bytes index few)

export_bytes : (e : Export) → CanBeExport e → AreBytes (export_text e.name e.target)
export_bytes e can = both (bytes_text e.name) (target_text e.target) (text_bytes e.name can.1 (utf8_bytes e.name can.0)) (target_bytes e.target can.2)

pub exports_bytes : ExportsAreBytes
exports_bytes exports can =
    vector_bytes (λ e. export_text e.name e.target) exports can.0 (All-weaker (λ e. CanBeExport e) (λ e. AreBytes (export_text e.name e.target)) export_bytes exports can.1)

-- ---- elements

flag_below : (flag : ℕ) → declarative_flag flag < 256
flag_below flag = elim (cases_Bool (flag == 5)) [ inl five ↦ rw five (lit< tt) | inr other ↦ rw other (lit< tt) ]

with_flag_bytes : (segment : List ℕ) (read : Option (ℕ × List ℕ)) → unsigned_at 32 segment ≡ read → AreBytes segment → AreBytes (with_declarative_flag read)
with_flag_bytes segment None e h = none
with_flag_bytes segment (Some flag) e h =
    let f = (unsigned_exact 32).found segment flag.0 flag.1 e in
    one_more (declarative_flag flag.0) flag.1 (flag_below flag.0) (behind_bytes f.text flag.1 (subst AreBytes f.parts h))

segment_bytes : (dropped : Bool) (segment : List ℕ) → AreBytes segment → AreBytes (segment_text dropped segment)
segment_bytes true segment h = with_flag_bytes segment (unsigned_at 32 segment) refl h
segment_bytes false segment h = h

kept_bytes : (dropped : List ℕ) (number : ℕ) (segments : List (List ℕ)) → All AreBytes segments → AreBytes (kept_segments_text dropped number segments)
kept_bytes dropped number [] h = none
kept_bytes dropped number (segment ∷ segments) h =
    both (segment_text (is_dropped dropped number) segment) (kept_segments_text dropped (number + 1) segments)
    (segment_bytes (is_dropped dropped number) segment (All-head AreBytes segment segments h)) (kept_bytes dropped (number + 1) segments (All-tail AreBytes segment segments h))

declarations_bytes : (functions : List ℕ) → CanBeVector CanBeIndex functions → AreBytes (flat_map declaration_text (declarations functions))
declarations_bytes [] can = none
declarations_bytes (f ∷ functions) can =
    let indices = vector_bytes shortest_unsigned (f ∷ functions) can.0 (All-weaker (λ n. n < 2 ^ 32) (λ n. AreBytes (shortest_unsigned n)) number_bytes (f ∷ functions) can.1) in
    let list = vector_text shortest_unsigned (f ∷ functions) in
    both (declaration_text (f ∷ functions)) [] (one_more 0x03 (0x00 ∷ list) (lit< tt) (one_more 0x00 list (lit< tt) indices)) none

anew_bytes : (segments : List (List ℕ)) (dropped functions : List ℕ) → All AreBytes segments → length segments + 1 < 2 ^ 32 → CanBeVector CanBeIndex functions
    → AreBytes (elements_anew segments dropped functions)
anew_bytes segments dropped functions h few can =
    let most = at_most_one functions in
    let new = flat_map declaration_text (declarations functions) in
    both (shortest_unsigned (length segments + length (declarations functions))) (kept_segments_text dropped 0 segments ++ new)
    (number_bytes (length segments + length (declarations functions)) (omega (arith, few, most)))
    (both (kept_segments_text dropped 0 segments) new (kept_bytes dropped 0 segments h) (declarations_bytes functions can))

pub elements_bytes : ElementsAreBytes
elements_bytes None segments dropped functions old h few can = anew_bytes segments dropped functions h few can
elements_bytes (Some payload) segments dropped functions old h few can = elim (cases_Bool ((length dropped == 0) && (length functions == 0))) [
  | inl same ↦ rw same old
  | inr other ↦ rw other (anew_bytes segments dropped functions h few can)
]

-- ---- data

active_bytes : (memory : ℕ) → memory < 2 ^ 32 → AreBytes (active_text memory)
active_bytes memory few = elim (cases_Bool (memory == 0)) [
  | inl first ↦ rw first (one_more 0x00 [] (lit< tt) none)
  | inr other ↦ rw other (one_more 0x02 (shortest_unsigned memory) (lit< tt) (number_bytes memory few))
]

pub slot_bytes : (slot : Slot) (behind : List ℕ) → CanBeSegment slot behind → AreBytes (slot_text slot ++ behind)
slot_bytes (PassiveSlot bytes) behind can =
    both (slot_text (PassiveSlot bytes)) behind (one_more 0x01 (bytes_text bytes) (lit< tt) (text_bytes bytes can.0.0 can.0.1)) (subst AreBytes (sym can.1) none)
slot_bytes EmptySlot behind can = both (slot_text EmptySlot) behind (one_more 0x01 (0x00 ∷ []) (lit< tt) (one_more 0x00 [] (lit< tt) none)) (subst AreBytes (sym can) none)
slot_bytes (HeadSlot memory at len) behind can =
    let few : len < 2 ^ 32 = subst (λ (n : ℕ). n < 2 ^ 32) can.2 can.3.0 in
    let expression = constant_expression_text (I32 at) in
    both (slot_text (HeadSlot memory at len)) behind
    (both (active_text memory) (expression ++ shortest_unsigned len) (active_bytes memory can.0)
    (both expression (shortest_unsigned len) (expression_bytes (I32 at) can.1) (number_bytes len few)))
    can.3.1

pub datas_bytes : DatasAreBytes
datas_bytes slots can =
    vector_bytes (λ s. slot_text s.0 ++ s.1) slots can.0
    (All-weaker (λ s. CanBeSegment s.0 s.1) (λ s. AreBytes (slot_text s.0 ++ s.1)) (λ s h. slot_bytes s.0 s.1 h) slots can.1)
