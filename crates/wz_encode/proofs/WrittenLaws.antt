-- What is written spells what it is written for.
use Rattle.std.proofs.Common.{◌≡◌, ℕ, zero, suc, ◌-◌, ◌^◌, ◌<◌, List, [], ◌∷◌, ◌++◌, length, map, Option, Some, None, Bool, true, false, refl, sym, subst, arith, inl, inr, lit<}
use Rattle.std.specs.Prelude.{IfSome, ℤ, pos, negsuc, nat_lt}
use Rattle.std.specs.List.{All, zip, flat_map}
use Rattle.std.specs.Int.{Width, w32, w64, cast_signed, to_le_bytes, bytes_low_first, byte_at}
use mir.Val.{hbits, bits}
use Rattle.std.proofs.lemmas.Bool.{cases_Bool, ltb-true, ltb-false}
use Rattle.std.proofs.lemmas.List.{append-nil, length-map, map-id}
use Rattle.std.proofs.lemmas.List.Elements.{All-nil, All-cons, All-head, All-tail, All-weaker}
use Rattle.std.proofs.lemmas.Slice.Zip.{length-zip}
use Rattle.std.proofs.lemmas.Int.{of_z-to_z, ints}
use Rattle.std.proofs.lemmas.Nat.{from_le_bytes-to_le_bytes_4, from_le_bytes-to_le_bytes_8, mod_below}
use Rattle.wz_bytes.specs.Unsigned.{IsUnsigned}
use Rattle.wz_bytes.specs.Signed.{IsSignedNumber}
use Rattle.wz_bytes.specs.Shortest.{shortest_unsigned, shortest_signed}
use Rattle.wz_bytes.specs.Reading.{Form}
use Rattle.wz_bytes.specs.Forms.{AreBytes, AreItems, IsVector, IsBytes}
use Rattle.wz_bytes.proofs.ShortestLaws.{unsigned_shortest, signed_shortest}
use Rattle.wz_bytes.proofs.NameLaws.{name_spelled}
use Rattle.wz_types.specs.declared.types.MemType.{MemType}
use Rattle.wz_types.specs.declared.types.GlobalType.{GlobalType}
use Rattle.wz_types.specs.declared.value.Reference.TheVariants.{Null, Fn, Foreign}
use Rattle.wz_types.specs.declared.value.Value.{Value}
use Rattle.wz_types.specs.declared.value.Value.TheVariants.{I32, I64, F32, F64, Ref}
use Rattle.wz_code.specs.declared.instr.Instr.TheVariants as instr
use Rattle.wz_code.specs.Trees.{Leaf, Plain, Then, End}
use Rattle.wz_module.specs.declared.items.ExportTarget.{ExportTarget}
use Rattle.wz_module.specs.declared.items.ExportTarget.TheVariants.{Func, Table, Memory, Global}
use Rattle.wz_decode_code.specs.Types.{type_byte, kind_byte}
use Rattle.wz_decode_code.specs.Instructions.{Two, IsLeaf}
use Rattle.wz_decode_code.specs.Code.{IsExpression}
use Rattle.wz_decode_sections.specs.Limits.{limits_from, IsLimits, IsMemType}
use Rattle.wz_decode_sections.specs.GlobalTypes.{IsMutable, IsGlobalType}
use Rattle.wz_decode_sections.specs.GlobalSection.{IsGlobalDef}
use Rattle.wz_decode_sections.specs.ExportSection.{IsExportTarget, IsExport}
use Rattle.wz_encode.specs.Vectors.{vector_text, bytes_text}
use Rattle.wz_encode.specs.Limits.{limits_text, memory_type_text}
use Rattle.wz_encode.specs.Constants.{constant_code, constant_expression_text}
use Rattle.wz_encode.specs.Globals.{mutability_byte, global_type_text, global_with, global_text}
use Rattle.wz_encode.specs.Exports.{target_text, export_text}
use Rattle.wz_encode.specs.Laws.{CanBeBytes, CanBeMemory, CanBeConstant, target_index, SectionIsSpelled, MemoriesAreSpelled, ConstantIsSpelled, GlobalsAreSpelled, ExportIsSpelled, ExportsAreSpelled}

-- ---- numbers and vectors

pub number_spelled : (n : ℕ) → n < 2 ^ 32 → IsUnsigned 32 (shortest_unsigned n) n
number_spelled n few = (unsigned_shortest 32 n few (omega arith)).spelled

-- a number below 128 is its byte
pub one_byte : (n : ℕ) → n < 128 → IsUnsigned 32 (n ∷ []) n
one_byte n few = inl (refl, few, omega (arith, few), refl)

items_spelled : {X Y : Type 0} (S : Form Y) (item : X → List ℕ) (f : X → Y) (xs : List X) → All (λ x. S (item x) (f x)) xs → AreItems S (flat_map item xs) (map f xs)
items_spelled S item f [] h = refl
items_spelled S item f (x ∷ xs) h =
    let head = All-head (λ x. S (item x) (f x)) x xs h in
    let tail = All-tail (λ x. S (item x) (f x)) x xs h in
    (item x, flat_map item xs, refl, head, items_spelled S item f xs tail)

pub vector_spelled : {X Y : Type 0} (S : Form Y) (item : X → List ℕ) (f : X → Y) (xs : List X) → length xs < 2 ^ 32 → All (λ x. S (item x) (f x)) xs
    → IsVector S (vector_text item xs) (map f xs)
vector_spelled S item f xs few h =
    let count : IsUnsigned 32 (shortest_unsigned (length xs)) (length (map f xs)) = rw (length-map xs f) (number_spelled (length xs) few) in
    (shortest_unsigned (length xs), flat_map item xs, refl, count, items_spelled S item f xs h)

pub list_spelled : {X : Type 0} (S : Form X) (item : X → List ℕ) (xs : List X) → length xs < 2 ^ 32 → All (λ x. S (item x) x) xs → IsVector S (vector_text item xs) xs
list_spelled {X = X} S item xs few h = subst (λ (ys : List X). IsVector S (vector_text item xs) ys) (map-id xs) (vector_spelled S item (λ x. x) xs few h)

pub bytes_spelled : (bytes : List ℕ) → CanBeBytes bytes → IsBytes (bytes_text bytes) bytes
bytes_spelled bytes can = (shortest_unsigned (length bytes), refl, number_spelled (length bytes) can.0, can.1)

-- ---- sections

pub section_spelled : SectionIsSpelled
section_spelled id payload small can = (id ∷ [], bytes_text payload, refl, (refl, small), bytes_spelled payload can)

-- ---- memories

limits_spelled : (min : ℕ) (max : Option ℕ) → min < 2 ^ 32 → IfSome max (λ max. max < 2 ^ 32) → IsLimits (limits_text min max) (limits_from min max)
limits_spelled min None few most = inl (0x00 ∷ [], shortest_unsigned min, refl, (refl, lit< tt), (min, number_spelled min few, refl))
limits_spelled min (Some max) few most =
    let both : Two (shortest_unsigned min ++ shortest_unsigned max) (min, max) =
    (shortest_unsigned min, shortest_unsigned max, refl, number_spelled min few, number_spelled max most) in
    inr (0x01 ∷ [], shortest_unsigned min ++ shortest_unsigned max, refl, (refl, lit< tt), ((min, max), both, refl))

memory_spelled : (type : MemType) → CanBeMemory type → IsMemType (memory_type_text type) type
memory_spelled type can = (type.limits, limits_spelled type.limits.min type.limits.max can.0 can.1, refl)

pub memories_spelled : MemoriesAreSpelled
memories_spelled memories can = list_spelled (λ t x. IsMemType t x) memory_type_text memories can.0 (All-weaker _ _ memory_spelled memories can.1)

-- ---- exports

target_spelled : (target : ExportTarget) → target_index target < 2 ^ 32 → IsExportTarget (target_text target) target
target_spelled (Func index) few = inl (0x00 ∷ [], shortest_unsigned index, refl, (refl, lit< tt), (index, number_spelled index few, refl))
target_spelled (Table index) few = inr (inl (0x01 ∷ [], shortest_unsigned index, refl, (refl, lit< tt), (index, number_spelled index few, refl)))
target_spelled (Memory index) few = inr (inr (inl (0x02 ∷ [], shortest_unsigned index, refl, (refl, lit< tt), (index, number_spelled index few, refl))))
target_spelled (Global index) few = inr (inr (inr (0x03 ∷ [], shortest_unsigned index, refl, (refl, lit< tt), (index, number_spelled index few, refl))))

pub export_spelled : ExportIsSpelled
export_spelled e can = ((e.name, e.target), (bytes_text e.name, target_text e.target, refl, name_spelled e.name can.0 can.1, target_spelled e.target can.2), refl)

pub exports_spelled : ExportsAreSpelled
exports_spelled exports can = list_spelled (λ t x. IsExport t x) (λ e. export_text e.name e.target) exports can.0 (All-weaker _ _ export_spelled exports can.1)

-- ---- constants and globals

one_leaf : (text : List ℕ) (leaf : Leaf) → IsLeaf text leaf → IsExpression (text ++ 0x0B ∷ []) (Then leaf End)
one_leaf text leaf h = (text, refl, (text, [], sym (append-nil text), h, refl))

low_half : (w : Width) (n : ℕ) → nat_lt n (2 ^ hbits w) ≡ true → cast_signed w n ≡ pos n
low_half w n low = rw low refl

high_half : (w : Width) (n : ℕ) → nat_lt n (2 ^ hbits w) ≡ false → cast_signed w n ≡ negsuc (2 ^ bits w - suc n)
high_half w n high = rw high refl

pub within_32 : (n : ℕ) → n < 2 ^ 32 → IsSignedNumber 32 (cast_signed w32 n)
within_32 n few = elim (cases_Bool (nat_lt n (2 ^ 31))) [
  | inl low ↦ rw (low_half w32 n low) (let l = ltb-true n (2 ^ 31) low in omega (arith, ints, l))
  | inr high ↦ rw (high_half w32 n high) (let l = ltb-false n (2 ^ 31) high in omega (arith, ints, l))
]

pub within_64 : (n : ℕ) → n < 2 ^ 64 → IsSignedNumber 64 (cast_signed w64 n)
within_64 n few = elim (cases_Bool (nat_lt n (2 ^ 63))) [
  | inl low ↦ rw (low_half w64 n low) (let l = ltb-true n (2 ^ 63) low in omega (arith, ints, l))
  | inr high ↦ rw (high_half w64 n high) (let l = ltb-false n (2 ^ 63) high in omega (arith, ints, l))
]

pub within_more : (z : ℤ) → IsSignedNumber 32 z → IsSignedNumber 64 z
within_more z h = omega (arith, ints, h.0, h.1)

byte_below : (i n : ℕ) → byte_at i n < 256
byte_below zero n = mod_below n 256 (lit< tt)
byte_below (suc i) n = mod_below _ 256 (lit< tt)

pub bytes_below : (i k n : ℕ) → AreBytes (bytes_low_first i k n)
bytes_below i zero n = All-nil (λ b. b < 256)
bytes_below i (suc k) n = All-cons (λ b. b < 256) (byte_at i n) (bytes_low_first (suc i) k n) (byte_below i n) (bytes_below (suc i) k n)

pub constant_spelled : ConstantIsSpelled
constant_spelled (I32 bits) few =
    let z = cast_signed w32 bits in
    let within = within_32 bits few in
    one_leaf (0x41 ∷ shortest_signed z) (Plain (instr.I32Const bits))
    (shortest_signed z, refl, (z, (signed_shortest 32 z within (within_more z within)).spelled, sym (of_z-to_z w32 bits few)))
constant_spelled (I64 bits) few =
    let z = cast_signed w64 bits in
    let within = within_64 bits few in
    one_leaf (0x42 ∷ shortest_signed z) (Plain (instr.I64Const bits))
    (shortest_signed z, refl, (z, (signed_shortest 64 z within within).spelled, sym (of_z-to_z w64 bits few)))
constant_spelled (F32 bits) few =
    one_leaf (0x43 ∷ to_le_bytes w32 bits) (Plain (instr.F32Const bits))
    (to_le_bytes w32 bits, refl, (to_le_bytes w32 bits, (refl, refl, bytes_below 0 4 bits), sym (from_le_bytes-to_le_bytes_4 bits few)))
constant_spelled (F64 bits) few =
    one_leaf (0x44 ∷ to_le_bytes w64 bits) (Plain (instr.F64Const bits))
    (to_le_bytes w64 bits, refl, (to_le_bytes w64 bits, (refl, refl, bytes_below 0 8 bits), sym (from_le_bytes-to_le_bytes_8 bits few)))
constant_spelled (Ref (Null kind)) few = one_leaf (0xD0 ∷ kind_byte kind ∷ []) (Plain (instr.RefNull kind)) (kind_byte kind ∷ [], refl, refl)
constant_spelled (Ref (Fn index)) few = one_leaf (0xD2 ∷ shortest_unsigned index) (Plain (instr.RefFunc index)) (shortest_unsigned index, refl, number_spelled index few)
constant_spelled (Ref (Foreign id sort)) few = absurd few

mutability_spelled : (m : Bool) → IsMutable (mutability_byte m ∷ []) m
mutability_spelled false = refl
mutability_spelled true = refl

global_spelled : (g : GlobalType × Value) → CanBeConstant g.1 → IsGlobalDef (global_text g) (global_with g)
global_spelled g can =
    let type = g.0 in
    let kind : IsGlobalType (global_type_text type) type =
    ((type.value, type.mutable), (type_byte type.value ∷ [], mutability_byte type.mutable ∷ [], refl, refl, mutability_spelled type.mutable), refl) in
    ((type, constant_code g.1), (global_type_text type, constant_expression_text g.1, refl, kind, constant_spelled g.1 can), refl)

pub zip_can : (kinds : List GlobalType) (values : List Value) → All (λ v. CanBeConstant v) values → All (λ (g : GlobalType × Value). CanBeConstant g.1) (zip kinds values)
zip_can [] values can = All-nil (λ (g : GlobalType × Value). CanBeConstant g.1)
zip_can (kind ∷ kinds) [] can = All-nil (λ (g : GlobalType × Value). CanBeConstant g.1)
zip_can (kind ∷ kinds) (value ∷ values) can =
    let more = zip_can kinds values (All-tail (λ v. CanBeConstant v) value values can) in
    All-cons (λ (g : GlobalType × Value). CanBeConstant g.1) (kind, value) (zip kinds values) (All-head (λ v. CanBeConstant v) value values can) more

pub globals_spelled : GlobalsAreSpelled
globals_spelled kinds values same can =
    let few : length (zip kinds values) < 2 ^ 32 = let l = length-zip kinds values in omega (arith, l, same, can.0) in
    vector_spelled (λ t x. IsGlobalDef t x) global_text global_with (zip kinds values) few (All-weaker _ _ global_spelled (zip kinds values) (zip_can kinds values can.1))
