-- The contents of the output's sections are short: each item takes at most 33 bytes besides names and the bytes of data segments.
use Rattle.std.proofs.Common.{◌≡◌, ℕ, ◌+◌, ◌*◌, ◌≤◌, List, [], ◌∷◌, ◌++◌, length, Bool, true, false, cond, Option, Some, None, refl, ap, ◌∙◌, arith}
use Rattle.std.specs.Prelude.{◌==◌, ◌&&◌}
use Rattle.std.specs.Int.{w32, w64, cast_signed, to_le_bytes}
use Rattle.std.specs.List.{flat_map, concat, sum_by, zip}
use Rattle.std.proofs.lemmas.List.{length-append}
use Rattle.std.proofs.lemmas.List.Sums.{sum_by-cons}
use Rattle.wz_bytes.specs.Shortest.{shortest_unsigned, shortest_signed}
use Rattle.wz_bytes.specs.Unsigned.{unsigned_at}
use Rattle.wz_bytes.proofs.UnsignedLaws.{unsigned_exact, unsigned_some}
use Rattle.wz_types.specs.declared.types.MemType.{MemType}
use Rattle.wz_types.specs.declared.types.GlobalType.{GlobalType}
use Rattle.wz_types.specs.declared.value.Reference.TheVariants.{Null, Fn, Foreign}
use Rattle.wz_types.specs.declared.value.Value.{Value}
use Rattle.wz_types.specs.declared.value.Value.TheVariants.{I32, I64, F32, F64, Ref}
use Rattle.wz_module.specs.declared.items.ExportTarget.{ExportTarget}
use Rattle.wz_module.specs.declared.items.ExportTarget.TheVariants.{Func, Table, Memory, Global}
use Rattle.wz_module.specs.Exports.{Export}
use Rattle.wz_encode.specs.Vectors.{vector_text}
use Rattle.wz_encode.specs.Limits.{limits_text, memory_type_text, memories_text}
use Rattle.wz_encode.specs.Constants.{constant_text, constant_expression_text}
use Rattle.wz_encode.specs.Globals.{global_type_text, global_text, globals_text}
use Rattle.wz_encode.specs.Exports.{target_text, export_text, exports_text}
use Rattle.wz_encode.specs.Elements.{with_declarative_flag, is_dropped, segment_text, kept_segments_text, declaration_text, declarations, elements_anew, elements_text}
use Rattle.wz_encode.specs.Datas.{Slot, PassiveSlot, EmptySlot, HeadSlot, active_text, slot_text}
use Rattle.wz_top.proofs.KeptSizes.{export_size}
use Rattle.wz_top.proofs.SampleSize.{number_short, signed_short}

-- ---- items one behind the other

items_short : {X : Type 0} (item : X → List ℕ) (extra : X → ℕ) → ((x : X) → length (item x) ≤ 33 + extra x) → (xs : List X)
    → length (flat_map item xs) ≤ 33 * length xs + sum_by extra xs
items_short item extra each [] = omega arith
items_short item extra each (x ∷ xs) =
    let split = length-append (item x) (flat_map item xs) in
    let one = each x in
    let more = items_short item extra each xs in
    let step = sum_by-cons extra x xs in
    omega (arith, split, one, more, step)

vector_short : {X : Type 0} (item : X → List ℕ) (extra : X → ℕ) → ((x : X) → length (item x) ≤ 33 + extra x) → (xs : List X)
    → length (vector_text item xs) ≤ 10 + 33 * length xs + sum_by extra xs
vector_short item extra each xs =
    let split = length-append (shortest_unsigned (length xs)) (flat_map item xs) in
    let count = number_short (length xs) in
    let items = items_short item extra each xs in
    omega (arith, split, count, items)

zeros : {X : Type 0} (xs : List X) → sum_by (λ (x : X). 0) xs ≤ 0
zeros [] = omega arith
zeros {X = X} (x ∷ xs) = let step = sum_by-cons (λ (y : X). 0) x xs in let more = zeros xs in omega (arith, step, more)

plain_short : {X : Type 0} (item : X → List ℕ) → ((x : X) → length (item x) ≤ 33) → (xs : List X) → length (vector_text item xs) ≤ 10 + 33 * length xs
plain_short {X = X} item each xs =
    let all = vector_short item (λ (x : X). 0) (λ x. let one = each x in omega (arith, one)) xs in
    let none = zeros xs in
    omega (arith, all, none)

-- ---- memories, globals and exports

limits_short : (min : ℕ) (max : Option ℕ) → length (limits_text min max) ≤ 33
limits_short min None = let low = number_short min in omega (arith, low)
limits_short min (Some max) =
    let low = number_short min in
    let high = number_short max in
    let split = length-append (shortest_unsigned min) (shortest_unsigned max) in
    omega (arith, low, high, split)

pub memories_short : (memories : List MemType) → length (memories_text memories) ≤ 10 + 33 * length memories
memories_short memories = plain_short memory_type_text (λ type. limits_short type.limits.min type.limits.max) memories

constant_short : (value : Value) → length (constant_text value) ≤ 11
unfolding shortest_signed
constant_short (I32 bits) = let rest = signed_short 9 (cast_signed w32 bits) in omega (arith, rest)
constant_short (I64 bits) = let rest = signed_short 9 (cast_signed w64 bits) in omega (arith, rest)
constant_short (F32 bits) = let size : length (to_le_bytes w32 bits) ≡ 4 = refl in omega (arith, size)
constant_short (F64 bits) = let size : length (to_le_bytes w64 bits) ≡ 8 = refl in omega (arith, size)
constant_short (Ref (Null kind)) = omega arith
constant_short (Ref (Fn index)) = let rest = number_short index in omega (arith, rest)
constant_short (Ref (Foreign id sort)) = omega arith

expression_short : (value : Value) → length (constant_expression_text value) ≤ 12
expression_short value =
    let one = constant_short value in
    let split = length-append (constant_text value) (0x0B ∷ []) in
    omega (arith, one, split)

global_short : (global : GlobalType × Value) → length (global_text global) ≤ 33
global_short global =
    let one = expression_short global.1 in
    let split = length-append (global_type_text global.0) (constant_expression_text global.1) in
    omega (arith, one, split)

pub globals_short : (kinds : List GlobalType) (values : List Value) → length (globals_text kinds values) ≤ 10 + 33 * length (zip kinds values)
globals_short kinds values = plain_short global_text global_short (zip kinds values)

target_short : (t : ExportTarget) → length (target_text t) ≤ 11
target_short (Func index) = let rest = number_short index in omega (arith, rest)
target_short (Table index) = let rest = number_short index in omega (arith, rest)
target_short (Memory index) = let rest = number_short index in omega (arith, rest)
target_short (Global index) = let rest = number_short index in omega (arith, rest)

export_short : (e : Export) → length (export_text e.name e.target) ≤ 33 + export_size e
export_short e =
    let count = number_short (length e.name) in
    let target = target_short e.target in
    let name = length-append (shortest_unsigned (length e.name)) e.name in
    let split = length-append (shortest_unsigned (length e.name) ++ e.name) (target_text e.target) in
    omega (arith, count, target, name, split)

pub exports_short : (exports : List Export) → length (exports_text exports) ≤ 10 + 33 * length exports + sum_by export_size exports
exports_short exports = vector_short (λ (e : Export). export_text e.name e.target) export_size export_short exports

-- ---- element segments

flag_short : (segment : List ℕ) (o : Option (ℕ × List ℕ)) → unsigned_at 32 segment ≡ o → length (with_declarative_flag o) ≤ length segment
flag_short segment None e = omega arith
flag_short segment (Some flag) e =
    let front = (unsigned_exact 32).found segment flag.0 flag.1 e in
    let some = unsigned_some 32 front.text flag.0 front.spelled in
    let whole : length segment ≡ length front.text + length flag.1 = ap (λ (l : List ℕ). length l) front.parts ∙ length-append front.text flag.1 in
    omega (arith, some, whole)

segment_short : (dropped : Bool) (segment : List ℕ) → length (segment_text dropped segment) ≤ length segment
segment_short true segment = flag_short segment (unsigned_at 32 segment) refl
segment_short false segment = omega arith

segments_short : (dropped : List ℕ) (number : ℕ) (segments : List (List ℕ)) → length (kept_segments_text dropped number segments) ≤ length (concat segments)
segments_short dropped number [] = omega arith
segments_short dropped number (segment ∷ segments) =
    let one = segment_short (is_dropped dropped number) segment in
    let more = segments_short dropped (number + 1) segments in
    let text = length-append (segment_text (is_dropped dropped number) segment) (kept_segments_text dropped (number + 1) segments) in
    let whole = length-append segment (concat segments) in
    omega (arith, one, more, text, whole)

declaration_short : (functions : List ℕ) → length (declaration_text functions) ≤ 12 + 33 * length functions
declaration_short functions =
    let all = plain_short shortest_unsigned (λ n. let one = number_short n in omega (arith, one)) functions in
    omega (arith, all)

declarations_short : (functions : List ℕ) → length (flat_map declaration_text (declarations functions)) ≤ 12 + 33 * length functions
declarations_short [] = omega arith
declarations_short (function ∷ functions) =
    let one = declaration_short (function ∷ functions) in
    let split = length-append (declaration_text (function ∷ functions)) [] in
    omega (arith, one, split)

anew_short : (segments : List (List ℕ)) (dropped functions : List ℕ) → length (elements_anew segments dropped functions) ≤ 22 + length (concat segments) + 33 * length functions
anew_short segments dropped functions =
    let many = length segments + length (declarations functions) in
    let count = number_short many in
    let old = segments_short dropped 0 segments in
    let new = declarations_short functions in
    let inner = length-append (kept_segments_text dropped 0 segments) (flat_map declaration_text (declarations functions)) in
    let outer = length-append (shortest_unsigned many) (kept_segments_text dropped 0 segments ++ flat_map declaration_text (declarations functions)) in
    omega (arith, count, old, new, inner, outer)

-- a section that was there, of these segments
pub renewed_short : (payload : List ℕ) (segments : List (List ℕ)) (dropped functions : List ℕ) → length (concat segments) ≤ length payload
    → length (elements_text (Some payload) segments dropped functions) ≤ 22 + length payload + 33 * length functions
renewed_short payload segments dropped functions within =
    by ((length dropped == 0) && (length functions == 0)) (anew_short segments dropped functions) where
      by : (b : Bool) → length (elements_anew segments dropped functions) ≤ 22 + length (concat segments) + 33 * length functions
          → length (cond b payload (elements_anew segments dropped functions)) ≤ 22 + length payload + 33 * length functions
      by true h = omega arith
      by false h = omega (arith, h, within)

-- and one that comes in
pub declared_short : (functions : List ℕ) → length (elements_text None [] [] functions) ≤ 22 + 33 * length functions
declared_short functions = let all = anew_short [] [] functions in omega (arith, all)

-- ---- data segments

-- the bytes that a slot has of its own
abbrev pub own_size : Slot → ℕ
own_size (PassiveSlot bytes) = length bytes
own_size EmptySlot = 0
own_size (HeadSlot memory at len) = 0

-- and those that follow it
abbrev pub slot_size : Slot × List ℕ → ℕ
slot_size slot = own_size slot.0 + length slot.1

active_short : (memory : ℕ) → length (active_text memory) ≤ 11
active_short memory = by (memory == 0) (number_short memory) where
  by : (b : Bool) → length (shortest_unsigned memory) ≤ 10 → length (cond b (0x00 ∷ []) (0x02 ∷ shortest_unsigned memory)) ≤ 11
  by true h = omega arith
  by false h = omega (arith, h)

slot_short : (slot : Slot) → length (slot_text slot) ≤ 33 + own_size slot
slot_short (PassiveSlot bytes) =
    let count = number_short (length bytes) in
    let split = length-append (shortest_unsigned (length bytes)) bytes in
    omega (arith, count, split)
slot_short EmptySlot = omega arith
slot_short (HeadSlot memory at len) =
    let front = active_short memory in
    let place = expression_short (I32 at) in
    let count = number_short len in
    let inner = length-append (constant_expression_text (I32 at)) (shortest_unsigned len) in
    let outer = length-append (active_text memory) (constant_expression_text (I32 at) ++ shortest_unsigned len) in
    omega (arith, front, place, count, inner, outer)

filled_short : (slot : Slot × List ℕ) → length (slot_text slot.0 ++ slot.1) ≤ 33 + slot_size slot
filled_short slot =
    let one = slot_short slot.0 in
    let split = length-append (slot_text slot.0) slot.1 in
    omega (arith, one, split)

pub datas_short : (slots : List (Slot × List ℕ)) → length (vector_text (λ s. slot_text s.0 ++ s.1) slots) ≤ 10 + 33 * length slots + sum_by slot_size slots
datas_short slots = vector_short (λ (s : Slot × List ℕ). slot_text s.0 ++ s.1) slot_size filled_short slots
