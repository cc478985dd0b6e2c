-- Section 4.4.7 of the Core Specification: memory instructions. They read and write the memories that they name, and memory.init and
-- data.drop their data segment.
use Rattle.std.specs.Prelude.{ℕ, ◌+◌, ◌*◌, ◌%◌, nat_le, List, ◌∷◌, Option, Some, None, Bool, true, false, if◌then◌else◌, length}
use Rattle.wz_types.specs.declared.types.ValType.{ValType}
use Rattle.wz_types.specs.declared.types.ValType.TheVariants as valtype
use Rattle.wz_types.specs.declared.trap.TrapKind.TheVariants.{MemoryBounds}
use Rattle.wz_types.specs.declared.value.Value.{Value}
use Rattle.wz_types.specs.declared.value.Value.TheVariants.{I32, I64, F32, F64}
use Rattle.wz_code.specs.declared.accesses.AccessShape.{AccessShape}
use Rattle.wz_num.specs.Conversions.{extend_s, extend_u}
use Rattle.wz_linear.specs.Bytes.{number_of, bytes_of, part}
use Rattle.wz_store.specs.State.{Memory, pages_of}
use Rattle.wz_store.specs.Changes.{Nothing, WriteMemory}
use Rattle.wz_store.specs.Growth.{may_grow}
use Rattle.wz_bulk.specs.MemoryEffects.{memory_fill_effect, memory_copy_effect, memory_init_effect, data_drop_effect}
use Rattle.wz_machine.specs.Terms.{AskMemory}
use Rattle.wz_machine.specs.Outcomes.{Effect, Yields, Poses, Fails, HasNoRule}
use Rattle.wz_machine.specs.BulkSteps.{bulk_step, minus_one}

-- ---- loads and stores

-- the number of bits of a number type
abbrev pub bits_in : ValType → ℕ
bits_in valtype.I32 = 32
bits_in valtype.I64 = 64
bits_in valtype.F32 = 32
bits_in valtype.F64 = 64
bits_in valtype.FuncRef = 0
bits_in valtype.ExternRef = 0

-- extend_sx from m to n bits: with the sign, or with zeros
abbrev pub extension : Bool → ℕ → ℕ → ℕ → ℕ
extension true m n number = extend_s m n number
extension false m n number = extend_u m n number

-- the value of this type that has this pattern; no access is of a reference
abbrev pub value_of_bits : ValType → ℕ → Option Value
value_of_bits valtype.I32 bits = Some (I32 bits)
value_of_bits valtype.I64 bits = Some (I64 bits)
value_of_bits valtype.F32 bits = Some (F32 bits)
value_of_bits valtype.F64 bits = Some (F64 bits)
value_of_bits valtype.FuncRef bits = None
value_of_bits valtype.ExternRef bits = None

-- the pattern of a value of this type
abbrev pub bits_of_value : ValType → Value → Option ℕ
bits_of_value valtype.I32 (I32 bits) = Some bits
bits_of_value valtype.I64 (I64 bits) = Some bits
bits_of_value valtype.F32 (F32 bits) = Some bits
bits_of_value valtype.F64 (F64 bits) = Some bits
bits_of_value type value = None

-- the value above these
abbrev pub value_effect : Option Value → List Value → Effect
value_effect (Some value) values = Yields Nothing (value ∷ values)
value_effect None values = HasNoRule

-- what an access of this shape reads from the place
abbrev pub read_value : AccessShape → List ℕ → ℕ → Option Value
read_value shape bytes place =
    value_of_bits shape.value (extension shape.signed (8 * shape.bytes) (bits_in shape.value) (number_of (part bytes place shape.bytes)))

-- t.load memarg and t.loadN_sx memarg, where the place is within the memory, and where it isn't
abbrev pub load_step : AccessShape → ℕ → Option Memory → List Value → Effect
load_step shape offset (Some memory) (I32 base ∷ values) =
    if nat_le (base + offset + shape.bytes) (length memory.bytes)
    then value_effect (read_value shape memory.bytes (base + offset)) values
    else Fails MemoryBounds
load_step shape offset memory values = HasNoRule

-- t.store memarg and t.storeN memarg, the same; `bytes_of` takes the low bits
abbrev pub write_effect : AccessShape → ℕ → ℕ → Memory → Option ℕ → List Value → Effect
write_effect shape place index memory (Some bits) values =
    if nat_le (place + shape.bytes) (length memory.bytes)
    then Yields (WriteMemory index place (bytes_of shape.bytes bits)) values
    else Fails MemoryBounds
write_effect shape place index memory None values = HasNoRule

abbrev pub store_step : AccessShape → ℕ → ℕ → Option Memory → List Value → Effect
store_step shape offset index (Some memory) (value ∷ I32 base ∷ values) =
    write_effect shape (base + offset) index memory (bits_of_value shape.value value) values
store_step shape offset index memory values = HasNoRule

abbrev pub access_step : AccessShape → ℕ → ℕ → Option Memory → List Value → Effect
access_step shape offset index memory values =
    if shape.store then store_step shape offset index memory values else load_step shape offset memory values

-- ---- sizes

-- memory.size
abbrev pub memory_size_step : Option Memory → List Value → Effect
memory_size_step (Some memory) values = Yields Nothing (I32 (pages_of memory) ∷ values)
memory_size_step None values = HasNoRule

-- memory.grow, of a memory of so many pages and this maximum: within the limits the surroundings choose, past them it fails
abbrev pub memory_growth : ℕ → ℕ → Option ℕ → ℕ → List Value → Effect
memory_growth index pages maximum by values =
    if may_grow pages maximum by then Poses (AskMemory index by) values else Yields Nothing (minus_one ∷ values)

abbrev pub memory_grow_step : ℕ → Option Memory → List Value → Effect
memory_grow_step index (Some memory) (I32 by ∷ values) = memory_growth index (pages_of memory) memory.maximum by values
memory_grow_step index memory values = HasNoRule

-- ---- ranges

-- memory.fill: with the low byte of its operand
abbrev pub memory_fill_step : ℕ → Option Memory → List Value → Effect
memory_fill_step index memory (I32 count ∷ I32 bits ∷ I32 to ∷ values) = bulk_step values (memory_fill_effect index memory to (bits % 256) count)
memory_fill_step index memory values = HasNoRule

-- memory.copy
abbrev pub memory_copy_step : ℕ → Option Memory → Option Memory → List Value → Effect
memory_copy_step index memory source (I32 count ∷ I32 from ∷ I32 to ∷ values) = bulk_step values (memory_copy_effect index memory source to from count)
memory_copy_step index memory source values = HasNoRule

-- memory.init x
abbrev pub memory_init_step : ℕ → Option Memory → Option (List ℕ) → List Value → Effect
memory_init_step index memory segment (I32 count ∷ I32 from ∷ I32 to ∷ values) = bulk_step values (memory_init_effect index memory segment to from count)
memory_init_step index memory segment values = HasNoRule

-- data.drop x
abbrev pub data_drop_step : ℕ → Option (List ℕ) → List Value → Effect
data_drop_step index segment values = bulk_step values (data_drop_effect index segment)
