-- Section 5.5.14 of the Core Specification: how the entries of the data section are written.
use Rattle.std.specs.Prelude.{ℕ, List, [], ◌∷◌, ◌++◌, if◌then◌else◌, ◌==◌}
use Rattle.wz_bytes.specs.Shortest.{shortest_unsigned}
use Rattle.wz_types.specs.declared.value.Value.TheVariants.{I32}
use Rattle.wz_module.specs.Datas.{PassiveData, ActiveData, DataSegment}
use Rattle.wz_encode.specs.Vectors.{bytes_text}
use Rattle.wz_encode.specs.Constants.{constant_code, constant_expression_text}

-- What stands in the data section in the place of a segment: a passive one with its bytes, a passive one without any, or what an
-- active one has in front of its bytes: the memory, the address and how many bytes follow.
pub data Slot : Type 0 where
  PassiveSlot : List ℕ → Slot
  EmptySlot : Slot
  HeadSlot : ℕ → ℕ → ℕ → Slot

-- 0:u32 for memory 0, 2:u32 memidx for another
abbrev pub active_text : ℕ → List ℕ
active_text memory = if memory == 0 then 0x00 ∷ [] else 0x02 ∷ shortest_unsigned memory

-- data ::= 0:u32 expr vec(byte) | 1:u32 vec(byte) | 2:u32 memidx expr vec(byte)
abbrev pub slot_text : Slot → List ℕ
slot_text (PassiveSlot bytes) = 0x01 ∷ bytes_text bytes
slot_text EmptySlot = 0x01 ∷ 0x00 ∷ []
slot_text (HeadSlot memory at len) = active_text memory ++ (constant_expression_text (I32 at) ++ shortest_unsigned len)

-- the segment that a slot is, with the bytes that follow it
abbrev pub segment_of : Slot → List ℕ → DataSegment
segment_of (PassiveSlot bytes) behind = record { mode = PassiveData; bytes = bytes }
segment_of EmptySlot behind = record { mode = PassiveData; bytes = [] }
segment_of (HeadSlot memory at len) behind = record { mode = ActiveData memory (constant_code (I32 at)); bytes = behind }
