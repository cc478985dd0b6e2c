-- What the struct of a data slot is.
use Rattle.wz_encode.specs.Datas.{Slot, PassiveSlot, EmptySlot, HeadSlot}
use Rattle.wz_encode.specs.declared.datas.DataSlot.{DataSlot}
use Rattle.wz_encode.specs.declared.datas.DataSlot.TheVariants as slot

abbrev pub slot_of : DataSlot → Slot
slot_of (slot.Passive bytes) = PassiveSlot bytes.now
slot_of slot.Nothing = EmptySlot
slot_of (slot.Head memory at len) = HeadSlot memory at len
