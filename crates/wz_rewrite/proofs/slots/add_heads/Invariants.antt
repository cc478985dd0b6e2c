use Rattle.std.proofs.Common.{◌≡◌, ◌++◌, map, take}
use Rattle.wz_encode.specs.Views.{slot_of}
use Rattle.wz_rewrite.specs.Slots.{head_slot}
use Rattle.wz_rewrite.proofs.slots.add_heads.Given as goal

abbrev pub invariant-loop-segment : goal.invariant-loop-segment
invariant-loop-segment l = map slot_of l.slots.items ≡ map slot_of l.fn.slots.items ++ map head_slot (take l.segment-index l.chosen)
