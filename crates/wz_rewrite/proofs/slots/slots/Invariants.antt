use Rattle.std.proofs.Common.{◌≡◌, ◌++◌, map, drop}
use Rattle.wz_module.specs.Views.{data_of}
use Rattle.wz_encode.specs.Views.{slot_of}
use Rattle.wz_rewrite.specs.Slots.{slots_from}
use Rattle.wz_rewrite.proofs.slots.slots.Given as goal

abbrev pub invariant-loop-number : goal.invariant-loop-number
invariant-loop-number l =
    slots_from l.marks 0 (map data_of l.segments) l.chosen ≡ map slot_of l.slots.items ++ slots_from l.marks l.number (map data_of (drop l.number l.segments)) l.left
