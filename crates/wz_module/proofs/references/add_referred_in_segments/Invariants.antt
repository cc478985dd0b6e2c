use Rattle.std.proofs.Common.{take}
use Rattle.std.specs.List.{flat_map}
use Rattle.wz_code.specs.References.{AddsFunctions}
use Rattle.wz_module.specs.Views.{elem_of}
use Rattle.wz_module.specs.References.{referred_in_segment}
use Rattle.wz_module.proofs.references.add_referred_in_segments.Given as goal

abbrev pub invariant-loop-segment : goal.invariant-loop-segment
invariant-loop-segment l = AddsFunctions l.initial.functions.keys l.functions.keys (flat_map (λ e. referred_in_segment (elem_of e)) (take l.segment-index l.segments))
