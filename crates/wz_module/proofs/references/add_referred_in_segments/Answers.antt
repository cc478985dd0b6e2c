use Rattle.std.proofs.Common.{arith}
use Rattle.wz_code.proofs.NumberLemmas.{adds_mapped}
use Rattle.wz_module.specs.Views.{elem_of}
use Rattle.wz_module.specs.References.{referred_in_segment}
use Rattle.wz_module.proofs.references.add_referred_in_segments.Goals as goal

pub returns : goal.returns
returns c =
    adds_mapped (λ e. referred_in_segment e) (λ e. elem_of e) c.args.segments.now c.loop-segment.segment-index
    c.args.functions.now.keys c.loop-segment.functions.keys (omega arith) c.loop-segment.invariant
