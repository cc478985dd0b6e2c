use Rattle.std.proofs.Common.{◌≡◌, map, drop}
use Rattle.wz_init.specs.Plain.{datas_behind}
use Rattle.wz_init.proofs.allocation.add_datas.Given as goal

abbrev pub invariant-loop-segment : goal.invariant-loop-segment
invariant-loop-segment g l =
    datas_behind l.store (map (λ segment. segment.bytes.now) (drop l.segment-index l.segments))
    ≡ datas_behind l.initial.store (map (λ segment. segment.bytes.now) l.segments)
