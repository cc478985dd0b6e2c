use Rattle.std.proofs.Common.{ap, ◌-◌, ◌^◌}
use Rattle.wz_store.specs.Made.{StoreState}
use Rattle.wz_init.proofs.BehindLemmas.{room_for_each}
use Rattle.wz_init.proofs.allocation.add_datas.Goals as goal

pub add_data-requires-clause-room : goal.add_data-requires-clause-room
add_data-requires-clause-room g c =
    room_for_each (λ segment. segment.bytes.now) c.args.segments.now c.loop-segment.segment-index c.loop-segment.store.datas c.args.store.now.datas (2 ^ 32 - 1)
    (ap (λ (s : StoreState). s.datas) c.loop-segment.invariant) c.requires.room
