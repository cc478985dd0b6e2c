use Rattle.std.proofs.Common.{ap, ◌-◌, ◌^◌}
use Rattle.wz_init.specs.Plain.{plain_global}
use Rattle.wz_store.specs.Made.{StoreState}
use Rattle.wz_init.proofs.BehindLemmas.{room_for_each}
use Rattle.wz_init.proofs.allocation.add_globals.Goals as goal

pub add_global-requires : goal.add_global-requires
add_global-requires g c =
    room_for_each plain_global c.args.globals.now c.loop-global.global-index c.loop-global.store.globals c.args.store.now.globals (2 ^ 32 - 1)
    (ap (λ (s : StoreState). s.globals) c.loop-global.invariant) c.requires.room
