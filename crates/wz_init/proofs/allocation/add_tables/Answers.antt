use Rattle.std.proofs.Common.{ap, ◌-◌, ◌^◌}
use Rattle.wz_store.specs.Made.{new_table}
use Rattle.wz_store.specs.Made.{StoreState}
use Rattle.wz_init.proofs.BehindLemmas.{room_for_each}
use Rattle.wz_init.proofs.allocation.add_tables.Goals as goal

pub add_table-requires : goal.add_table-requires
add_table-requires g c =
    room_for_each new_table c.args.tables.now c.loop-table.table-index c.loop-table.store.tables c.args.store.now.tables (2 ^ 32 - 1)
    (ap (λ (s : StoreState). s.tables) c.loop-table.invariant) c.requires
