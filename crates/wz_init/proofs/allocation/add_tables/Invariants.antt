use Rattle.std.proofs.Common.{◌≡◌, map, drop}
use Rattle.wz_store.specs.Made.{new_table}
use Rattle.wz_init.specs.Plain.{tables_behind}
use Rattle.wz_init.proofs.allocation.add_tables.Given as goal

abbrev pub invariant-loop-table : goal.invariant-loop-table
invariant-loop-table g l = tables_behind l.store (map new_table (drop l.table-index l.tables)) ≡ tables_behind l.initial.store (map new_table l.tables)
