use Rattle.std.proofs.Common.{◌≡◌, ◌≤◌, map, take, length}
use Rattle.wz_module.specs.Views.{import_of}
use Rattle.wz_valid.specs.Indices.{imported_memories}
use Rattle.wz_valid.proofs.item_rules.memory_count.Given as goal

abbrev pub invariant-loop-import : goal.invariant-loop-import
invariant-loop-import l = (l.count ≡ length (imported_memories (take l.import-index (map import_of l.imports)))) × (l.count ≤ l.import-index)
