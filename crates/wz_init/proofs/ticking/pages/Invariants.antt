use Rattle.std.proofs.Common.{◌≡◌, ◌*◌, ◌≤◌, take}
use Rattle.wz_store.specs.State.{pages_together}
use Rattle.wz_init.proofs.ticking.pages.Given as goal

abbrev pub invariant-loop-index : goal.invariant-loop-index
invariant-loop-index g l = record { so_far : l.pages ≡ pages_together (take l.index l.store.memories); few : l.pages ≤ l.index * 4294967296 }
