use Rattle.std.proofs.Common.{arith}
use Rattle.wz_store.specs.State.{memory_type_of}
use Rattle.wz_snapshot.proofs.ListLemmas.{read_one, read_none}
use Rattle.wz_snapshot.proofs.parts.memory_pages.Goals as goal
use Rattle.wz_snapshot.proofs.parts.memory_pages.Goals.{in-Some+in_ok-push, in_default}

pub loop-at-preserved : goal.loop-at-preserved
loop-at-preserved g c =
    let xs = c.args.store.now.memories in
    let i = c.loop-at.at in
    elim c.match-memory_type.branch [
      | in-Some+in_ok-push w ↦ read_one memory_type_of (λ kind. kind.limits.min) xs i w.in-Some.kind c.loop-at.pages.items c.match-memory_type.pages.items c.loop-at.invariant
          w.in-Some.ensures (rw w.pages-is w.in_ok-push.ensures.items)
      | in_default w ↦ read_none memory_type_of xs i w.in_default.ensures (omega arith)
    ]
