use Rattle.std.proofs.Common.{arith}
use Rattle.wz_snapshot.proofs.ListLemmas.{read_one, read_none}
use Rattle.wz_snapshot.proofs.parts.global_values.Goals as goal
use Rattle.wz_snapshot.proofs.parts.global_values.Goals.{in-Some+in_ok-push, in_default}

pub loop-at-preserved : goal.loop-at-preserved
loop-at-preserved g c =
    let xs = c.args.store.now.globals in
    let i = c.loop-at.at in
    elim c.match-global.branch [
      | in-Some+in_ok-push w ↦ read_one (λ global. global.content) (λ value. value) xs i w.in-Some.value c.loop-at.values.items c.match-global.values.items c.loop-at.invariant
          w.in-Some.ensures (rw w.values-is w.in_ok-push.ensures.items)
      | in_default w ↦ read_none (λ global. global.content) xs i w.in_default.ensures (omega arith)
    ]
