use Rattle.std.proofs.Common.{Bool, [], ◌∷◌, ◌++◌, ap, ◌∙◌, arith}
use Rattle.wz_snapshot.specs.Recorded.{has_no_items}
use Rattle.wz_snapshot.proofs.ListLemmas.{read_one, read_none, read_plain}
use Rattle.wz_snapshot.proofs.parts.empty_data.Goals as goal
use Rattle.wz_snapshot.proofs.parts.empty_data.Goals.{in-Some+in_ok-push, in_default}

pub loop-at-preserved : goal.loop-at-preserved
loop-at-preserved g c =
    let xs = c.args.store.now.datas in
    let i = c.loop-at.at in
    elim c.match-segment.branch [
      | in-Some+in_ok-push w ↦ read_one (λ bytes. bytes) has_no_items xs i w.in-Some.bytes.now c.loop-at.empty.items c.match-segment.empty.items c.loop-at.invariant
          (w.in-Some.ensures ∙ read_plain _) (rw w.empty-is (w.in_ok-push.ensures.items ∙ ap (λ (b : Bool). c.loop-at.empty.items ++ b ∷ []) w.is_empty.ensures))
      | in_default w ↦ read_none (λ bytes. bytes) xs i (w.in_default.ensures ∙ read_plain _) (omega arith)
    ]
