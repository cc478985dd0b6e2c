use Rattle.std.proofs.Common.{arith}
use Rattle.std.specs.Prelude.{length}
use Rattle.wz_bytes.specs.Shortest.{shortest_unsigned}
use Rattle.wz_encode.specs.Exports.{export_text}
use Rattle.wz_rewrite.proofs.ExportLemmas.{export_more, export_there}
use Rattle.wz_rewrite.proofs.made.export_bytes.Goals as goal
use Rattle.wz_rewrite.proofs.made.export_bytes.Goals.{in-Some+in_ok-put_export, in_default}

pub loop-at-preserved : goal.loop-at-preserved
loop-at-preserved c =
    let entries = c.args.kept.now.entries in
    elim c.match-entry.branch [
      | in-Some+in_ok-put_export w ↦
          export_more (λ e. export_text e.name e.target) entries c.loop-at.at _ (shortest_unsigned (length entries)) c.loop-at.bytes.items c.match-entry.bytes.items
          w.in-Some.ensures c.loop-at.invariant (rw w.bytes-is w.in_ok-put_export.ensures.ok)
      | in_default w ↦ export_there entries c.loop-at.at w.in_default.ensures (omega arith)
    ]
