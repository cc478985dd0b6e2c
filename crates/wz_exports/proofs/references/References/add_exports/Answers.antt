use Rattle.std.proofs.Common.{arith}
use Rattle.wz_exports.proofs.RefLemmas.{adds_entry, no_entry}
use Rattle.wz_exports.proofs.references.References.add_exports.Goals as goal
use Rattle.wz_exports.proofs.references.References.add_exports.Goals.{in-Some+in_ok-add_exported_function, in_default}

pub loop-at-preserved : goal.loop-at-preserved
loop-at-preserved c =
    let entries = c.args.kept.now.entries in
    elim c.match-entry.branch [
      | in-Some+in_ok-add_exported_function w ↦
          rw w.self-is
          (adds_entry entries c.loop-at.at _ c.args.self.now.functions.keys c.loop-at.self.functions.keys w.add_exported_function.new.functions.keys w.in-Some.ensures c.loop-at.invariant
          w.in_ok-add_exported_function.ensures)
      | in_default w ↦ no_entry entries c.loop-at.at w.in_default.ensures (omega arith)
    ]
