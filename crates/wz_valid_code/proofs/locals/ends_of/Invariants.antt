use Rattle.std.proofs.Common.{◌≡◌, ◌*◌, ◌≤◌, take}
use Rattle.wz_valid_code.specs.Runs.{ends_of}
use Rattle.wz_valid_code.proofs.RunLemmas.{total}
use Rattle.wz_valid_code.proofs.locals.ends_of.Given as goal

abbrev pub invariant-loop-run : goal.invariant-loop-run
invariant-loop-run l = record {
  ends : l.ends.items ≡ ends_of 0 (take l.run-index l.runs);
  end : l.end ≡ total (take l.run-index l.runs);
  small : l.end ≤ l.run-index * 4294967295;
}
