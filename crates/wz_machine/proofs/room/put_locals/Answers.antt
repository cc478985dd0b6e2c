use Rattle.std.proofs.Common.{arith}
use Rattle.wz_machine.proofs.RoomLemmas.{put-next, front-kept}
use Rattle.wz_machine.proofs.room.put_locals.Goals as goal

pub returns-in_err-now-clause-kept : goal.returns-in_err-now-clause-kept
returns-in_err-now-clause-kept c = front-kept _ c.loop-run.now _ c.loop-run.values.items _ c.loop-run.invariant.rises c.in_err-now.ensures.kept c.loop-run.invariant.kept

pub loop-run-preserved : goal.loop-run-preserved
loop-run-preserved c = record {
  used = c.in_ok-now.ensures.used.1;
  rises = omega (arith, c.in_ok-now.ensures.used.0);
  put = put-next c.args.runs.now c.loop-run.run-index _ _ _ _ c.loop-run-test.true c.in_ok-now.ensures.put c.loop-run.invariant.put;
  kept = front-kept _ c.loop-run.now _ c.loop-run.values.items _ c.loop-run.invariant.rises c.in_ok-now.ensures.kept c.loop-run.invariant.kept;
  longer = omega (arith, c.in_ok-now.ensures.longer);
}
