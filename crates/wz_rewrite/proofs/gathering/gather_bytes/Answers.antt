use Rattle.std.proofs.Common.{◌≤◌, ◌+◌, length, take, arith, rules}
use Rattle.wz_rewrite.proofs.GatheringLemmas.{gathers_step, fails_step, on_err, copied, piece_is, piece_length}
use Rattle.wz_rewrite.proofs.gathering.gather_bytes.Goals as goal

pub returns-in_err-waiting-clause-failed : goal.returns-in_err-waiting-clause-failed
returns-in_err-waiting-clause-failed g c =
    let bytes = c.args.bytes.now in
    let done = c.loop-done.done in
    let count = c.min-count.result in
    let within : done + count ≤ length bytes = omega arith in
    let is = copied c.loop-done.waiting count _ _ _ c.copy_in.ensures (piece_length bytes done count within) in
    on_err c.from_residual.result
    (fails_step (take c.args.filled c.args.buffer.now) bytes _ _ _ done count _ _ _ c.loop-done.invariant.gathered is (piece_is bytes done count) c.in_err-waiting.ensures.failed)

pub loop-done-preserved : goal.loop-done-preserved
loop-done-preserved g c =
    let bytes = c.args.bytes.now in
    let done = c.loop-done.done in
    let count = c.min-count.result in
    let within : done + count ≤ length bytes = omega arith in
    let is = copied c.loop-done.waiting count _ _ _ c.copy_in.ensures (piece_length bytes done count within) in
    record {
      room = search rules;
      within = within;
      gathered =
          gathers_step (take c.args.filled c.args.buffer.now) bytes _ _ _ _ done count _ _ _ c.loop-done.invariant.gathered is (piece_is bytes done count) c.in_ok-waiting.ensures.gathered;
    }
