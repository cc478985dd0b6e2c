use Rattle.std.proofs.Common.{ℕ, ◌≤◌, ◌+◌, take, ap, ◌∙◌, arith, rules, refl}
use Rattle.wz_linear.specs.Bytes.{part}
use Rattle.wz_rewrite.proofs.GatheringLemmas.{gathers_step, fails_step, gathers_last, on_err, part_piece, length-part}
use Rattle.wz_rewrite.proofs.gathering.gather_range.Goals as goal

pub returns-in_err-waiting-clause-failed : goal.returns-in_err-waiting-clause-failed
returns-in_err-waiting-clause-failed g c =
    let memory = g.M.Linear.contents c.args.memory.now in
    let done = c.loop-done.done in
    let count = c.min-count.result in
    let within : done + count ≤ c.args.len = omega arith in
    let place = ap (λ (n : ℕ). part memory (n + done) count) c.from.ensures in
    on_err c.from_residual.result
    (fails_step (take c.args.filled c.args.buffer.now) (part memory c.args.at c.args.len) _ _ _ done count _ _ _ c.loop-done.invariant.gathered c.read_in.ensures
    (place ∙ part_piece memory c.args.at c.args.len done count within) c.in_err-waiting.ensures.failed)

pub loop-done-preserved : goal.loop-done-preserved
loop-done-preserved g c =
    let memory = g.M.Linear.contents c.args.memory.now in
    let done = c.loop-done.done in
    let count = c.min-count.result in
    let within : done + count ≤ c.args.len = omega arith in
    let place = ap (λ (n : ℕ). part memory (n + done) count) c.from.ensures in
    record {
      room = search rules;
      size = refl;
      within = within;
      gathered =
          gathers_step (take c.args.filled c.args.buffer.now) (part memory c.args.at c.args.len) _ _ _ _ done count _ _ _ c.loop-done.invariant.gathered c.read_in.ensures
          (place ∙ part_piece memory c.args.at c.args.len done count within) c.in_ok-waiting.ensures.gathered;
    }

pub returns-clause-gathered : goal.returns-clause-gathered
returns-clause-gathered g c =
    let memory = g.M.Linear.contents c.args.memory.now in
    let size = length-part memory c.args.at c.args.len c.requires.within in
    gathers_last (take c.args.filled c.args.buffer.now) (part memory c.args.at c.args.len) _ c.loop-done.done _ _ (omega (arith, size)) c.loop-done.invariant.gathered
