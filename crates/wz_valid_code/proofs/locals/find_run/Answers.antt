use Rattle.std.proofs.Common.{◌≡◌, ◌<◌, length, get_or, subst, arith, ℕ}
use Rattle.wz_valid_code.proofs.RunLemmas.{run-found}
use Rattle.wz_valid_code.proofs.locals.find_run.Goals as goal

pub returns : goal.returns
returns c =
    let inv = c.loop-low.invariant in
    let same : c.loop-low.high ≡ c.loop-low.low = omega (arith, c.loop-low.invariant.ordered, c.loop-low-test.false) in
    let P : ℕ → Type 0 = λ n. n < length c.args.ends.now → c.args.place < get_or c.args.ends.now n 0 in
    run-found c.args.place c.args.ends.now c.loop-low.low (omega (arith, c.loop-low.invariant.ordered, c.loop-low.invariant.within)) c.loop-low.invariant.below
    (subst P same c.loop-low.invariant.above)
