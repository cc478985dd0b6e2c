use Rattle.std.proofs.Common.{◌≤◌, ◌^◌, arith}
use Rattle.std.proofs.Math.Pow.{pow_mono}
use Rattle.wz_valid_code.proofs.memory.is_aligned.Goals as goal

pub returns-else-align-lt32 : goal.returns-else-align-lt32
returns-else-align-lt32 c =
    let more : 2 ^ 32 ≤ 2 ^ c.args.align = pow_mono {i = 32} {j = c.args.align} (omega arith) in
    grind (arith, more)
