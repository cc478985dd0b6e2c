use Rattle.std.proofs.Common.{◌≤◌, ◌^◌, ◌-◌, arith}
use Rattle.std.proofs.Math.Pow.{pow_mono}
use Rattle.wz_bytes.proofs.signed.half_of_group.Goals as goal

pub returns-then-bits-ge7 : goal.returns-then-bits-ge7
returns-then-bits-ge7 c =
    let p : 2 ^ 6 ≤ 2 ^ (c.args.bits - 1) = pow_mono (let k : 6 ≤ c.args.bits - 1 = omega arith in k) in
    omega (arith, p)

pub returns-else-bits-ge7 : goal.returns-else-bits-ge7
returns-else-bits-ge7 c =
    let p : 2 ^ (c.args.bits - 1) ≤ 2 ^ 5 = pow_mono (let k : c.args.bits - 1 ≤ 5 = omega arith in k) in
    omega (arith, p)
