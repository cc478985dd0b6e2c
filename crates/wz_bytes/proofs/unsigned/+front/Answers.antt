use Rattle.std.proofs.Common.{◌<◌, arith}
use Rattle.wz_bytes.proofs.Widths.{scaled, at_most_64}
use Rattle.wz_bytes.proofs.unsigned.+front.Goals as goal

pub overflow_mul-result : goal.overflow_mul-result
overflow_mul-result t c =
    let many : 7 < c.args.bits = omega arith in
    let s = scaled c.args.bits c.in_ok-high.high many c.in_ok-high.ensures.below in
    omega (arith, s, at_most_64 c.args.bits c.requires)

pub overflow_add-result : goal.overflow_add-result
overflow_add-result t c =
    let many : 7 < c.args.bits = omega arith in
    let s = scaled c.args.bits c.in_ok-high.high many c.in_ok-high.ensures.below in
    omega (arith, s, at_most_64 c.args.bits c.requires)

pub returns-clause-below : goal.returns-clause-below
returns-clause-below t c =
    let many : 7 < c.args.bits = omega arith in
    let s = scaled c.args.bits c.in_ok-high.high many c.in_ok-high.ensures.below in
    omega (arith, s)
