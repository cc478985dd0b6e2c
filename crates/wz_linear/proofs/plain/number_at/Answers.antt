use Rattle.std.proofs.Common.{◌≡◌, arith, ap}
use Rattle.wz_linear.specs.Bytes.{number_of, part}
use Rattle.wz_linear.proofs.BytesLemmas.{number_at_1, number_at_2, number_at_4, number_at_8}
use Rattle.wz_linear.proofs.plain.number_at.Goals as goal

pub returns-in-1-clause-number : goal.returns-in-1-clause-number
returns-in-1-clause-number c = omega (arith, number_at_1 c.args.bytes.now c.args.at (omega arith), ap (λ n. number_of (part c.args.bytes.now c.args.at n)) c.in-1.is)

pub returns-in-2-clause-number : goal.returns-in-2-clause-number
returns-in-2-clause-number c = omega (arith, number_at_2 c.args.bytes.now c.args.at (omega arith), ap (λ n. number_of (part c.args.bytes.now c.args.at n)) c.in-2.is)

pub returns-in-4-clause-number : goal.returns-in-4-clause-number
returns-in-4-clause-number c = omega (arith, number_at_4 c.args.bytes.now c.args.at (omega arith), ap (λ n. number_of (part c.args.bytes.now c.args.at n)) c.in-4.is)

pub returns-in_default-clause-number : goal.returns-in_default-clause-number
returns-in_default-clause-number c =
    let e : c.args.width ≡ 8 = grind arith in
    omega (arith, number_at_8 c.args.bytes.now c.args.at (omega arith), ap (λ n. number_of (part c.args.bytes.now c.args.at n)) e)
