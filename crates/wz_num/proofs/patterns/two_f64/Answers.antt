use Rattle.std.proofs.Common.{rules}
use Rattle.wz_num.specs.Number.{number}
use Rattle.wz_num.proofs.PatternLemmas.{sign_of_second}
use Rattle.wz_num.proofs.patterns.two_f64.Goals as goal

pub returns-in-F64Copysign : goal.returns-in-F64Copysign
unfolding number
returns-in-F64Copysign c = search (rules, sign_of_second 63 c.args.a c.args.b c.ranges.b.fits)
