use Rattle.std.proofs.Common.{rules}
use Rattle.wz_num.specs.Number.{number}
use Rattle.wz_num.proofs.PatternLemmas.{sign_of_second}
use Rattle.wz_num.proofs.patterns.two_f32.Goals as goal

pub returns-in-F32Copysign : goal.returns-in-F32Copysign
unfolding number
returns-in-F32Copysign c = search (rules, sign_of_second 31 c.args.a c.args.b c.ranges.b.fits)
