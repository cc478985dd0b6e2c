use Rattle.std.proofs.Common.{arith}
use Rattle.std.proofs.lemmas.Grind.{common_steps}
use Rattle.wz_linear.specs.Bytes.{written, part}
use Rattle.wz_linear.proofs.plain.PlainMemoryLinear.copy.Goals as goal

pub returns-in-Some-Some-clause-copied : goal.returns-in-Some-Some-clause-copied
unfolding written part
returns-in-Some-Some-clause-copied c = grind (arith, common_steps, c.in-Some-Some.ensures, c.in-Some-Some.ensures')
