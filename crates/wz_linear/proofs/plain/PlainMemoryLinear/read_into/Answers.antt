use Rattle.std.proofs.Common.{arith}
use Rattle.std.proofs.lemmas.Grind.{common_steps}
use Rattle.wz_linear.specs.Bytes.{part}
use Rattle.wz_linear.proofs.plain.PlainMemoryLinear.read_into.Goals as goal

pub returns-in-Some-clause-copied : goal.returns-in-Some-clause-copied
unfolding part
returns-in-Some-clause-copied c = grind (arith, common_steps)
