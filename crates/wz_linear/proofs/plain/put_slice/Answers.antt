use Rattle.std.proofs.Common.{arith}
use Rattle.std.proofs.lemmas.Grind.{common_steps}
use Rattle.wz_linear.specs.Bytes.{written}
use Rattle.wz_linear.proofs.plain.put_slice.Goals as goal

pub returns : goal.returns
unfolding written
returns c = grind (arith, common_steps)
