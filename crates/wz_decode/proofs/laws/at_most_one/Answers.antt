use Rattle.wz_decode.proofs.OneModule.{one_module}
use Rattle.wz_decode.proofs.laws.at_most_one.Goals as goal

pub returns : goal.returns
returns c = one_module
