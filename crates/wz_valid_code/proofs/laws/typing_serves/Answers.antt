use Rattle.wz_valid_code.proofs.LawLemmas.{typing_serves}
use Rattle.wz_valid_code.proofs.laws.typing_serves.Goals as goal

pub returns : goal.returns
returns c = typing_serves
