use Rattle.wz_io.proofs.ToldLemmas.{writes-joined}
use Rattle.wz_io.proofs.laws.writes_are_joined.Goals as goal

pub returns : goal.returns
returns c = writes-joined
