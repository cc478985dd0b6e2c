use Rattle.wz_io.proofs.ToldLemmas.{writes-with_output}
use Rattle.wz_io.proofs.laws.writes_are_written.Goals as goal

pub returns : goal.returns
returns c = writes-with_output
