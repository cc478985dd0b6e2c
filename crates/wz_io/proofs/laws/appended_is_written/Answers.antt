use Rattle.wz_io.proofs.ToldLemmas.{with_more_output-with_output}
use Rattle.wz_io.proofs.laws.appended_is_written.Goals as goal

pub returns : goal.returns
returns c = with_more_output-with_output
