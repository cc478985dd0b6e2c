use Rattle.wz_rewrite.proofs.StateLemmas.{state_has_types}
use Rattle.wz_rewrite.proofs.laws.state_has_types.Goals as goal

pub returns : goal.returns
returns c = state_has_types
