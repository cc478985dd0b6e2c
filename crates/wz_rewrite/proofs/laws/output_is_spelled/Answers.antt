use Rattle.wz_rewrite.proofs.SpellLaws.{output_spells}
use Rattle.wz_rewrite.proofs.laws.output_is_spelled.Goals as goal

pub returns : goal.returns
returns c = output_spells
