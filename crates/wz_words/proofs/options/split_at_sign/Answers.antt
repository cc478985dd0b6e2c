use Rattle.wz_words.proofs.HalvesLaws.{halves_split}
use Rattle.wz_words.proofs.options.split_at_sign.Goals as goal

pub returns : goal.returns
returns c = halves_split _ _ c.split_once.ensures.cases
