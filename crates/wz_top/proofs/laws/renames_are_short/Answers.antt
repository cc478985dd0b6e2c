use Rattle.wz_top.proofs.RenameSizes.{renames_short}
use Rattle.wz_top.proofs.laws.renames_are_short.Goals as goal

pub returns : goal.returns
returns c = renames_short
