use Rattle.wz_exports.proofs.SettingsLemmas.{renames_apart}
use Rattle.wz_exports.proofs.laws.renames_differ.Goals as goal

pub returns-clause-to : goal.returns-clause-to
returns-clause-to c = λ words s e. (renames_apart words s e).to

pub returns-clause-from : goal.returns-clause-from
returns-clause-from c = λ words s e. (renames_apart words s e).from
