use Rattle.wz_exports.proofs.tests.settings.Goals as goal

pub returns-in-Ok : goal.returns-in-Ok
returns-in-Ok c = c.renames_differ.ensures.to _ _ c.in-Ok.ensures.asked
