use Rattle.wz_words.specs.Settings.{settings_of}
use Rattle.wz_top.proofs.tests.sessions.settings.Goals as goal

pub returns-in-Ok : goal.returns-in-Ok
returns-in-Ok c = c.renames_differ.ensures.to _ (settings_of c.in-Ok.settings) c.in-Ok.ensures.asked
