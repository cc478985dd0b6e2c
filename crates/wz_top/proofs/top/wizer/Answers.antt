use Rattle.wz_words.specs.Faults.{settings}
use Rattle.wz_top.proofs.StuckLaws.{by_words}
use Rattle.wz_top.proofs.top.wizer.Goals as goal

pub returns-clause-never_stuck : goal.returns-clause-never_stuck
returns-clause-never_stuck g c = by_words c.no_run_is_stuck.ensures (settings c.args.words.now)
