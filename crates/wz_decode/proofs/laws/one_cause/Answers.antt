use Rattle.wz_decode.proofs.CauseLaws.{cause_is_one, spelled_has_none}
use Rattle.wz_decode.proofs.laws.one_cause.Goals as goal

pub returns-clause-one : goal.returns-clause-one
returns-clause-one c = cause_is_one

pub returns-clause-spelled : goal.returns-clause-spelled
returns-clause-spelled c = spelled_has_none
