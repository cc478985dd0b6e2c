use Rattle.wz_valid.proofs.LawLemmas.{first_is_one, valid_has_none, inside_is_not_outside}
use Rattle.wz_valid.proofs.laws.one_cause.Goals as goal

pub returns-clause-first : goal.returns-clause-first
returns-clause-first c = first_is_one

pub returns-clause-valid : goal.returns-clause-valid
returns-clause-valid c = valid_has_none

pub returns-clause-profile : goal.returns-clause-profile
returns-clause-profile c = inside_is_not_outside
