use Rattle.wz_types.proofs.FitsLemmas.{zero_fits, zeros_fit}
use Rattle.wz_types.proofs.laws.default_values_fit.Goals as goal

pub returns-clause-one : goal.returns-clause-one
returns-clause-one c = zero_fits

pub returns-clause-all : goal.returns-clause-all
returns-clause-all c = zeros_fit
