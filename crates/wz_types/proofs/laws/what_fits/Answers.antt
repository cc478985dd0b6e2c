use Rattle.wz_types.proofs.FitsLemmas.{fits_exactly, all_fit_have_types}
use Rattle.wz_types.proofs.laws.what_fits.Goals as goal

pub returns-clause-exactly : goal.returns-clause-exactly
returns-clause-exactly c = fits_exactly

pub returns-clause-all : goal.returns-clause-all
returns-clause-all c = all_fit_have_types
