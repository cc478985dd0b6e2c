use Rattle.wz_rewrite.proofs.ValidLemmas.{output_is_valid}
use Rattle.wz_rewrite.proofs.StartLemmas.{has_no_start_section}
use Rattle.wz_rewrite.proofs.laws.output_is_valid.Goals as goal

pub returns-clause-valid : goal.returns-clause-valid
returns-clause-valid c = output_is_valid c.references_are_found.ensures

pub returns-clause-sections : goal.returns-clause-sections
returns-clause-sections c = has_no_start_section
