use Rattle.wz_decode_sections.proofs.PayloadLaws.{spans_are_of_all}
use Rattle.wz_decode_sections.proofs.laws.elements_are_split.Goals as goal

pub returns-clause-spans : goal.returns-clause-spans
returns-clause-spans c = spans_are_of_all
