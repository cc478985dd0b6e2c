use Rattle.wz_encode.proofs.WrittenLaws.{number_spelled, section_spelled}
use Rattle.wz_encode.proofs.laws.sections_are_spelled.Goals as goal

pub returns-clause-section : goal.returns-clause-section
returns-clause-section c = section_spelled

pub returns-clause-count : goal.returns-clause-count
returns-clause-count c = number_spelled
