use Rattle.wz_encode.proofs.ElementsWritten.{spans_lie_within, spans_cover_segments, declaration_is_spelled, elements_are_spelled}
use Rattle.wz_encode.proofs.laws.elements_are_spelled.Goals as goal

pub returns-clause-within : goal.returns-clause-within
returns-clause-within c = spans_lie_within

pub returns-clause-cover : goal.returns-clause-cover
returns-clause-cover c = spans_cover_segments

pub returns-clause-declaration : goal.returns-clause-declaration
returns-clause-declaration c = declaration_is_spelled

pub returns-clause-elements : goal.returns-clause-elements
returns-clause-elements c = elements_are_spelled
