use Rattle.wz_rewrite.proofs.SpellLaws.{input_spells_elements}
use Rattle.wz_rewrite.proofs.laws.input_is_spelled.Goals as goal

pub returns-clause-elements : goal.returns-clause-elements
returns-clause-elements c = input_spells_elements

pub returns-clause-order : goal.returns-clause-order
returns-clause-order c = λ input m h. h.parts.order
