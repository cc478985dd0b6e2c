use Rattle.wz_types.proofs.SameTypeLemmas.{same_type_law, same_kind_law, same_types_law, same_function_type_law}
use Rattle.wz_types.proofs.laws.same_types_are_equal.Goals as goal

pub returns-clause-type_ : goal.returns-clause-type_
returns-clause-type_ c = same_type_law

pub returns-clause-kind : goal.returns-clause-kind
returns-clause-kind c = same_kind_law

pub returns-clause-types : goal.returns-clause-types
returns-clause-types c = same_types_law

pub returns-clause-function_type : goal.returns-clause-function_type
returns-clause-function_type c = same_function_type_law
