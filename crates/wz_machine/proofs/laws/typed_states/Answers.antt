use Rattle.wz_machine.proofs.StuckChanges.{change_keeps_typing, contents_keep_typing}
use Rattle.wz_machine.proofs.StuckStores.{valid_functions_are_typed}
use Rattle.wz_machine.proofs.TypedLemmas.{typed_names, context_lasts}
use Rattle.wz_machine.proofs.laws.typed_states.Goals as goal

pub returns-clause-segments : goal.returns-clause-segments
returns-clause-segments c = typed_names

pub returns-clause-context : goal.returns-clause-context
returns-clause-context c = context_lasts

pub returns-clause-changes : goal.returns-clause-changes
returns-clause-changes c = change_keeps_typing

pub returns-clause-contents : goal.returns-clause-contents
returns-clause-contents c = contents_keep_typing

pub returns-clause-functions : goal.returns-clause-functions
returns-clause-functions c = valid_functions_are_typed
