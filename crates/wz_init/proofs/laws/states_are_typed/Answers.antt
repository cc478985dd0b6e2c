use Rattle.wz_init.proofs.TypedRuns.{fresh_is_typed, run_is_typed, run_is_never_stuck}
use Rattle.wz_init.proofs.laws.states_are_typed.Goals as goal

pub returns-clause-fresh : goal.returns-clause-fresh
returns-clause-fresh c = fresh_is_typed (record {
  changes = c.typed_states.ensures.changes;
  context = c.typed_states.ensures.context;
  entries = c.typed_terms.ensures.entries;
  steps = c.typed_terms.ensures.steps;
  own_steps = c.steps_add_no_references.ensures.steps;
  own_changes = c.steps_add_no_references.ensures.changes;
  own_entries = c.steps_add_no_references.ensures.entries;
  own_answers = c.steps_add_no_references.ensures.answers;
  own_test = c.steps_add_no_references.ensures.own;
  start = c.valid_items.ensures.start;
  globals = c.valid_items.ensures.globals;
  elements = c.valid_items.ensures.elements;
  functions = record { types = c.valid_functions.ensures.types; bodies = c.valid_functions.ensures.bodies; declared = c.valid_functions.ensures.declared };
})

pub returns-clause-run : goal.returns-clause-run
returns-clause-run c = run_is_typed (record {
  changes = c.typed_states.ensures.changes;
  context = c.typed_states.ensures.context;
  entries = c.typed_terms.ensures.entries;
  steps = c.typed_terms.ensures.steps;
  own_steps = c.steps_add_no_references.ensures.steps;
  own_changes = c.steps_add_no_references.ensures.changes;
  own_entries = c.steps_add_no_references.ensures.entries;
  own_answers = c.steps_add_no_references.ensures.answers;
  own_test = c.steps_add_no_references.ensures.own;
  start = c.valid_items.ensures.start;
  globals = c.valid_items.ensures.globals;
  elements = c.valid_items.ensures.elements;
  functions = record { types = c.valid_functions.ensures.types; bodies = c.valid_functions.ensures.bodies; declared = c.valid_functions.ensures.declared };
})

pub returns-clause-stuck : goal.returns-clause-stuck
returns-clause-stuck c = run_is_never_stuck (record {
  changes = c.typed_states.ensures.changes;
  context = c.typed_states.ensures.context;
  entries = c.typed_terms.ensures.entries;
  steps = c.typed_terms.ensures.steps;
  own_steps = c.steps_add_no_references.ensures.steps;
  own_changes = c.steps_add_no_references.ensures.changes;
  own_entries = c.steps_add_no_references.ensures.entries;
  own_answers = c.steps_add_no_references.ensures.answers;
  own_test = c.steps_add_no_references.ensures.own;
  start = c.valid_items.ensures.start;
  globals = c.valid_items.ensures.globals;
  elements = c.valid_items.ensures.elements;
  functions = record { types = c.valid_functions.ensures.types; bodies = c.valid_functions.ensures.bodies; declared = c.valid_functions.ensures.declared };
})
