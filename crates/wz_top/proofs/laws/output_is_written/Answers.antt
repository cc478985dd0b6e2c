use Rattle.wz_top.proofs.HeadlineLaws.{written}
use Rattle.wz_top.proofs.laws.output_is_written.Goals as goal

pub returns : goal.returns
returns c =
    written c.reached_states.ensures.fresh c.reached_states.ensures.run c.states_are_typed.ensures.run c.chosen_segments.ensures.few
    c.chosen_segments.ensures.ranges c.ranges_of_plan.ensures.rises c.ranges_of_plan.ensures.within c.input_is_spelled.ensures.elements
    c.state_has_types.ensures c.output_is_valid.ensures.valid c.output_is_spelled.ensures c.output_is_valid.ensures.sections
