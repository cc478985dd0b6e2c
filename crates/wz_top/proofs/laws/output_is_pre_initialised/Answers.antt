use Rattle.wz_top.proofs.HeadlineLaws.{pre_initialised}
use Rattle.wz_top.proofs.laws.output_is_pre_initialised.Goals as goal

pub returns : goal.returns
returns c =
    pre_initialised c.states_are_typed.ensures.run c.output_is_written.ensures c.output_starts_as_reached.ensures c.typed_states.ensures.segments
    c.more_segments_are_not_seen.ensures.session c.sessions_are_never_stuck.ensures.fresh c.never_stuck.ensures.sessions
