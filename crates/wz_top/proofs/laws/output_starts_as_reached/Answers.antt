use Rattle.wz_top.proofs.FreshLaws.{output_starts_as_reached}
use Rattle.wz_top.proofs.laws.output_starts_as_reached.Goals as goal

pub returns : goal.returns
returns c =
    output_starts_as_reached c.valid_items.ensures.globals c.valid_items.ensures.elements c.ranges_of_plan.ensures.covers
    c.chosen_segments.ensures.ranges
