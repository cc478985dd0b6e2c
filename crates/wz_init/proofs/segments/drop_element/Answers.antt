use Rattle.wz_init.proofs.SegmentLemmas.{element_dropped}
use Rattle.wz_init.proofs.segments.drop_element.Goals as goal

pub returns : goal.returns
returns g c =
    let done = c.empty_element-found in
    element_dropped c.args.store.now done.new.self c.args.index done.result done.ensures.found done.ensures.changed done.ensures.missing
