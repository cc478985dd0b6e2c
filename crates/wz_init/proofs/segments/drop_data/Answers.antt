use Rattle.wz_init.proofs.SegmentLemmas.{data_dropped}
use Rattle.wz_init.proofs.segments.drop_data.Goals as goal

pub returns : goal.returns
returns g c =
    let done = c.empty_segment-found in
    data_dropped c.args.store.now done.new.self c.args.index done.result done.ensures.found done.ensures.changed done.ensures.missing
