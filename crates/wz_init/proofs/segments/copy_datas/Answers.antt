use Rattle.std.proofs.Common.{length, ◌∙◌}
use Rattle.wz_store.specs.Made.{StoreState}
use Rattle.wz_init.specs.Plain.{plain_datas_run}
use Rattle.wz_init.proofs.BehindLemmas.{there_at}
use Rattle.wz_init.proofs.SegmentLemmas.{data_ready_along, datas_next, data_run_keeps, memories_kept, datas_kept}
use Rattle.wz_init.proofs.segments.copy_datas.Goals as goal

pub copy_data-requires : goal.copy_data-requires
copy_data-requires g c =
    let d = c.index-segments-index.result in
    let i = c.loop-index.index in
    data_ready_along (length c.args.store.now.memories) (length c.loop-index.store.memories) (length c.args.store.now.datas) (length c.loop-index.store.datas) i d
    c.loop-index.invariant.memories c.loop-index.invariant.datas
    (c.requires.ready i d (there_at c.args.segments.now i d c.loop-index-test.true c.index-segments-index.is))

pub loop-index-preserved : goal.loop-index-preserved
loop-index-preserved g c =
    let d = c.index-segments-index.result in
    let i = c.loop-index.index in
    let count = length d.bytes.now in
    let s = c.loop-index.store in
    let now = c.copy_data.new.store in
    let ran = c.in_ok-copy_data.ensures.copied in
    record {
      goes_on =
          datas_next c.args.segments.now i d s now (plain_datas_run 0 c.args.segments.now c.args.store.now) c.loop-index-test.true c.index-segments-index.is ran
          c.loop-index.invariant.goes_on;
      memories = data_run_keeps (λ (t : StoreState). length t.memories) (λ change t. memories_kept change t) i count d.mode s now ran ∙ c.loop-index.invariant.memories;
      datas = data_run_keeps (λ (t : StoreState). length t.datas) (λ change t. datas_kept change t) i count d.mode s now ran ∙ c.loop-index.invariant.datas;
    }
