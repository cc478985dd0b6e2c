use Rattle.std.proofs.Common.{length, ◌∙◌}
use Rattle.wz_module.specs.Views.{init_of}
use Rattle.wz_store.specs.Made.{StoreState}
use Rattle.wz_init.specs.Plain.{table_kinds, element_kinds, plain_elements_run}
use Rattle.wz_init.proofs.BehindLemmas.{there_at}
use Rattle.wz_init.proofs.SegmentLemmas.{elem_ready_along, elements_next, element_run_keeps, table_kinds_kept, element_kinds_kept}
use Rattle.wz_init.proofs.segments.copy_elements.Goals as goal

pub copy_element-requires : goal.copy_element-requires
copy_element-requires g c =
    let e = c.index-elements-index.result in
    let i = c.loop-index.index in
    elem_ready_along (table_kinds c.args.store.now) (table_kinds c.loop-index.store) (element_kinds c.args.store.now) (element_kinds c.loop-index.store) i e
    c.loop-index.invariant.tables c.loop-index.invariant.elements
    (c.requires.ready i e (there_at c.args.elements.now i e c.loop-index-test.true c.index-elements-index.is))

pub loop-index-preserved : goal.loop-index-preserved
loop-index-preserved g c =
    let e = c.index-elements-index.result in
    let i = c.loop-index.index in
    let count = length (init_of e.items) in
    let s = c.loop-index.store in
    let now = c.copy_element.new.store in
    let ran = c.in_ok-copy_element.ensures.copied in
    record {
      goes_on =
          elements_next c.args.elements.now i e s now (plain_elements_run 0 c.args.elements.now c.args.store.now) c.loop-index-test.true c.index-elements-index.is ran
          c.loop-index.invariant.goes_on;
      tables = element_run_keeps (λ (t : StoreState). table_kinds t) (λ change t. table_kinds_kept change t) i count e.mode s now ran ∙ c.loop-index.invariant.tables;
      elements =
          element_run_keeps (λ (t : StoreState). element_kinds t) (λ change t. element_kinds_kept change t) i count e.mode s now ran ∙ c.loop-index.invariant.elements;
    }
