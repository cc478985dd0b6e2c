use Rattle.std.proofs.Common.{ℕ, ◌^◌, ◌<◌, List, [], ◌∷◌, length, sym, ap, subst, ◌∙◌, Some}
use Rattle.std.specs.List.Sorted.{IsNonDecreasing}
use Rattle.std.proofs.lemmas.Result.{IfOk-weaker}
use Rattle.wz_module.specs.declared.items.Span.{Span}
use Rattle.wz_encode.specs.Elements.{LieWithin}
use Rattle.wz_encode.proofs.ElementsWritten.{spans_lie_within}
use Rattle.wz_rewrite.specs.Pieces.{MadePiece}
use Rattle.wz_rewrite.specs.Sources.{source_module, source_state}
use Rattle.wz_rewrite.proofs.SegmentLemmas.{renewed_by_spans, few_spans, dropped_rises}
use Rattle.wz_rewrite.proofs.elements.changed_contents.Goals as goal

pub put_elements-requires-clause-within : goal.put_elements-requires-clause-within
put_elements-requires-clause-within c =
    let found = c.in-Ok.ensures.found in
    subst (λ (spans : List Span). LieWithin (Some c.args.payload.now) spans) (sym c.deref.ensures.value) (spans_lie_within c.args.payload.now found.0 c.in-Ok.spans.items found.1)

pub put_elements-requires-clause-few : goal.put_elements-requires-clause-few
put_elements-requires-clause-few c =
    let found = c.in-Ok.ensures.found in
    subst (λ (spans : List Span). length spans < 2 ^ 32) (sym c.deref.ensures.value) (few_spans c.args.payload.now found.0 c.in-Ok.spans.items found.1)

pub put_elements-requires-clause-rises : goal.put_elements-requires-clause-rises
put_elements-requires-clause-rises c =
    let o = source_state c.args.sources.now in
    subst (λ (ns : List ℕ). IsNonDecreasing ns) (sym (c.deref-2.ensures.value ∙ c.requires.found.dropped))
    (dropped_rises o.empty_elements 0 (source_module c.args.sources.now).elements)

pub returns : goal.returns
returns c =
    let found = c.in-Ok.ensures.found in
    let bytes = renewed_by_spans c.args.payload.now found.0 c.deref.result.now c.in-Ok.spans.items c.deref-2.result.now _ c.deref-3.result.now _ _ _ found.1
    c.deref.ensures.value (c.deref-2.ensures.value ∙ c.requires.found.dropped) (c.deref-3.ensures.value ∙ c.requires.found.undeclared)
    c.new-bytes.ensures.items c.in_ok-put_elements.ensures.ok in
    IfOk-weaker c.made.result _ _ (λ x h. h ∙ ap (λ (t : List ℕ). Some (MadePiece t ∷ [])) bytes) c.made.ensures
