use Rattle.std.proofs.Common.{ℕ, List, length, refl, ap, arith}
use Rattle.wz_module.specs.Views.{elem_of}
use Rattle.wz_decode_sections.proofs.SpanLemmas.{segment_within, rest_within}
use Rattle.wz_decode_sections.proofs.spans.take_span.Goals as goal

pub overflow_sub-result-3 : goal.overflow_sub-result-3
overflow_sub-result-3 c =
    let segment = segment_within c.in-Some.flag c.args.cursor.now.left _ _ (elem_of c.in_ok-_elem._elem) c.in-Some.ensures.exact.0 c.in_ok-_elem.ensures.ok in
    let left = ap (λ (l : List ℕ). length l) c.left-left.ensures in
    let end = ap (λ (l : List ℕ). length l) c.left-end.ensures in
    omega (arith, left, end, rest_within _ _ _ segment)

pub returns-clause-ok : goal.returns-clause-ok
returns-clause-ok c = record {
  elem = elem_of c.in_ok-_elem._elem;
  flag = c.in-Some.flag;
  behind = c.number.new.self.left;
  segment = segment_within c.in-Some.flag c.args.cursor.now.left _ _ (elem_of c.in_ok-_elem._elem) c.in-Some.ensures.exact.0 c.in_ok-_elem.ensures.ok;
  tag = c.in-Some.ensures.exact.0;
  is = rw (c.left-left.ensures, c.left-behind.ensures, c.left-end.ensures) refl;
}
