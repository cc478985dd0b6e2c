use Rattle.std.proofs.Common.{List, ap, sym, ◌∙◌, true, false}
use Rattle.std.specs.Prelude.{Some}
use Rattle.std.specs.FinMap.{get, get-empty}
use Rattle.std.specs.Ordering.{nat_cmp}
use Rattle.std.specs.Cmp.Lexicographic.{slice_cmp}
use Rattle.wz_io.specs.Memory.{contents}
use Rattle.wz_io.proofs.MemoryLemmas.{get-contents, no_entries}
use Rattle.wz_io.proofs.memory.find.Goals as goal

pub loop-entry-init : goal.loop-entry-init
loop-entry-init c = ap (λ es. get (contents es) c.args.path.now) (sym c.into_iter-entry-iterator.ensures.into_iter_gives.0)

pub loop-entry-preserved : goal.loop-entry-preserved
loop-entry-preserved c = c.loop-entry.invariant ∙ get-contents _ _ c.in-Some.entry.now c.args.path.now _ false c.in-Some.ensures.steps c.as_slice.ensures.value c.if-eq.ensures

pub returns-then-eq : goal.returns-then-eq
returns-then-eq c =
    sym (c.loop-entry.invariant
    ∙ get-contents _ _ c.in-Some.entry.now c.args.path.now _ true c.in-Some.ensures.steps c.as_slice.ensures.value c.if-eq.ensures
    ∙ ap (λ (xs : List _). Some xs) (sym c.as_slice-then-eq.ensures.value))

pub returns : goal.returns
returns c =
    sym (c.loop-entry.invariant
    ∙ ap (λ (es : List _). get (contents es) c.args.path.now) (no_entries _ c.in-None.ensures.steps.0)
    ∙ get-empty (slice_cmp nat_cmp) c.args.path.now)
