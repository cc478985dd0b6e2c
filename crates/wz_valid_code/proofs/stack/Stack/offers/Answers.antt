use Rattle.std.proofs.Common.{◌<◌, ◌∙◌, ap, sym, arith, reverse, take}
use Rattle.std.specs.Prelude.{is_some}
use Rattle.wz_types.specs.declared.types.ValType.TheVariants.{I32}
use Rattle.wz_valid_code.specs.Checking.{after_taking}
use Rattle.wz_valid_code.proofs.TakeLemmas.{offer-empty, offer-turn, offer-stuck}
use Rattle.wz_valid_code.proofs.stack.Stack.offers.Goals as goal

pub returns-then-below-eq0 : goal.returns-then-below-eq0
returns-then-below-eq0 c =
    rw (← c.self.view_is) (sym (c.loop-left.invariant.rest
    ∙ ap (λ n. is_some (after_taking (reverse (take c.loop-left.left c.args.types.now)) (reverse (take n c.self.inside.items.items)) c.self.inside.dead)) c.if-below-eq0.true
    ∙ offer-empty c.args.types.now c.loop-left.left c.self.inside.dead c.loop-left-test.true c.loop-left.invariant.within))

pub returns-then-not-does_fit : goal.returns-then-not-does_fit
returns-then-not-does_fit c =
    let more : 0 < c.loop-left.below = omega arith in
    rw (← c.self.view_is) (sym (c.loop-left.invariant.rest
    ∙ ap is_some (offer-stuck c.args.types.now c.loop-left.left c.self.inside.items.items c.loop-left.below c.self.inside.dead c.loop-left-test.true
    c.loop-left.invariant.within more c.loop-left.invariant.under I32 c.index.result.now c.index.ensures (sym c.if-not-does_fit.ensures))))

pub loop-left-preserved : goal.loop-left-preserved
loop-left-preserved c =
    let more : 0 < c.loop-left.below = omega arith in
    record {
      within = omega arith;
      under = omega arith;
      rest = c.loop-left.invariant.rest
          ∙ ap is_some (offer-turn c.args.types.now c.loop-left.left c.self.inside.items.items c.loop-left.below c.self.inside.dead c.loop-left-test.true
          c.loop-left.invariant.within more c.loop-left.invariant.under I32 c.index.result.now c.index.ensures (sym c.if-not-does_fit.ensures));
    }
