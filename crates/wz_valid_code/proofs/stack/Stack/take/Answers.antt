use Rattle.std.proofs.Common.{◌-◌, ◌∙◌, arith, rules, ap, sym, reverse, take}
use Rattle.wz_types.specs.declared.types.ValType.TheVariants.{I32}
use Rattle.wz_valid_code.specs.Checking.{after_taking}
use Rattle.wz_valid_code.proofs.TakeLemmas.{take-turn, take-stuck}
use Rattle.wz_valid_code.proofs.stack.Stack.take.Goals as goal

pub loop-left-preserved : goal.loop-left-preserved
loop-left-preserved c =
    let one = c.if-not-take_one.ensures.taken in
    record {
      within = omega arith;
      same = search rules;
      rest = c.loop-left.invariant.rest
          ∙ take-turn c.args.types.now c.loop-left.left I32 c.loop-left.self.items c.take_one.new.self.items c.loop-left.self.dead c.loop-left-test.true
          c.loop-left.invariant.within one
          ∙ ap (λ d. after_taking (reverse (take (c.loop-left.left - 1) c.args.types.now)) c.take_one.new.self.items d) (sym c.if-not-take_one.ensures.same);
    }

pub returns-then-not-take_one-clause-taken : goal.returns-then-not-take_one-clause-taken
returns-then-not-take_one-clause-taken c =
    c.loop-left.invariant.rest ∙ take-stuck c.args.types.now c.loop-left.left I32 c.loop-left.self.items c.loop-left.self.dead c.loop-left-test.true
    c.loop-left.invariant.within c.if-not-take_one.ensures.taken
