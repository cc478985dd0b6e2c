use Rattle.std.proofs.Common.{◌≡◌, ◌≤◌, ◌+◌, ◌-◌, inl, refl, subst, arith}
use Rattle.wz_machine.specs.State.{state_of}
use Rattle.wz_machine.specs.Stacks.{stacks_term}
use Rattle.wz_machine.specs.Advance.{Reaches}
use Rattle.wz_machine.proofs.AdvanceLemmas.{reaches_left, reaches_more, reaches_entry, reaches_halt, part_made, on_err}
use Rattle.wz_machine.proofs.stacks.Stacks.advance.Goals as goal

pub returns-then-left-eq0-clause-advanced : goal.returns-then-left-eq0-clause-advanced
returns-then-left-eq0-clause-advanced g c =
    let bodies = c.args.bodies.now in
    let first = state_of bodies c.args.store.now in
    let term = stacks_term c.args.self.now in
    let made = c.args.limit - c.in_ok-spare.spare in
    let both : Reaches made first term (state_of bodies c.run.new.store) (stacks_term c.run.new.self) =
    reaches_left c.args.limit c.loop-left.left c.in_ok-spare.spare first (state_of bodies c.loop-left.store) (state_of bodies c.run.new.store) term
    (stacks_term c.loop-left.self) (stacks_term c.run.new.self) c.loop-left.invariant.few c.in_ok-spare.ensures.limited c.loop-left.invariant.ran (c.in_ok-spare.ensures.ran bodies) in
    let all : made ≡ c.args.limit = omega (arith, c.in_ok-spare.ensures.limited) in
    (subst (λ k. Reaches k first term (state_of bodies c.run.new.store) (stacks_term c.run.new.self)) all both, inl refl)

pub returns-in-Halts-clause-advanced : goal.returns-in-Halts-clause-advanced
returns-in-Halts-clause-advanced g c =
    let bodies = c.args.bodies.now in
    let first = state_of bodies c.args.store.now in
    let term = stacks_term c.args.self.now in
    let made = c.args.limit - c.in_ok-spare.spare in
    let both : Reaches made first term (state_of bodies c.run.new.store) (stacks_term c.run.new.self) =
    reaches_left c.args.limit c.loop-left.left c.in_ok-spare.spare first (state_of bodies c.loop-left.store) (state_of bodies c.run.new.store) term
    (stacks_term c.loop-left.self) (stacks_term c.run.new.self) c.loop-left.invariant.few c.in_ok-spare.ensures.limited c.loop-left.invariant.ran (c.in_ok-spare.ensures.ran bodies) in
    let stepped = rw c.in-Halts.is at c.in_ok-onward.ensures.stepped in
    reaches_halt made c.args.limit first (state_of bodies c.run.new.store) (state_of bodies c.onward.new.store) term (stacks_term c.run.new.self)
    (stacks_term c.onward.new.self) both stepped

pub returns-in-Entered-clause-advanced : goal.returns-in-Entered-clause-advanced
returns-in-Entered-clause-advanced g c =
    let bodies = c.args.bodies.now in
    let first = state_of bodies c.args.store.now in
    let term = stacks_term c.args.self.now in
    let made = c.args.limit - c.in_ok-spare.spare in
    let both : Reaches made first term (state_of bodies c.run.new.store) (stacks_term c.run.new.self) =
    reaches_left c.args.limit c.loop-left.left c.in_ok-spare.spare first (state_of bodies c.loop-left.store) (state_of bodies c.run.new.store) term
    (stacks_term c.loop-left.self) (stacks_term c.run.new.self) c.loop-left.invariant.few c.in_ok-spare.ensures.limited c.loop-left.invariant.ran (c.in_ok-spare.ensures.ran bodies) in
    let stepped = rw c.in-Entered.is at c.in_ok-onward.ensures.stepped in
    reaches_entry made (made + 1) first (state_of bodies c.run.new.store) (state_of bodies c.onward.new.store) term (stacks_term c.run.new.self)
    (stacks_term c.onward.new.self) refl both stepped.0 stepped.1

pub loop-left-preserved : goal.loop-left-preserved
loop-left-preserved g c =
    let bodies = c.args.bodies.now in
    let first = state_of bodies c.args.store.now in
    let term = stacks_term c.args.self.now in
    let made = c.args.limit - c.in_ok-spare.spare in
    let both : Reaches made first term (state_of bodies c.run.new.store) (stacks_term c.run.new.self) =
    reaches_left c.args.limit c.loop-left.left c.in_ok-spare.spare first (state_of bodies c.loop-left.store) (state_of bodies c.run.new.store) term
    (stacks_term c.loop-left.self) (stacks_term c.run.new.self) c.loop-left.invariant.few c.in_ok-spare.ensures.limited c.loop-left.invariant.ran (c.in_ok-spare.ensures.ran bodies) in
    let stepped = rw c.in-Went.is at c.in_ok-onward.ensures.stepped in
    record {
      few = omega (arith, c.in_ok-spare.ensures.limited);
      ran =
          reaches_more made (c.args.limit - (c.in_ok-spare.spare - 1)) first (state_of bodies c.run.new.store)
          (state_of bodies c.onward.new.store) term (stacks_term c.run.new.self) (stacks_term c.onward.new.self) (omega (arith, c.in_ok-spare.ensures.limited)) both stepped.0 stepped.1;
    }

pub returns-in_err-spare-clause-refused : goal.returns-in_err-spare-clause-refused
returns-in_err-spare-clause-refused g c =
    let bodies = c.args.bodies.now in
    on_err c.from_residual.result
    (part_made bodies (c.args.limit - c.loop-left.left) c.args.limit (state_of bodies c.args.store.now) (stacks_term c.args.self.now) c.loop-left.store c.run.new.store c.loop-left.self
    c.run.new.self (omega arith) c.loop-left.invariant.ran c.in_err-spare.ensures.refused c.in_err-spare.ensures.kept)

pub returns-in_err-onward-clause-refused : goal.returns-in_err-onward-clause-refused
returns-in_err-onward-clause-refused g c =
    let bodies = c.args.bodies.now in
    let first = state_of bodies c.args.store.now in
    let term = stacks_term c.args.self.now in
    let made = c.args.limit - c.in_ok-spare.spare in
    let both : Reaches made first term (state_of bodies c.run.new.store) (stacks_term c.run.new.self) =
    reaches_left c.args.limit c.loop-left.left c.in_ok-spare.spare first (state_of bodies c.loop-left.store) (state_of bodies c.run.new.store) term
    (stacks_term c.loop-left.self) (stacks_term c.run.new.self) c.loop-left.invariant.few c.in_ok-spare.ensures.limited c.loop-left.invariant.ran (c.in_ok-spare.ensures.ran bodies) in
    let few : made ≤ c.args.limit = omega (arith, c.in_ok-spare.ensures.limited) in
    on_err c.from_residual-in_err-onward.result
    (part_made bodies made c.args.limit first term c.run.new.store c.onward.new.store c.run.new.self c.onward.new.self few both c.in_err-onward.ensures.refused
    c.in_err-onward.ensures.kept)
