use Rattle.std.proofs.Common.{◌≡◌, ◌-◌, ◌+◌, ◌++◌, List, [], length, take, drop, ap, sym, ◌∙◌, arith}
use Rattle.wz_types.specs.declared.value.Value.{Value}
use Rattle.wz_machine.proofs.RunLemmas.{items_written, IsRun, run_lands_at}
use Rattle.wz_machine.proofs.stacks.Stacks.run.Goals as goal

pub invariant_of-self-2 : goal.invariant_of-self-2
invariant_of-self-2 g c =
    let i = c.self.inside in
    let whole = c.deref_mut.ensures.value in
    let items = c.make_room.new.values.items in
    let new = c.run_in-halt.new.values in
    let made = c.args.limit - c.run_in-halt.result.left in
    let rest = c.run_in-halt.result.rest.now in
    let end = i.top.height + c.run_in-halt.result.have in
    let size : length new ≡ length items = c.run_in-halt.auto.values ∙ ap length whole in
    let written : take c.make_room.new.values.len (new ++ drop (length new) items) ≡ new =
    items_written items new c.make_room.new.values.len size (sym c.deref_mut.ensures.len ∙ ap length whole) in
    let run : IsRun i c.deref_mut.result.now new made c.run_in-halt.result.have c.args.store.now c.run_in-halt.new.store rest = record {
      used = c.self.invariant.used;
      stacked = c.self.invariant.stacked;
      held = ap (λ (vs : List Value). take i.have vs) whole ∙ c.make_room.ensures.kept;
      fits = omega (arith, ap length whole, c.make_room.ensures.longer, c.self.invariant.used);
      apart = c.run_in-halt.ensures.apart;
      laps = c.run_in-halt.ensures.ran;
    } in
    record {
      used = omega (arith, c.run_in-halt.ensures.room, ap length written);
      stacked = (run_lands_at [] c.args.self.now i c.deref_mut.result.now new made c.run_in-halt.result.have c.args.store.now c.run_in-halt.new.store rest
          (take end (take c.make_room.new.values.len (new ++ drop (length new) items))) c.self.view_is run
          (ap (λ (vs : List Value). take end vs) (sym written))).stacked;
    }

pub returns-clause-ran : goal.returns-clause-ran
returns-clause-ran g c bodies =
    let i = c.self.inside in
    let whole = c.deref_mut.ensures.value in
    let items = c.make_room.new.values.items in
    let new = c.run_in-halt.new.values in
    let made = c.args.limit - c.run_in-halt.result.left in
    let rest = c.run_in-halt.result.rest.now in
    let end = i.top.height + c.run_in-halt.result.have in
    let size : length new ≡ length items = c.run_in-halt.auto.values ∙ ap length whole in
    let written : take c.make_room.new.values.len (new ++ drop (length new) items) ≡ new =
    items_written items new c.make_room.new.values.len size (sym c.deref_mut.ensures.len ∙ ap length whole) in
    let run : IsRun i c.deref_mut.result.now new made c.run_in-halt.result.have c.args.store.now c.run_in-halt.new.store rest = record {
      used = c.self.invariant.used;
      stacked = c.self.invariant.stacked;
      held = ap (λ (vs : List Value). take i.have vs) whole ∙ c.make_room.ensures.kept;
      fits = omega (arith, ap length whole, c.make_room.ensures.longer, c.self.invariant.used);
      apart = c.run_in-halt.ensures.apart;
      laps = c.run_in-halt.ensures.ran;
    } in
    (run_lands_at bodies c.args.self.now i c.deref_mut.result.now new made c.run_in-halt.result.have c.args.store.now c.run_in-halt.new.store rest
    (take end (take c.make_room.new.values.len (new ++ drop (length new) items))) c.self.view_is run (ap (λ (vs : List Value). take end vs) (sym written))).reaches
