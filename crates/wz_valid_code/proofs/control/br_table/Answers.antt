use Rattle.std.proofs.Common.{reverse, sym, ap, ◌∙◌, Some, true, false}
use Rattle.wz_valid_code.specs.Checking.{Known}
use Rattle.wz_valid_code.proofs.ChooseLemmas.{choose-after-later}
use Rattle.wz_valid_code.proofs.control.br_table.Goals as goal

pub returns-then-not-all_offered : goal.returns-then-not-all_offered
returns-then-not-all_offered c = choose-after-later (reverse c.args.labels.now) c.args.last c.args.numbers.now c.in-Some.types.now c.args.stack.now.items
    c.take_one.new.self.items c.args.stack.now.dead c.take_one.new.self.dead false c.if-not-take_one.ensures.same (sym c.in-Some.ensures) c.if-not-take_one.ensures.taken
    (sym c.if-not-offers.ensures) (sym c.if-not-all_offered.ensures)

pub returns : goal.returns
returns c = choose-after-later (reverse c.args.labels.now) c.args.last c.args.numbers.now c.in-Some.types.now c.args.stack.now.items c.take_one.new.self.items
    c.args.stack.now.dead c.take_one.new.self.dead true c.if-not-take_one.ensures.same (sym c.in-Some.ensures) c.if-not-take_one.ensures.taken (sym c.if-not-offers.ensures)
    (sym c.if-not-all_offered.ensures)
    ∙ ap (λ (x : Known). Some x) (sym c.set_dead.ensures)
