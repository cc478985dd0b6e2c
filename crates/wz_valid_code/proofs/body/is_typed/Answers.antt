use Rattle.wz_valid_code.proofs.WaitingLemmas.{turn-refused, turn-after_taking, turn-less}
use Rattle.wz_valid_code.proofs.body.is_typed.Goals as goal

pub returns-then-not-branch : goal.returns-then-not-branch
returns-then-not-branch c = turn-refused c.args.scope.now c.args.body.now c.tree_of_block.ensures c.block_count-kept.ensures.kept.rule.names_rise c.args.scope.now.results
    c.loop-next.labels.items c.loop-next.waiting.items c.pop.new.self.items c.pop.result c.in-Some.next c.pop.ensures.items c.in-Some.is c.loop-next.invariant
    c.in_ok-turn.field-0 c.if-not-branch.true c.in_ok-turn.ensures.led

pub loop-next-smaller : goal.loop-next-smaller
loop-next-smaller c = turn-less c.args.scope.now c.args.body.now c.tree_of_block.ensures c.block_count-kept.ensures.kept.rule.names_rise c.args.scope.now.results
    c.loop-next.labels.items c.loop-next.waiting.items c.pop.new.self.items c.pop.result c.in-Some.next c.pop.ensures.items c.in-Some.is c.loop-next.invariant
    c.in_ok-turn.field-0 c.turn.new.labels.items c.turn.new.waiting.items c.if-not-branch.false c.in_ok-turn.ensures.grown c.in_ok-turn.ensures.within

pub loop-next-preserved : goal.loop-next-preserved
loop-next-preserved c = turn-after_taking c.args.scope.now c.args.body.now c.tree_of_block.ensures c.block_count-kept.ensures.kept.rule.names_rise c.args.scope.now.results
    c.loop-next.labels.items c.loop-next.waiting.items c.pop.new.self.items c.pop.result c.in-Some.next c.pop.ensures.items c.in-Some.is c.loop-next.invariant
    c.in_ok-turn.field-0 c.turn.new.labels.items c.turn.new.waiting.items c.if-not-branch.false c.in_ok-turn.ensures.led c.in_ok-turn.ensures.grown c.in_ok-turn.ensures.within
