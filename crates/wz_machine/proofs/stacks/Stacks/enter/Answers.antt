use Rattle.std.proofs.Common.{◌∙◌, refl, sym, arith}
use Rattle.wz_machine.proofs.EntryLemmas.{entry-untyped, no-type, few-turn, block-turn, loop-turn}
use Rattle.wz_machine.proofs.stacks.Stacks.enter.Goals as goal

pub returns-in_default-clause-turned : goal.returns-in_default-clause-turned
returns-in_default-clause-turned c = λ st reduct.
    (entry-untyped st c.args.self.now c.args.types.now c.args.shape c.args.loops c.args.code.now c.args.rest.now c.args.have (no-type _ (cc)) reduct, refl)

pub returns-then-have-top-clause-turned : goal.returns-then-have-top-clause-turned
returns-then-have-top-clause-turned c = λ st reduct. (
  few-turn st c.args.self.now c.args.types.now c.args.shape c.args.loops c.args.code.now c.args.rest.now c.args.have c.in-Some.counts c.requires.values
      (sym c.in-Some.is ∙ c.counts_of.ensures) (omega arith) reduct,
  refl,
)

pub returns-then-loops-clause-turned : goal.returns-then-loops-clause-turned
returns-then-loops-clause-turned c = λ st reduct.
    loop-turn st c.args.self.now c.push_block.new.self c.args.types.now c.args.shape c.args.loops c.args.code.now c.args.rest.now c.args.have c.in-Some.counts
    c.innermost-top.ensures.stacked c.requires.values (sym c.in-Some.is ∙ c.counts_of.ensures) (omega arith) c.if-loops.true c.in_ok-push_block.ensures.entered reduct

pub returns-clause-turned : goal.returns-clause-turned
returns-clause-turned c = λ st reduct.
    block-turn st c.args.self.now c.push_block-2.new.self c.args.types.now c.args.shape c.args.loops c.args.code.now c.args.rest.now c.args.have c.in-Some.counts
    c.innermost-top.ensures.stacked c.requires.values (sym c.in-Some.is ∙ c.counts_of.ensures) (omega arith) c.if-loops.false c.in_ok-push_block-2.ensures.entered reduct
