use Rattle.std.proofs.Common.{List, ℕ, subst, arith}
use Rattle.wz_code.specs.BlockRule.{IsBuilding}
use Rattle.wz_valid_code.proofs.BuildLemmas.{one-item}
use Rattle.wz_valid_code.proofs.tests.finish.Goals as goal

pub finish-requires-clause-short : goal.finish-requires-clause-short
finish-requires-clause-short c = c.items_are_counted.ensures.short c.args.builder (omega (arith, c.requires.small))

pub finish-requires-clause-rule : goal.finish-requires-clause-rule
finish-requires-clause-rule c =
    let P : List ℕ → Type 0 = λ held. IsBuilding c.args.builder held in
    subst P (one-item c.args.held.now 0 c.if-held-ne1.false c.if-outer-ne0.false) c.requires.building
