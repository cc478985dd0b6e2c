use Rattle.std.proofs.Common.{◌∷◌, ◌∙◌, ap, sym, subst, ℕ}
use Rattle.wz_code.specs.BodyParts.{BodyParts}
use Rattle.wz_code.specs.BlockRule.{times, IsBuilding}
use Rattle.wz_valid_code.proofs.BuildLemmas.{times-pushed}
use Rattle.wz_valid_code.proofs.tests.begin.Goals as goal

pub returns-clause-building : goal.returns-clause-building
returns-clause-building c =
    let P : BodyParts → Type 0 = λ body. IsBuilding body c.push.new.self.items in
    subst P (sym c.in_ok-number.ensures.added)
    (c.building_takes.ensures.block c.args.builder.now c.args.held.now.items c.push.new.self.items c.requires.building
    (λ k. ap (times k) c.in_ok-push.ensures.items ∙ times-pushed k c.args.held.now.items c.in_ok-number.number
    ∙ ap (λ (n : ℕ). times k (n ∷ c.args.held.now.items)) c.in_ok-number.ensures.number)).building
