use Rattle.std.proofs.Common.{refl, subst}
use Rattle.wz_bytes.specs.Reading.{Front, NoFront}
use Rattle.wz_bytes.specs.Name.{IsName}
use Rattle.wz_bytes.specs.Place.{Place}
use Rattle.wz_module.specs.Views.{section_of, module_with}
use Rattle.wz_decode.proofs.StepLaws.{custom_taken, not_custom}
use Rattle.wz_decode.proofs.parts.take_custom.Goals as goal

pub returns-clause-ok : goal.returns-clause-ok
returns-clause-ok c =
    let named = subst (λ (p : Place). Front IsName p.left c.in-Some._name.now c.name.new.self.left) c.new-contents.ensures c.in-Some.ensures.found.0 in
    custom_taken (module_with c.args.parts.now) c.args.last c.args.parts.now.sections.items _ c.args.section refl c.in_ok-push.ensures.items c.requires.id c.requires.front (c.in-Some._name.now, c.name.new.self.left, named)

pub returns-in_default-clause-bad : goal.returns-in_default-clause-bad
returns-in_default-clause-bad c =
    let none = subst (λ (p : Place). NoFront IsName p.left) c.new-contents.ensures (c.in_default.ensures.none refl) in
    λ _. not_custom c.args.last (section_of c.args.section) c.requires.id (λ n. none n.2.text n.1 n.0 n.2.spelled n.2.parts)
