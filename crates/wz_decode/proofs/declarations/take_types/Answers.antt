use Rattle.std.proofs.Common.{◌<◌, refl, arith}
use Rattle.std.proofs.lemmas.Result.{err_from_is_err_and}
use Rattle.wz_module.specs.Views.{section_of, module_with}
use Rattle.wz_decode.proofs.StepLaws.{types_taken, types_held, not_types}
use Rattle.wz_decode.proofs.declarations.take_types.Goals as goal

pub returns-in_err-types-clause-bad : goal.returns-in_err-types-clause-bad
returns-in_err-types-clause-bad c =
    let p = err_from_is_err_and c.from_residual.result c.from_residual.ensures.1 in
    λ bad. not_types c.args.last (section_of c.args.section) c.requires.id (c.in_err-types.ensures.bad (cc (p.1, p.2)))

pub returns-clause-ok : goal.returns-clause-ok
returns-clause-ok c =
    let less : c.args.last < 1 = omega arith in
    types_taken (module_with c.args.parts.now) c.args.last c.args.parts.now.sections.items _ c.args.section c.in_ok-types.types.items refl c.in_ok-push.ensures.items c.requires.id c.requires.front less c.in_ok-types.ensures.found

pub returns-clause-contents : goal.returns-clause-contents
returns-clause-contents c = types_held (section_of c.args.section) c.in_ok-types.types.items c.requires.id c.in_ok-types.ensures.found
