use Rattle.std.proofs.Common.{◌<◌, refl, arith}
use Rattle.std.proofs.lemmas.Result.{err_from_is_err_and}
use Rattle.wz_module.specs.Views.{section_of, module_with}
use Rattle.wz_decode.proofs.StepLaws.{start_taken, start_held, not_start}
use Rattle.wz_decode.proofs.definitions.take_start.Goals as goal

pub returns-in_err-start-clause-bad : goal.returns-in_err-start-clause-bad
returns-in_err-start-clause-bad c =
    let p = err_from_is_err_and c.from_residual.result c.from_residual.ensures.1 in
    λ bad. not_start c.args.last (section_of c.args.section) c.requires.id (c.in_err-start.ensures.bad (cc (p.1, p.2)))

pub returns-clause-ok : goal.returns-clause-ok
returns-clause-ok c =
    let less : c.args.last < 8 = omega arith in
    start_taken (module_with c.args.parts.now) c.args.last c.args.parts.now.sections.items _ c.args.section c.in_ok-start.start refl c.in_ok-push.ensures.items c.requires.id c.requires.front less c.in_ok-start.ensures.found

pub returns-clause-contents : goal.returns-clause-contents
returns-clause-contents c = start_held (section_of c.args.section) c.in_ok-start.start c.requires.id c.in_ok-start.ensures.found
