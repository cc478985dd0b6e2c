use Rattle.std.proofs.Common.{◌<◌, refl, arith, map}
use Rattle.std.proofs.lemmas.Result.{err_from_is_err_and}
use Rattle.wz_module.specs.Views.{section_of, module_with}
use Rattle.wz_module.specs.Views.{global_of}
use Rattle.wz_decode.proofs.StepLaws.{globals_taken, globals_held, not_globals}
use Rattle.wz_decode.proofs.definitions.take_globals.Goals as goal

pub returns-in_err-globals-clause-bad : goal.returns-in_err-globals-clause-bad
returns-in_err-globals-clause-bad c =
    let p = err_from_is_err_and c.from_residual.result c.from_residual.ensures.1 in
    λ bad. not_globals c.args.last (section_of c.args.section) c.requires.id (c.in_err-globals.ensures.bad (cc (p.1, p.2)))

pub returns-clause-ok : goal.returns-clause-ok
returns-clause-ok c =
    let less : c.args.last < 6 = omega arith in
    globals_taken (module_with c.args.parts.now) c.args.last c.args.parts.now.sections.items _ c.args.section (map global_of c.in_ok-globals.globals.items) refl c.in_ok-push.ensures.items c.requires.id c.requires.front less c.in_ok-globals.ensures.found

pub returns-clause-contents : goal.returns-clause-contents
returns-clause-contents c = globals_held (section_of c.args.section) (map global_of c.in_ok-globals.globals.items) c.requires.id c.in_ok-globals.ensures.found
