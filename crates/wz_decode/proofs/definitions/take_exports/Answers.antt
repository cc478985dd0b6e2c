use Rattle.std.proofs.Common.{◌<◌, refl, arith, map}
use Rattle.std.proofs.lemmas.Result.{err_from_is_err_and}
use Rattle.wz_module.specs.Views.{section_of, module_with}
use Rattle.wz_module.specs.Views.{export_of}
use Rattle.wz_decode.proofs.StepLaws.{exports_taken, exports_held, not_exports}
use Rattle.wz_decode.proofs.definitions.take_exports.Goals as goal

pub returns-in_err-exports-clause-bad : goal.returns-in_err-exports-clause-bad
returns-in_err-exports-clause-bad c =
    let p = err_from_is_err_and c.from_residual.result c.from_residual.ensures.1 in
    λ bad. not_exports c.args.last (section_of c.args.section) c.requires.id (c.in_err-exports.ensures.bad (cc (p.1, p.2)))

pub returns-clause-ok : goal.returns-clause-ok
returns-clause-ok c =
    let less : c.args.last < 7 = omega arith in
    exports_taken (module_with c.args.parts.now) c.args.last c.args.parts.now.sections.items _ c.args.section (map export_of c.in_ok-exports.exports.items) refl c.in_ok-push.ensures.items c.requires.id c.requires.front less c.in_ok-exports.ensures.found

pub returns-clause-contents : goal.returns-clause-contents
returns-clause-contents c = exports_held (section_of c.args.section) (map export_of c.in_ok-exports.exports.items) c.requires.id c.in_ok-exports.ensures.found
