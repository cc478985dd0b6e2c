use Rattle.std.proofs.Common.{◌<◌, refl, arith, map}
use Rattle.wz_module.specs.Views.{section_of, module_with}
use Rattle.wz_module.specs.Views.{data_of}
use Rattle.wz_decode.proofs.StepLaws.{datas_taken, not_datas}
use Rattle.wz_decode.proofs.code.take_datas.Goals as goal

pub returns-in_ok-push-in-Ok-clause-ok : goal.returns-in_ok-push-in-Ok-clause-ok
returns-in_ok-push-in-Ok-clause-ok c =
    let less : c.args.last < 12 = omega arith in
    datas_taken (module_with c.args.parts.now) c.args.last c.args.parts.now.sections.items _ c.args.section (map data_of c.in-Ok.datas.items) refl c.in_ok-push-in-Ok.ensures.items c.requires.id c.requires.front less c.in-Ok.ensures.found

pub returns-in-Err-clause-bad : goal.returns-in-Err-clause-bad
returns-in-Err-clause-bad c = λ bad. not_datas c.args.last (section_of c.args.section) c.requires.id (c.in-Err.ensures.bad (cc bad))
