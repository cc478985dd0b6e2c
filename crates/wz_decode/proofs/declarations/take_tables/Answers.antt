use Rattle.std.proofs.Common.{◌<◌, refl, arith}
use Rattle.std.proofs.lemmas.Result.{err_from_is_err_and}
use Rattle.wz_module.specs.Views.{section_of, module_with}
use Rattle.wz_decode.proofs.StepLaws.{tables_taken, tables_held, not_tables}
use Rattle.wz_decode.proofs.declarations.take_tables.Goals as goal

pub returns-in_err-tables-clause-bad : goal.returns-in_err-tables-clause-bad
returns-in_err-tables-clause-bad c =
    let p = err_from_is_err_and c.from_residual.result c.from_residual.ensures.1 in
    λ bad. not_tables c.args.last (section_of c.args.section) c.requires.id (c.in_err-tables.ensures.bad (cc (p.1, p.2)))

pub returns-clause-ok : goal.returns-clause-ok
returns-clause-ok c =
    let less : c.args.last < 4 = omega arith in
    tables_taken (module_with c.args.parts.now) c.args.last c.args.parts.now.sections.items _ c.args.section c.in_ok-tables.tables.items refl c.in_ok-push.ensures.items c.requires.id c.requires.front less c.in_ok-tables.ensures.found

pub returns-clause-contents : goal.returns-clause-contents
returns-clause-contents c = tables_held (section_of c.args.section) c.in_ok-tables.tables.items c.requires.id c.in_ok-tables.ensures.found
