use Rattle.std.proofs.Common.{List, length, ap, arith}
use Rattle.wz_types.specs.declared.types.GlobalType.{GlobalType}
use Rattle.wz_module.specs.Meaning.{module_of}
use Rattle.wz_valid.proofs.CheckLemmas.{few_imported_globals}
use Rattle.wz_valid.proofs.validity.validate.Goals as goal

pub overflow_cast-imported_globals : goal.overflow_cast-imported_globals
overflow_cast-imported_globals c =
    let m = module_of c.args.«module».now in
    let few = few_imported_globals m.imports in
    let all = ap (λ (globals : List GlobalType). length globals) c.in_ok-globals.ensures in
    let short = c.args.«module».now.short_lists.globals in
    omega (arith, few, all, short, c.len-imported_globals.ensures)
