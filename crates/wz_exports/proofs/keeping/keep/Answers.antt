use Rattle.std.proofs.Common.{List, sym, ap, map, subst}
use Rattle.std.proofs.lemmas.Result.{err_from_is_err_and}
use Rattle.wz_module.specs.Exports.{Export}
use Rattle.wz_module.specs.Meaning.{module_of}
use Rattle.wz_module.specs.Views.{export_of}
use Rattle.wz_words.specs.Settings.{settings_of}
use Rattle.wz_exports.specs.Kept.{KeptExports}
use Rattle.wz_exports.proofs.KeptLemmas.{NamesDiffer, names_differ}
use Rattle.wz_exports.proofs.WholeLemmas.{no_function, no_reactor, no_rename, all_fit}
use Rattle.wz_exports.proofs.keeping.keep.Goals as goal

pub returns-in_err-function-clause-fault : goal.returns-in_err-function-clause-fault
returns-in_err-function-clause-fault c =
    let p = err_from_is_err_and c.from_residual-in_err-function.result c.from_residual-in_err-function.ensures.1 in
    rw (p.1, p.2)
    (no_function (module_of c.args.«module».now) (settings_of c.args.settings.now) c.as_str.result.now c.as_str.ensures.bytes c.in_err-function.field-0.0 c.in_err-function.ensures)

pub returns-in_err-reactor-clause-fault : goal.returns-in_err-reactor-clause-fault
returns-in_err-reactor-clause-fault c =
    let p = err_from_is_err_and c.from_residual-in_err-reactor.result c.from_residual-in_err-reactor.ensures.1 in
    rw (p.1, p.2)
    (no_reactor (module_of c.args.«module».now) (settings_of c.args.settings.now) c.as_str.result.now c.as_str.ensures.bytes c.in_ok-function.function c.in_ok-function.ensures
    c.in_err-reactor.field-0.0 c.in_err-reactor.ensures)

pub returns-in_err-check_renames-clause-fault : goal.returns-in_err-check_renames-clause-fault
returns-in_err-check_renames-clause-fault c =
    let p = err_from_is_err_and c.from_residual-in_err-check_renames.result c.from_residual-in_err-check_renames.ensures.1 in
    rw (p.1, p.2)
    (no_rename (module_of c.args.«module».now) (settings_of c.args.settings.now) c.as_str.result.now c.as_str.ensures.bytes c.in_ok-function.function c.in_ok-function.ensures
    c.in_ok-reactor.reactor c.in_ok-reactor.ensures (map export_of c.exports-exports.result.now) c.exports-exports.ensures
    c.in_err-check_renames.field-0.0 c.in_err-check_renames.ensures)

pub returns-clause-kept : goal.returns-clause-kept
returns-clause-kept c =
    all_fit (module_of c.args.«module».now) (settings_of c.args.settings.now) c.as_str.result.now c.as_str.ensures.bytes c.in_ok-function.function c.in_ok-function.ensures
    c.in_ok-reactor.reactor c.in_ok-reactor.ensures (map export_of c.exports-exports.result.now) c.exports-exports.ensures c.add_exports.new.kept c.new-kept.result
    c.in_ok-check_renames.ensures (ap (λ (k : KeptExports). k.function) c.new-kept.ensures) (ap (λ (k : KeptExports). k.reactor) c.new-kept.ensures) c.in_ok-add_exports.ensures

pub returns-clause-distinct : goal.returns-clause-distinct
returns-clause-distinct c =
    let s = settings_of c.args.settings.now in
    let exports = map export_of c.exports-exports.result.now in
    subst (λ (es : List Export). NamesDiffer es) (sym (ap (λ (k : KeptExports). k.entries) c.in_ok-add_exports.ensures))
    (names_differ s exports c.requires.renames (subst (λ (es : List Export). NamesDiffer es) (sym c.exports-exports.ensures) c.requires.names))
