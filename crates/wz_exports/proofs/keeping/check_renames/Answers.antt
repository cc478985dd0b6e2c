use Rattle.std.proofs.Common.{◌∙◌, map}
use Rattle.std.proofs.lemmas.Result.{err_from_is_err_and}
use Rattle.wz_module.specs.Views.{export_of}
use Rattle.wz_words.specs.Settings.{settings_of}
use Rattle.wz_exports.proofs.NameLemmas.{none_yet, fault_here, at_list}
use Rattle.wz_exports.proofs.keeping.check_renames.Goals as goal

pub returns-in_err-check_rename : goal.returns-in_err-check_rename
returns-in_err-check_rename c =
    let p = err_from_is_err_and c.from_residual.result c.from_residual.ensures.1 in
    let less = at_list c.deref-rename-items.result.now c.args.settings.now.renames.items c.deref-rename-items.ensures.value c.loop-rename.rename-index c.rename-item.result
    c.loop-rename-test.true c.rename-item.is in
    rw (p.1, p.2) (fault_here (settings_of c.args.settings.now) (map export_of c.args.exports.now) c.args.settings.now.renames.items c.loop-rename.rename-index c.rename-item.result
    c.copied-target.result c.as_str-src.result.now _ less.0 less.1 c.loop-rename.invariant c.as_str-src.ensures.bytes
    (c.copied-target.ensures ∙ c.get.ensures.value ∙ c.requires c.as_str-src.result.now) c.in_err-check_rename.field-0.0 c.in_err-check_rename.ensures)

pub loop-rename-preserved : goal.loop-rename-preserved
loop-rename-preserved c =
    let less = at_list c.deref-rename-items.result.now c.args.settings.now.renames.items c.deref-rename-items.ensures.value c.loop-rename.rename-index c.rename-item.result
    c.loop-rename-test.true c.rename-item.is in
    none_yet (settings_of c.args.settings.now) (map export_of c.args.exports.now) c.args.settings.now.renames.items c.loop-rename.rename-index c.rename-item.result
    c.copied-target.result c.as_str-src.result.now _ less.0 less.1 c.loop-rename.invariant c.as_str-src.ensures.bytes
    (c.copied-target.ensures ∙ c.get.ensures.value ∙ c.requires c.as_str-src.result.now) c.in_ok-check_rename.ensures
