use Rattle.std.proofs.Common.{arith}
use Rattle.wz_module.specs.Views.{export_of}
use Rattle.wz_module.specs.Meaning.{module_of}
use Rattle.wz_valid.specs.declared.faults.Part.TheVariants as part
use Rattle.wz_valid.specs.Items.{IsTarget, IsExportOk}
use Rattle.wz_valid.specs.Validity.{IsItemOk}
use Rattle.wz_valid.proofs.ListLemmas.{found_at, past_items}
use Rattle.wz_valid.proofs.CheckLemmas.{tells_same}
use Rattle.wz_valid.proofs.PartLemmas.{export_by_target, target_of_export, past_new_names}
use Rattle.wz_valid.proofs.named_rules.is_export_ok.Goals as goal

pub returns-then-index-checker : goal.returns-then-index-checker
returns-then-index-checker c =
    past_new_names (module_of c.args.checker.now.«module».now) c.args.checker.now.new_names c.args.index c.requires.names c.requires.before c.if-index-checker.true

pub returns-in-Some : goal.returns-in-Some
returns-in-Some c =
    let m = module_of c.args.checker.now.«module».now in
    let i = c.args.index in
    let export = export_of c.in-Some.export.now in
    let got = c.in-Some.ensures.lookup in
    let here = found_at export_of c.exports.result.now m.exports i c.in-Some.export.now c.exports.ensures got.3.0 got.1 in
    tells_same (IsTarget m export.target) (IsItemOk m part.Export i) c.is_target.result (export_by_target m i export here (c.requires.names.new i (omega arith)))
    (target_of_export m i export here) c.is_target.ensures

pub returns-in-None : goal.returns-in-None
returns-in-None c =
    let m = module_of c.args.checker.now.«module».now in
    past_items (λ e. IsExportOk m c.args.index e) export_of c.exports.result.now m.exports c.args.index c.exports.ensures c.in-None.ensures.lookup.3
