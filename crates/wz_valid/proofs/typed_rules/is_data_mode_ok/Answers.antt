use Rattle.std.proofs.Common.{◌<◌, IfOk, MatchBool, sym, subst, arith}
use Rattle.std.proofs.lemmas.Bool.{ltb-true}
use Rattle.wz_types.specs.declared.types.ValType.TheVariants.{I32}
use Rattle.wz_code.specs.Trees.{tree_of}
use Rattle.wz_valid_code.specs.Typing.{IsConstant}
use Rattle.wz_module.specs.declared.items.DataMode as data_mode
use Rattle.wz_module.specs.Views.{data_mode_of}
use Rattle.wz_module.specs.Meaning.{module_of}
use Rattle.wz_valid.specs.Contexts.{context_of}
use Rattle.wz_valid.specs.Items.{IsDataModeOk}
use Rattle.wz_valid.proofs.CheckLemmas.{both_tell}
use Rattle.wz_valid.proofs.typed_rules.is_data_mode_ok.Goals as goal

pub returns-else-not-has_memory : goal.returns-else-not-has_memory
returns-else-not-has_memory c =
    let m = module_of c.args.checker.now.«module».now in
    let r = c.is_constant.result in
    let P : data_mode.DataMode → Type 0 = λ mode. IfOk r (λ ok. MatchBool ok (IsDataModeOk m (data_mode_of mode)) (IsDataModeOk m (data_mode_of mode) → ⊥)) in
    let there : c.in-Active.memory < (context_of m).memories =
    omega (arith, ltb-true c.in-Active.memory c.args.checker.now.context.memories (sym c.if-not-has_memory.ensures), c.requires.says.memories) in
    subst P (sym c.in-Active.is)
    (both_tell (c.in-Active.memory < (context_of m).memories) (IsConstant (context_of m) (tree_of c.in-Active.offset 0) I32) r there c.is_constant.ensures)
