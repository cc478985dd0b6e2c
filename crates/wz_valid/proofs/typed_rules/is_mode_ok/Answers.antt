use Rattle.std.proofs.Common.{IfOk, IsSomeAnd, MatchBool, slice_get, sym, subst}
use Rattle.wz_types.specs.declared.types.ValType.TheVariants.{I32}
use Rattle.wz_code.specs.Trees.{tree_of}
use Rattle.wz_valid_code.specs.Typing.{IsConstant}
use Rattle.wz_module.specs.declared.items.ElemMode as elem_mode
use Rattle.wz_module.specs.Views.{elem_of, elem_mode_of}
use Rattle.wz_module.specs.Meaning.{module_of}
use Rattle.wz_valid.specs.Indices.{all_tables}
use Rattle.wz_valid.specs.Contexts.{context_of}
use Rattle.wz_valid.specs.Items.{HasKind, IsElemModeOk}
use Rattle.wz_valid.proofs.CheckLemmas.{both_tell}
use Rattle.wz_valid.proofs.typed_rules.is_mode_ok.Goals as goal

pub returns-else-not-is_table_of : goal.returns-else-not-is_table_of
returns-else-not-is_table_of c =
    let m = module_of c.args.checker.now.«module».now in
    let r = c.is_constant.result in
    let e = elem_of c.args.segment.now in
    let P : elem_mode.ElemMode → Type 0 = λ mode. IfOk r (λ ok. MatchBool ok (IsElemModeOk m e (elem_mode_of mode)) (IsElemModeOk m e (elem_mode_of mode) → ⊥)) in
    subst P (sym c.in-Active.is)
    (both_tell (IsSomeAnd (slice_get (all_tables m) c.in-Active.table) (λ type. HasKind e type)) (IsConstant (context_of m) (tree_of c.in-Active.offset 0) I32) r
    c.if-not-is_table_of.ensures c.is_constant.ensures)
