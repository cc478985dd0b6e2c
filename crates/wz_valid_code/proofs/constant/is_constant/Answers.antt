use Rattle.std.proofs.Common.{subst, List, [], ◌∷◌, MatchBool}
use Rattle.wz_code.specs.declared.instr.Instr.{Instr}
use Rattle.wz_valid_code.specs.Rules.{Lead}
use Rattle.wz_valid_code.specs.Blocks.{constant_rules}
use Rattle.wz_valid_code.proofs.LawLemmas.{constant-by-rules}
use Rattle.wz_valid_code.proofs.constant.is_constant.Goals as goal

pub returns : goal.returns
returns c =
    let P : List Instr → Type 0 = λ code. MatchBool c.in_ok-leads.leads (Lead (constant_rules c.args.context.now code) [] (c.args.kind ∷ []))
    (Lead (constant_rules c.args.context.now code) [] (c.args.kind ∷ []) → ⊥) in
    constant-by-rules c.tree_of_block.ensures c.args.context.now c.args.body.now c.args.kind c.block_count-kept.ensures.kept.rule.names_rise c.in_ok-leads.leads
    (subst P c.code_of.ensures.code c.in_ok-leads.ensures)
