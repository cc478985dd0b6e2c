-- The machine's flat stacks as terms: calls from outside, and the parts of the list of values.
use Rattle.std.proofs.Common.{◌≡◌, ◌≤◌, ℕ, ◌-◌, List, [], length, take, drop, ap, sym, ◌∙◌, arith, take_all}
use Rattle.std.proofs.lemmas.List.{take-take, length-take-le}
use Rattle.std.proofs.Math.Seq.{drop-length}
use Rattle.wz_types.specs.declared.value.Value.{Value}
use Rattle.wz_code.specs.BodyParts.{BodyParts, block_at}
use Rattle.wz_code.specs.BlockRule.{IsBody}
use Rattle.wz_code.specs.Trees.{code_in, tree_of}
use Rattle.wz_code.proofs.LawLemmas.{tree_of_block}
use Rattle.wz_machine.specs.Stacks.{stacks_term, started, call_locals, IsStartOf}

-- a body's block, as code
pub block-code : (body : BodyParts) (number : ℕ) → IsBody body → code_in body (block_at body.blocks number) ≡ tree_of body number
block-code body number is_body = sym (tree_of_block body number is_body.rule.names_rise)

pub started-term : (body : BodyParts) (results : ℕ) (arguments : List Value) → IsBody body → IsStartOf (stacks_term (started body results arguments)) body results arguments
started-term body results arguments is_body =
    let values : List Value = call_locals body arguments in
    let locals : take (length values - 0) values ≡ values = take_all (length values - 0) values (omega arith) in
    let own : drop (length values) values ≡ [] = drop-length values in
    let code : code_in body (block_at body.blocks 0) ≡ tree_of body 0 = block-code body 0 is_body in
    cc

-- ---- a block is entered

pub take-within : (n k : ℕ) (xs : List Value) → n ≤ k → k ≤ length xs → length (take n (take k xs)) ≡ n
take-within n k xs le within = ap length (take-take n k xs le) ∙ length-take-le n xs (omega arith)
