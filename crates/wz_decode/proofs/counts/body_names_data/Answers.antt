use Rattle.std.proofs.Common.{◌∙◌, List, refl, ap, arith}
use Rattle.std.specs.List.{list_any}
use Rattle.std.proofs.lemmas.List.{take_all}
use Rattle.wz_code.specs.declared.instr.Instr.{Instr}
use Rattle.wz_decode.specs.CountRules.{names_data}
use Rattle.wz_decode.proofs.DataLemmas.{blocks_more, blocks_are_tree}
use Rattle.wz_decode.proofs.counts.body_names_data.Goals as goal

pub loop-number-preserved : goal.loop-number-preserved
loop-number-preserved c =
    let more = blocks_more c.args.body.now.blocks c.loop-number.number (omega (arith, c.loop-number-test.true, c.block_count-number-end.ensures.count)) in
    rw (more, c.loop-number.invariant, c.numbered_names_data-found.ensures) refl

pub returns : goal.returns
returns c =
    let all = take_all c.loop-number.number c.args.body.now.blocks (omega (arith, c.loop-number-test.false, c.block_count-number-end.ensures.count)) in
    c.loop-number.invariant ∙ ap (λ (blocks : List (List Instr)). list_any (λ block. list_any names_data block) blocks) all ∙ blocks_are_tree c.args.body.now c.block_count-number-end.ensures.kept
