use Rattle.std.proofs.Common.{List, [], ap, ◌∙◌}
use Rattle.std.proofs.lemmas.Result.{IfOk-weaker}
use Rattle.wz_module.specs.Meaning.{module_of}
use Rattle.wz_rewrite.specs.OutputState.{output_state}
use Rattle.wz_rewrite.specs.Pieces.{OutputPiece, pieces_text, piece_ranges, piece_payloads}
use Rattle.wz_rewrite.proofs.PreparedLemmas.{prepared}
use Rattle.wz_rewrite.proofs.PieceLaws.{pieces_are_output, pieces_are_chosen, pieces_are_kept}
use Rattle.wz_rewrite.proofs.preparing.prepare.Goals as goal

pub returns-clause-bytes : goal.returns-clause-bytes
returns-clause-bytes c =
    let m = module_of c.args.module.now in
    let found = c.in_ok-sources.ensures in
    let is = prepared _ _ _ _ _ _ c.in_ok-pieces.pieces found.input found.snapshot found.kept c.in_ok-pieces.ensures in
    IfOk-weaker c.of.result _ _ (λ pieces h memories has. ap (λ (ps : List OutputPiece). pieces_text memories ps) (h ∙ is)
    ∙ pieces_are_output m (output_state m c.args.snapshot.now memories c.args.kept.now) has) c.of.ensures

pub returns-clause-ranges : goal.returns-clause-ranges
returns-clause-ranges c = λ order.
    let m = module_of c.args.module.now in
    let found = c.in_ok-sources.ensures in
    let is = prepared _ _ _ _ _ _ c.in_ok-pieces.pieces found.input found.snapshot found.kept c.in_ok-pieces.ensures in
    IfOk-weaker c.of.result _ _ (λ pieces h. ap (λ (ps : List OutputPiece). piece_ranges ps) (h ∙ is)
    ∙ pieces_are_chosen m (output_state m c.args.snapshot.now [] c.args.kept.now) order c.requires.code) c.of.ensures

pub returns-clause-kept : goal.returns-clause-kept
returns-clause-kept c =
    let m = module_of c.args.module.now in
    let found = c.in_ok-sources.ensures in
    let is = prepared _ _ _ _ _ _ c.in_ok-pieces.pieces found.input found.snapshot found.kept c.in_ok-pieces.ensures in
    IfOk-weaker c.of.result _ _ (λ pieces h. ap (λ (ps : List OutputPiece). piece_payloads ps) (h ∙ is)
    ∙ pieces_are_kept m (output_state m c.args.snapshot.now [] c.args.kept.now)) c.of.ensures
