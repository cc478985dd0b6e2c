use Rattle.std.proofs.Common.{List, subst, sym, ap, ◌∙◌}
use Rattle.wz_rewrite.specs.Pieces.{OutputPiece, pieces_text, pieces_length}
use Rattle.wz_rewrite.specs.Gathering.{FailsAmong}
use Rattle.wz_rewrite.proofs.GatheringLemmas.{on_err}
use Rattle.wz_rewrite.proofs.WritingLemmas.{length-pieces_text}
use Rattle.wz_rewrite.proofs.output.Output.write_to.Goals as goal

pub returns-in_err-write_pieces-clause-some : goal.returns-in_err-write_pieces-clause-some
returns-in_err-write_pieces-clause-some g c =
    let memories = c.args.reached.now.store.memories in
    let failed = subst (λ (ps : List OutputPiece). FailsAmong (pieces_text memories ps) (g.F.Files.world c.args.files.now) (g.F.Files.world c.write_pieces.new.files))
    (c.as_slice.ensures ∙ c.self.view_is) c.in_err-write_pieces.ensures.some in
    on_err c.from_residual.result failed.some

pub returns-clause-count : goal.returns-clause-count
returns-clause-count g c =
    c.total-total.ensures
    ∙ ap (λ (ps : List OutputPiece). pieces_length ps) c.self.view_is
    ∙ sym (length-pieces_text c.args.reached.now.store.memories c.args.self.now c.requires.ranges)
