use Rattle.std.proofs.Common.{subst}
use Rattle.wz_rewrite.specs.OutputState.{HasRanges}
use Rattle.wz_rewrite.specs.Pieces.{range_of_piece}
use Rattle.wz_rewrite.specs.Views.{piece_of}
use Rattle.wz_rewrite.specs.declared.piece.Piece.{Piece}
use Rattle.wz_rewrite.proofs.WritingLemmas.{within_range}
use Rattle.wz_rewrite.proofs.output.gather_piece.Goals as goal

pub gather_range-requires-clause-within : goal.gather_range-requires-clause-within
gather_range-requires-clause-within g c =
    let memories = c.args.store.now.memories in
    let has = subst (λ (p : Piece). HasRanges memories (range_of_piece (piece_of p))) c.in-Range.is c.requires.ranges in
    within_range memories c.in-Range.memory c.in-Range.at c.in-Range.len _ has c.in-Some.ensures
