use Rattle.std.proofs.Common.{◌≤◌, length, map, take, subst, arith, rules}
use Rattle.std.specs.Prelude.{List}
use Rattle.std.proofs.lemmas.List.{take_all}
use Rattle.wz_rewrite.specs.Pieces.{pieces_text}
use Rattle.wz_rewrite.specs.Gathering.{Gathers}
use Rattle.wz_rewrite.specs.Views.{piece_of}
use Rattle.wz_rewrite.specs.declared.piece.Piece.{Piece}
use Rattle.wz_rewrite.proofs.GatheringLemmas.{still_open, on_err}
use Rattle.wz_rewrite.proofs.WritingLemmas.{ranges_at, gathers_piece, fails_piece, written_all, written_some}
use Rattle.wz_rewrite.proofs.output.write_pieces.Goals as goal

pub gather_piece-requires-clause-opened : goal.gather_piece-requires-clause-opened
gather_piece-requires-clause-opened g c = still_open _ _ _ _ c.requires.opened c.loop-piece.invariant.gathered

pub gather_piece-requires-clause-ranges : goal.gather_piece-requires-clause-ranges
gather_piece-requires-clause-ranges g c =
    ranges_at c.args.store.now.memories c.args.pieces.now c.loop-piece.piece-index c.piece-item.result c.loop-piece-test.true c.piece-item.is c.requires.ranges

pub returns-in_err-filled-clause-some : goal.returns-in_err-filled-clause-some
returns-in_err-filled-clause-some g c =
    on_err c.from_residual.result
    (fails_piece c.args.store.now.memories c.args.pieces.now c.loop-piece.piece-index c.piece-item.result _ _ _ _ c.loop-piece-test.true c.piece-item.is
    c.loop-piece.invariant.gathered c.in_err-filled.ensures.failed)

pub loop-piece-preserved : goal.loop-piece-preserved
loop-piece-preserved g c = record {
  room = search rules;
  gathered =
      gathers_piece c.args.store.now.memories c.args.pieces.now c.loop-piece.piece-index c.piece-item.result _ _ _ _ _ c.loop-piece-test.true c.piece-item.is
      c.loop-piece.invariant.gathered c.in_ok-filled.ensures.gathered;
}

pub returns-clause-all : goal.returns-clause-all
returns-clause-all g c =
    let pieces = c.args.pieces.now in
    let memories = c.args.store.now.memories in
    let all : length pieces ≤ c.loop-piece.piece-index = omega arith in
    let waiting = take c.loop-piece.filled c.loop-piece.buffer in
    let gathered = subst (λ (ps : List Piece). Gathers (pieces_text memories (map piece_of ps)) waiting (g.F.Files.world c.args.files.now) (g.F.Files.world c.loop-piece.files))
    (take_all c.loop-piece.piece-index pieces all) c.loop-piece.invariant.gathered in
    written_all c.write_all.result (pieces_text memories (map piece_of pieces)) waiting _ _ _ gathered
    c.write_all.ensures.all c.write_all.ensures.current c.write_all.ensures.later c.write_all.ensures.reads

pub returns-clause-some : goal.returns-clause-some
returns-clause-some g c =
    let pieces = c.args.pieces.now in
    let memories = c.args.store.now.memories in
    let all : length pieces ≤ c.loop-piece.piece-index = omega arith in
    let waiting = take c.loop-piece.filled c.loop-piece.buffer in
    let gathered = subst (λ (ps : List Piece). Gathers (pieces_text memories (map piece_of ps)) waiting (g.F.Files.world c.args.files.now) (g.F.Files.world c.loop-piece.files))
    (take_all c.loop-piece.piece-index pieces all) c.loop-piece.invariant.gathered in
    written_some c.write_all.result (pieces_text memories (map piece_of pieces)) waiting _ _ _ gathered
    c.write_all.ensures.some c.write_all.ensures.failed c.write_all.ensures.current c.write_all.ensures.later c.write_all.ensures.reads
