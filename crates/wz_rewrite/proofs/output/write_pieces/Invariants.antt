use Rattle.std.proofs.Common.{◌<◌, length, map, take}
use Rattle.wz_rewrite.specs.Pieces.{pieces_text}
use Rattle.wz_rewrite.specs.Gathering.{Gathers}
use Rattle.wz_rewrite.specs.Views.{piece_of}
use Rattle.wz_rewrite.proofs.output.write_pieces.Given as goal

abbrev pub invariant-loop-piece : goal.invariant-loop-piece
invariant-loop-piece g l = record {
  room : l.filled < length l.buffer;
  gathered : Gathers (pieces_text l.store.memories (map piece_of (take l.piece-index l.pieces))) (take l.filled l.buffer) (g.F.Files.world l.fn.files) (g.F.Files.world l.files);
}
