-- What the struct of a piece is.
use Rattle.wz_rewrite.specs.Pieces.{OutputPiece, KeptPiece, MadePiece, RangePiece}
use Rattle.wz_rewrite.specs.declared.piece.Piece.{Piece}
use Rattle.wz_rewrite.specs.declared.piece.Piece.TheVariants.{Kept, Made, Range}

abbrev pub piece_of : Piece → OutputPiece
piece_of (Kept bytes) = KeptPiece bytes.now
piece_of (Made bytes) = MadePiece bytes.items
piece_of (Range number at len) = RangePiece number at len
