-- The pieces that the code puts a line together from, as texts.
use Rattle.std.specs.Prelude.{ℕ, List, decimal}
use Rattle.std.specs.List.{flat_map}
use Rattle.wz_top.specs.declared.pieces.Piece.{Piece}
use Rattle.wz_top.specs.declared.pieces.Piece.TheVariants.{Words, Number, Name, Byte}
use Rattle.wz_top.specs.Texts.{quoted, hex_byte}

abbrev pub piece_words : Piece → List ℕ
piece_words (Words text) = text.now
piece_words (Number number) = decimal number
piece_words (Name name) = quoted name.now
piece_words (Byte byte) = hex_byte byte

abbrev pub words_of_pieces : List Piece → List ℕ
words_of_pieces pieces = flat_map piece_words pieces
