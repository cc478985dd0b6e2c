use Rattle.std.proofs.Common.{◌≡◌, ◌∷◌, length, map, take}
use Rattle.std.specs.List.{flat_map}
use Rattle.wz_bytes.specs.Shortest.{shortest_unsigned}
use Rattle.wz_encode.specs.Views.{slot_of}
use Rattle.wz_rewrite.specs.Pieces.{MadePiece, slot_pieces}
use Rattle.wz_rewrite.proofs.contents.data_contents.Given as goal

abbrev pub invariant-loop-slot : goal.invariant-loop-slot
invariant-loop-slot l = l.pieces ≡ MadePiece (shortest_unsigned (length l.slots)) ∷ flat_map slot_pieces (map slot_of (take l.slot-index l.slots))
