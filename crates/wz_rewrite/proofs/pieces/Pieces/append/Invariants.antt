use Rattle.std.proofs.Common.{◌≡◌, ◌++◌, map}
use Rattle.wz_rewrite.specs.Views.{piece_of}
use Rattle.wz_rewrite.proofs.pieces.Pieces.append.Given as goal

abbrev pub invariant-loop-piece : goal.invariant-loop-piece
invariant-loop-piece l = l.self ≡ l.fn.self ++ map piece_of l.yielded
