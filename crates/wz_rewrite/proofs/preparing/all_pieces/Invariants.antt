use Rattle.std.proofs.Common.{◌≡◌, ◌∷◌, map, take}
use Rattle.std.specs.List.{flat_map}
use Rattle.wz_module.specs.Views.{section_of}
use Rattle.wz_decode.specs.Header.{header}
use Rattle.wz_rewrite.specs.Pieces.{MadePiece, pieces_for}
use Rattle.wz_rewrite.specs.Sources.{source_module, source_state}
use Rattle.wz_rewrite.proofs.preparing.all_pieces.Given as goal

abbrev pub invariant-loop-section : goal.invariant-loop-section
invariant-loop-section l = l.pieces ≡ MadePiece header ∷ flat_map (λ s. pieces_for (source_module l.sources) (source_state l.sources) s) (map section_of (take l.section-index l.sections))
