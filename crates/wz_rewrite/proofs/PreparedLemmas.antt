-- What the output is prepared from is what was given.
use Rattle.std.proofs.Common.{◌≡◌, ℕ, zero, suc, ◌<◌, List, [], ◌∷◌, length, map, slice_index_or, ap, ◌∙◌, arith}
use Rattle.std.specs.List.{All}
use Rattle.std.proofs.lemmas.List.Elements.{All-head, All-tail}
use Rattle.wz_module.specs.Sections.{Section}
use Rattle.wz_module.specs.Meaning.{module_of}
use Rattle.wz_module.specs.Views.{section_of}
use Rattle.wz_module.specs.declared.module.Module as code
use Rattle.wz_module.specs.declared.items.Section as item
use Rattle.wz_snapshot.specs.Recorded.{RecordedState}
use Rattle.wz_exports.specs.Kept.{KeptExports}
use Rattle.wz_rewrite.specs.OutputState.{output_state}
use Rattle.wz_rewrite.specs.Pieces.{OutputPiece, output_pieces}

-- what holds of each section holds of that at a place
pub at_section : (P : Section → Type 0) (sections : List item.Section) (i : ℕ) (d : item.Section) → All P (map section_of sections) → i < length sections
    → P (section_of (slice_index_or sections i d))
at_section P [] i d h inside = absurd (omega (arith, inside))
at_section P (s ∷ sections) zero d h inside = All-head P (section_of s) (map section_of sections) h
at_section P (s ∷ sections) (suc i) d h inside = at_section P sections i d (All-tail P (section_of s) (map section_of sections) h) (omega (arith, inside))

abbrev pub pieces_from : code.Module → RecordedState → KeptExports → List OutputPiece
pieces_from m r k = output_pieces (module_of m) (output_state (module_of m) r [] k)

pub prepared : (m n : code.Module) (r s : RecordedState) (k l : KeptExports) (pieces : List OutputPiece) → m ≡ n → r ≡ s → k ≡ l → pieces ≡ pieces_from m r k
    → pieces ≡ pieces_from n s l
prepared m n r s k l pieces same_module same_record same_exports is =
    is
    ∙ ap (λ (x : code.Module). pieces_from x r k) same_module
    ∙ ap (λ (x : RecordedState). pieces_from n x k) same_record
    ∙ ap (λ (x : KeptExports). pieces_from n s x) same_exports
