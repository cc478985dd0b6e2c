-- The output as bytes spells the output as a module, by the grammar of chapter 5 of the WebAssembly Core Specification 2.0; and the pieces
-- that it is cut into are these bytes.
use Rattle.std.specs.Prelude.{◌≡◌, ℕ, ◌-◌, ◌^◌, ◌<◌, List, [], length, None, IsSome}
use Rattle.std.specs.List.{All}
use Rattle.wz_module.specs.Sections.{Section, ranks_of, Rises, payload_of}
use Rattle.wz_module.specs.Module.{Module}
use Rattle.wz_decode_sections.specs.ElementSection.{IsElementSection}
use Rattle.wz_decode.specs.Spelling.{Spells}
use Rattle.wz_encode.specs.Laws.{CanBeVector, CanBeIndex, CanBeMemory, CanBeConstant, CanBeExport, CanBeBytes}
use Rattle.wz_snapshot.specs.declared.segment.ChosenSegment.{ChosenSegment}
use Rattle.wz_store.specs.State.{Memory}
use Rattle.wz_rewrite.specs.OutputState.{OutputState, HasRanges, range_bytes}
use Rattle.wz_rewrite.specs.Parts.{output_memories}
use Rattle.wz_rewrite.specs.Slots.{output_slots}
use Rattle.wz_rewrite.specs.Sections.{output_sections}
use Rattle.wz_rewrite.specs.Output.{output_module, output_bytes}
use Rattle.wz_rewrite.specs.Pieces.{pieces_text, piece_ranges, piece_payloads, kept_payloads, output_pieces}

-- a chosen range that can be written: its place is a number of 32 bits, and it holds bytes
abbrev pub CanBeRange : List Memory → ChosenSegment → Type 0
CanBeRange memories segment = CanBeIndex segment.memory × CanBeIndex segment.at × CanBeBytes (range_bytes memories segment.memory segment.at segment.len)

-- there is a code section
abbrev pub HasCode : Module → Type 0
HasCode m = IsSome (payload_of 10 m.sections)

-- What the output can be written from: a module that was read, with a code section, and a state of it whose numbers have their widths and
-- whose sections are short enough.
pub record CanBeOutput (m : Module) (o : OutputState) : Type 0 where
  pub input : List ℕ
  pub spelled : Spells input m
  pub code : HasCode m
  pub sizes : All CanBeMemory (output_memories m o)
  pub globals : length m.globals ≡ length o.globals
  pub constants : CanBeVector CanBeConstant o.globals
  pub exports : CanBeVector CanBeExport o.exports
  -- where there was no export section, no export is kept
  pub none_kept : payload_of 7 m.sections ≡ None → o.exports ≡ []
  pub segments : length m.elements < 2 ^ 32 - 1
  pub undeclared : CanBeVector CanBeIndex o.undeclared
  pub slots : length (output_slots m o) < 2 ^ 32
  pub ranges : HasRanges o.memories o.chosen
  pub chosen : All (λ segment. CanBeRange o.memories segment) o.chosen
  pub short : All (λ s. length s.payload < 2 ^ 32) (output_sections m o)

abbrev pub OutputSpells : Type 0
OutputSpells = (m : Module) (o : OutputState) → CanBeOutput m o → Spells (output_bytes m o) (output_module m o)

-- the sections come in their order, each at most once
abbrev pub SectionsAreInOrder : List Section → Type 0
SectionsAreInOrder sections = Rises 0 (ranks_of sections)

-- the element section spells the module's element segments
abbrev pub SpellsElements : Module → Type 0
SpellsElements m = All (λ s. s.id ≡ 9 → IsElementSection s.payload m.elements) m.sections

-- where bytes spell a module, its element section spells its element segments
abbrev pub InputSpellsElements : Type 0
InputSpellsElements = (input : List ℕ) (m : Module) → Spells input m → SpellsElements m

-- and its sections are in order
abbrev pub InputIsInOrder : Type 0
InputIsInOrder = (input : List ℕ) (m : Module) → Spells input m → SectionsAreInOrder m.sections

-- the pieces, with each range read from its memory, are the output
abbrev pub PiecesAreOutput : Type 0
PiecesAreOutput = (m : Module) (o : OutputState) → HasRanges o.memories o.chosen → pieces_text o.memories (output_pieces m o) ≡ output_bytes m o

-- their ranges are the chosen ones, in order
abbrev pub PiecesAreChosen : Type 0
PiecesAreChosen = (m : Module) (o : OutputState) → SectionsAreInOrder m.sections → HasCode m → piece_ranges (output_pieces m o) ≡ o.chosen

-- and what they have of the input is just the contents that stay, in order
abbrev pub PiecesAreKept : Type 0
PiecesAreKept = (m : Module) (o : OutputState) → piece_payloads (output_pieces m o) ≡ kept_payloads m o
