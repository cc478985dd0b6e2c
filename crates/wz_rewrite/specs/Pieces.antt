-- How the output is cut into pieces, so that it never stands in memory as a whole. This is the tool's own.
use Rattle.std.specs.Prelude.{ℕ, Bool, true, not, ◌&&◌, ◌||◌, List, [], ◌∷◌, ◌++◌, length, Option, Some, None, if◌then◌else◌, ◌==◌}
use Rattle.std.specs.List.{flat_map, sum_by}
use Rattle.wz_bytes.specs.Shortest.{shortest_unsigned}
use Rattle.wz_store.specs.State.{Memory}
use Rattle.wz_module.specs.Sections.{Section}
use Rattle.wz_module.specs.Module.{Module}
use Rattle.wz_decode.specs.Header.{header}
use Rattle.wz_encode.specs.Limits.{memories_text}
use Rattle.wz_encode.specs.Globals.{globals_text}
use Rattle.wz_encode.specs.Exports.{exports_text}
use Rattle.wz_encode.specs.Elements.{elements_text}
use Rattle.wz_encode.specs.Datas.{Slot, PassiveSlot, EmptySlot, HeadSlot, slot_text}
use Rattle.wz_snapshot.specs.declared.segment.ChosenSegment.{ChosenSegment}
use Rattle.wz_rewrite.specs.OutputState.{OutputState, range_bytes}
use Rattle.wz_rewrite.specs.Dropped.{dropped_elements}
use Rattle.wz_rewrite.specs.Slots.{output_slots}
use Rattle.wz_rewrite.specs.Parts.{output_memories, global_types}
use Rattle.wz_rewrite.specs.Sections.{renewed_elements, brings_elements, brings_datas}

-- bytes of the input, bytes that were made, or a range of the memory of a number
pub data OutputPiece : Type 0 where
  KeptPiece : List ℕ → OutputPiece
  MadePiece : List ℕ → OutputPiece
  RangePiece : ℕ → ℕ → ℕ → OutputPiece

-- ---- what pieces say

abbrev pub piece_text : List Memory → OutputPiece → List ℕ
piece_text memories (KeptPiece bytes) = bytes
piece_text memories (MadePiece bytes) = bytes
piece_text memories (RangePiece number at len) = range_bytes memories number at len

-- the bytes of all pieces, each range read from its memory
abbrev pub pieces_text : List Memory → List OutputPiece → List ℕ
pieces_text memories pieces = flat_map (λ piece. piece_text memories piece) pieces

abbrev pub piece_length : OutputPiece → ℕ
piece_length (KeptPiece bytes) = length bytes
piece_length (MadePiece bytes) = length bytes
piece_length (RangePiece number at len) = len

abbrev pub pieces_length : List OutputPiece → ℕ
pieces_length pieces = sum_by piece_length pieces

abbrev pub chosen_with : ℕ → ℕ → ℕ → ChosenSegment
chosen_with number at len = record { memory = number; at = at; len = len }

abbrev pub range_of_piece : OutputPiece → List ChosenSegment
range_of_piece (KeptPiece bytes) = []
range_of_piece (MadePiece bytes) = []
range_of_piece (RangePiece number at len) = chosen_with number at len ∷ []

-- the ranges among pieces
abbrev pub piece_ranges : List OutputPiece → List ChosenSegment
piece_ranges pieces = flat_map range_of_piece pieces

abbrev pub kept_of_piece : OutputPiece → List (List ℕ)
kept_of_piece (KeptPiece bytes) = bytes ∷ []
kept_of_piece (MadePiece bytes) = []
kept_of_piece (RangePiece number at len) = []

-- the bytes of the input among pieces
abbrev pub piece_payloads : List OutputPiece → List (List ℕ)
piece_payloads pieces = flat_map kept_of_piece pieces

-- ---- which contents are the input's own

-- no element segment was dropped, and no function must be declared anew
abbrev pub keeps_elements : Module → OutputState → Bool
keeps_elements m o = (length (dropped_elements m o) == 0) && (length o.undeclared == 0)

-- memory, global, export, start, data and data count
abbrev pub is_rewritten : ℕ → Bool
is_rewritten id = (id == 5) || ((id == 6) || ((id == 7) || ((id == 8) || ((id == 11) || (id == 12)))))

-- All other sections: type, import, function, table, code and custom ones, and the element section where it keeps its contents.
abbrev pub keeps_contents : Module → OutputState → ℕ → Bool
keeps_contents m o id = not (is_rewritten id) && (if id == 9 then keeps_elements m o else true)

abbrev pub payload_if_kept : Module → OutputState → Section → List (List ℕ)
payload_if_kept m o s = if keeps_contents m o s.id then s.payload ∷ [] else []

abbrev pub kept_payloads : Module → OutputState → List (List ℕ)
kept_payloads m o = flat_map (λ s. payload_if_kept m o s) m.sections

-- ---- the pieces of the output

-- a slot, and its range behind it
abbrev pub slot_pieces : Slot → List OutputPiece
slot_pieces (PassiveSlot bytes) = MadePiece (slot_text (PassiveSlot bytes)) ∷ []
slot_pieces EmptySlot = MadePiece (slot_text EmptySlot) ∷ []
slot_pieces (HeadSlot number at len) = MadePiece (slot_text (HeadSlot number at len)) ∷ RangePiece number at len ∷ []

abbrev pub slots_pieces : List Slot → List OutputPiece
slots_pieces slots = MadePiece (shortest_unsigned (length slots)) ∷ flat_map slot_pieces slots

abbrev pub elements_pieces : Module → OutputState → List ℕ → List OutputPiece
elements_pieces m o payload = if keeps_elements m o then KeptPiece payload ∷ [] else MadePiece (renewed_elements m o payload) ∷ []

abbrev pub contents_pieces : Module → OutputState → ℕ → List ℕ → Option (List OutputPiece)
contents_pieces m o id payload =
    if id == 5 then Some (MadePiece (memories_text (output_memories m o)) ∷ [])
    else (if id == 6 then Some (MadePiece (globals_text (global_types m) o.globals) ∷ [])
    else (if id == 7 then Some (MadePiece (exports_text o.exports) ∷ [])
    else (if id == 8 then None
    else (if id == 9 then Some (elements_pieces m o payload)
    else (if id == 11 then Some (slots_pieces (output_slots m o))
    else (if id == 12 then Some (MadePiece (shortest_unsigned (length (output_slots m o))) ∷ [])
    else Some (KeptPiece payload ∷ [])))))))

-- what comes in before a section, and behind it
abbrev pub new_elements_pieces : Module → OutputState → ℕ → Option (List OutputPiece)
new_elements_pieces m o id = if brings_elements m o id then Some (MadePiece (elements_text None [] [] o.undeclared) ∷ []) else None

abbrev pub new_datas_pieces : Module → OutputState → ℕ → Option (List OutputPiece)
new_datas_pieces m o id = if brings_datas m o id then Some (slots_pieces (output_slots m o)) else None

-- a section: its id and its size, and its contents
abbrev pub section_head : ℕ → ℕ → List ℕ
section_head id size = id ∷ shortest_unsigned size

abbrev pub section_pieces : ℕ → Option (List OutputPiece) → List OutputPiece
section_pieces id None = []
section_pieces id (Some contents) = MadePiece (section_head id (pieces_length contents)) ∷ contents

-- what stands in the place of a section of the input
abbrev pub pieces_for : Module → OutputState → Section → List OutputPiece
pieces_for m o s =
    section_pieces 9 (new_elements_pieces m o s.id)
    ++ (section_pieces s.id (contents_pieces m o s.id s.payload) ++ section_pieces 11 (new_datas_pieces m o s.id))

abbrev pub output_pieces : Module → OutputState → List OutputPiece
output_pieces m o = MadePiece header ∷ flat_map (λ s. pieces_for m o s) m.sections
