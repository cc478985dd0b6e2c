-- What is recorded of a state, from which the output is written: values of globals (section 4.2.9 of the WebAssembly Core
-- Specification 2.0), sizes of memories (4.2.8), and which segments are empty (4.2.10 and 4.2.11). Which ranges of the memories
-- become data segments is this tool's own rule.
use Rattle.std.specs.Prelude.{ℕ, ◌+◌, ◌/◌, ◌==◌, Bool, List, [], ◌∷◌, ◌++◌, length, map}
use Rattle.wz_types.specs.declared.value.Value.{Value}
use Rattle.wz_plan.specs.declared.runs.Run.{Run}
use Rattle.wz_plan.specs.Plan.{plan}
use Rattle.wz_store.specs.State.{Memory, StateOf, pages_of}
use Rattle.wz_snapshot.specs.declared.segment.ChosenSegment.{ChosenSegment}

-- of globals, memories and segments one item for each, in their order
pub record RecordedState : Type 0 where
  pub globals : List Value
  pub pages : List ℕ
  pub segments : List ChosenSegment
  pub empty_elements : List Bool
  pub empty_data : List Bool

-- ---- the chosen ranges

-- how many data segments are chosen at most
abbrev pub segments_limit : ℕ
segments_limit = 10000

-- how many of them each of so many memories may have
abbrev pub memory_limit : ℕ → ℕ
memory_limit memories = segments_limit / memories

-- a range of the memory of this number
abbrev pub chosen_segment : ℕ → Run → ChosenSegment
chosen_segment number range = record { memory = number; at = range.at; len = range.len }

-- the ranges planned for a memory
abbrev pub chosen_in : ℕ → ℕ → List ℕ → List ChosenSegment
chosen_in limit number bytes = map (chosen_segment number) (plan bytes limit)

-- those of memories, the first of which has this number: by memory, and then by address
abbrev pub chosen_from : ℕ → ℕ → List Memory → List ChosenSegment
chosen_from limit number [] = []
chosen_from limit number (memory ∷ memories) = chosen_in limit number memory.bytes ++ chosen_from limit (number + 1) memories

abbrev pub chosen_segments : List Memory → List ChosenSegment
chosen_segments memories = chosen_from (memory_limit (length memories)) 0 memories

-- ---- the whole

abbrev pub has_no_items : {X : Type 0} → List X → Bool
has_no_items xs = length xs == 0

-- what is recorded of a state
abbrev pub recorded : {F : Type 0} → StateOf F → RecordedState
recorded s = record {
  globals = map (λ global. global.content) s.globals;
  pages = map pages_of s.memories;
  segments = chosen_segments s.memories;
  empty_elements = map (λ element. has_no_items element.items) s.elements;
  empty_data = map has_no_items s.datas;
}
