-- What the output is written from, besides the module: what was recorded of the state that its run reached, and the memories that chosen
-- ranges are read from (section 4.2.8 of the WebAssembly Core Specification 2.0). This is the tool's own.
use Rattle.std.specs.Prelude.{ℕ, List, [], Bool, Option, Some, None, slice_get, IsSomeAnd}
use Rattle.std.specs.List.{All}
use Rattle.wz_types.specs.declared.value.Value.{Value}
use Rattle.wz_linear.specs.Bytes.{IsWithin, part}
use Rattle.wz_store.specs.State.{Memory, StateOf}
use Rattle.wz_module.specs.Exports.{Export}
use Rattle.wz_module.specs.Module.{Module}
use Rattle.wz_snapshot.specs.declared.segment.ChosenSegment.{ChosenSegment}
use Rattle.wz_snapshot.specs.Recorded.{RecordedState, recorded}
use Rattle.wz_exports.specs.Kept.{KeptExports}
use Rattle.wz_exports.specs.Undeclared.{undeclared_functions}

pub record OutputState : Type 0 where
  -- the globals' values, and the memories' sizes in pages
  pub globals : List Value
  pub pages : List ℕ
  -- the ranges that become data segments, and the memories that they are ranges of
  pub chosen : List ChosenSegment
  pub memories : List Memory
  -- of each element segment and of each data segment, whether it is empty
  pub empty_elements : List Bool
  pub empty_datas : List Bool
  pub exports : List Export
  -- the functions that no other part of the output would declare
  pub undeclared : List ℕ

-- what was recorded, with memories and with the kept exports
abbrev pub output_state : Module → RecordedState → List Memory → KeptExports → OutputState
output_state m r memories k = record {
  globals = r.globals;
  pages = r.pages;
  chosen = r.segments;
  memories = memories;
  empty_elements = r.empty_elements;
  empty_datas = r.empty_data;
  exports = k.entries;
  undeclared = undeclared_functions m r k;
}

-- what the output is written from where this state was reached
abbrev pub reached_state : {F : Type 0} → Module → StateOf F → KeptExports → OutputState
reached_state m s k = output_state m (recorded s) s.memories k

-- ---- ranges of memories

abbrev pub memory_part : Option Memory → ℕ → ℕ → List ℕ
memory_part None at len = []
memory_part (Some memory) at len = part memory.bytes at len

-- what stands in a range of the memory of this number
abbrev pub range_bytes : List Memory → ℕ → ℕ → ℕ → List ℕ
range_bytes memories number at len = memory_part (slice_get memories number) at len

-- the memory is there, and the range ends within it
abbrev pub HasRange : List Memory → ChosenSegment → Type 0
HasRange memories segment = IsSomeAnd (slice_get memories segment.memory) (λ memory. IsWithin memory.bytes segment.at segment.len)

abbrev pub HasRanges : List Memory → List ChosenSegment → Type 0
HasRanges memories chosen = All (λ segment. HasRange memories segment) chosen
