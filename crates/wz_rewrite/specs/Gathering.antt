-- How far the bytes of the output have come on their way through the buffer. This is the tool's own: the WebAssembly Core Specification
-- doesn't speak of files.
use Rattle.std.specs.Prelude.{◌≡◌, ℕ, ◌≤◌, List, ◌++◌}
use Rattle.std.specs.Option.{option_map}
use Rattle.wz_io.specs.World.{World, Rose}
use Rattle.wz_io.specs.Calls.{with_failure}
use Rattle.wz_io.specs.Writing.{WritesAll, WritesSome}

-- the first of these bytes were written to what is current, and the rest of them still waits
pub record Gathers (bytes rest : List ℕ) (before now : World) : Type 0 where
  pub written : List ℕ
  pub parts : bytes ≡ written ++ rest
  pub told : WritesAll written before now
  pub current : now.current ≡ before.current
  pub later : before.faults ≤ now.faults
  pub reads : now.reads ≡ before.reads

-- a write failed: some first bytes of these were written to what is current, and not all
pub record FailsAmong (bytes : List ℕ) (before now : World) : Type 0 where
  pub some : WritesSome bytes before now
  pub rose : Rose before.faults now.faults
  pub current : now.current ≡ option_map with_failure before.current
  pub later : before.faults ≤ now.faults
  pub reads : now.reads ≡ before.reads
