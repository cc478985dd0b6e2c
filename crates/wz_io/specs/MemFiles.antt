-- What the files in memory mean: they tell everything. These meanings are this tool's own: the
-- WebAssembly Core Specification doesn't speak of files.
use Rattle.std.specs.Prelude.{ℕ, Bool, List, [], Some, drop, is_none}
use Rattle.std.specs.FinMap.{empty}
use Rattle.wz_io.specs.World.{World, Told, Name, File, input_of, with_output}
use Rattle.wz_io.specs.Plan.{Plan}
use Rattle.wz_io.specs.Stream.{stream_current, memory_told}
use Rattle.wz_io.specs.declared.mem_files.MemFiles.{MemFiles}

abbrev pub mem_world : MemFiles → World
mem_world files = record {
  faults = files.faults;
  current = stream_current files.stream;
  told = memory_told files.stdin.items files.stdout.items files.entries.items files.stream;
  left = Some (drop files.at files.input.items);
  reads = files.reads;
}

-- at most so many bytes go in one read or write
abbrev pub mem_chunk : MemFiles → ℕ
mem_chunk files = files.chunk

-- the failures that are listed
abbrev pub mem_plan : MemFiles → Plan
mem_plan files = files.plan.items

-- this standard input, nothing on the standard output, and no files
abbrev pub told_at_start : List ℕ → Told
told_at_start stdin = record { stdin = Some stdin; stdout = Some []; files = Some empty }

-- with this file
abbrev pub with_file : World → List ℕ → List ℕ → World
with_file w path bytes = record w { told = with_output w.told (File path) bytes }

-- an input that isn't there
abbrev pub is_missing : Told → Name → Bool
is_missing t name = is_none (input_of t name)
