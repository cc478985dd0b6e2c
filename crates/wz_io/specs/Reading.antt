-- What reading an input to its end does. These meanings are this tool's own: the WebAssembly Core
-- Specification doesn't speak of files.
use Rattle.std.specs.Prelude.{◌≡◌, ℕ, List, Option, Result, Err, length}
use Rattle.std.specs.Option.{option_map}
use Rattle.std.specs.Io.KnownBytes.{prepend_known}
use Rattle.wz_io.specs.World.{Current}
use Rattle.wz_io.specs.Calls.{with_failure}
use Rattle.wz_io.specs.declared.reading.ReadAll.{ReadAll}
use Rattle.wz_io.specs.declared.reading.ReadAll.TheVariants as all

-- the longest input that the tool reads, in bytes
abbrev pub input_limit : ℕ
input_limit = 33554432

-- some bytes were read from the front of what was left
abbrev pub TakesFront : Option (List ℕ) → Option (List ℕ) → Type 0
TakesFront before now = (bytes : List ℕ) × (before ≡ prepend_known bytes now)

-- some n bytes were read from the front of what was left
abbrev pub TakesSome : ℕ → Option (List ℕ) → Option (List ℕ) → Type 0
TakesSome n before now = (bytes : List ℕ) × (before ≡ prepend_known bytes now) × (length bytes ≡ n)

-- what is current after the reading
abbrev pub current_after_read_all : {T : Type 0} → Option Current → Result T ReadAll → Option Current
current_after_read_all before (Err all.Failed) = option_map with_failure before
current_after_read_all before result = before
