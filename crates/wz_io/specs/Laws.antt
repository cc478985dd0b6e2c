-- The laws that join a create and the writes behind it, and the limit on inputs. These meanings are
-- this tool's own: the WebAssembly Core Specification doesn't speak of files.
use Rattle.std.specs.Prelude.{◌≡◌, ℕ, List, [], ◌++◌}
use Rattle.wz_io.specs.World.{Told, Name, with_empty_output, with_more_output, with_output}
use Rattle.wz_io.specs.Writing.{told_after_writes}

-- an output that was just created holds no bytes yet
abbrev pub CreatedIsWritten : Type 0
CreatedIsWritten = (t : Told) (name : Name) → with_empty_output t name ≡ with_output t name []

-- one more write comes behind what was written
abbrev pub AppendedIsWritten : Type 0
AppendedIsWritten =
    (t : Told) (name : Name) (a b : List ℕ) → with_more_output (with_output t name a) name b ≡ with_output t name (a ++ b)

-- so do any number of writes
abbrev pub WritesAreWritten : Type 0
WritesAreWritten =
    (t : Told) (name : Name) (a b : List ℕ) → told_after_writes (with_output t name a) name b ≡ with_output t name (a ++ b)

-- the writes of two pieces are those of both, one behind the other
abbrev pub WritesAreJoined : Type 0
WritesAreJoined =
    (t : Told) (name : Name) (a b : List ℕ) →
    told_after_writes (told_after_writes t name a) name b ≡ told_after_writes t name (a ++ b)
