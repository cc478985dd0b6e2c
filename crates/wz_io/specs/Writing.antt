-- What writing all bytes of a piece does. These meanings are this tool's own: the WebAssembly Core
-- Specification doesn't speak of files.
use Rattle.std.specs.Prelude.{◌≡◌, ℕ, ◌<◌, List, [], ◌∷◌, take, length}
use Rattle.wz_io.specs.World.{World, Told, Name, with_more_output}
use Rattle.wz_io.specs.Calls.{current_name}

-- Once these bytes were written behind what that output holds. No bytes take no write.
abbrev pub told_after_writes : Told → Name → List ℕ → Told
told_after_writes t name [] = t
told_after_writes t name (byte ∷ bytes) = with_more_output t name (byte ∷ bytes)

-- all the bytes were written to what is current, and all else that is told stays
abbrev pub WritesAll : List ℕ → World → World → Type 0
WritesAll bytes before now = now.told ≡ told_after_writes before.told (current_name before.current) bytes

-- the first n of the bytes, and not all, were written to what is current, and all else that is told stays
abbrev pub WritesSome : List ℕ → World → World → Type 0
WritesSome bytes before now = (n : ℕ) × (n < length bytes) × WritesAll (take n bytes) before now
