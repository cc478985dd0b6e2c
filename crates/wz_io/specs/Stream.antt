-- What was opened last of the files in memory, and what it means. These meanings are this tool's own:
-- the WebAssembly Core Specification doesn't speak of files.
use Rattle.std.specs.Prelude.{◌≡◌, Result, Ok, Err, ℕ, true, false, List, [], Option, None, Some, Vec}
use Rattle.std.specs.declared.alloc.Global.{Global}
use Rattle.std.specs.FinMap.{insert}
use Rattle.wz_io.specs.World.{Told, Name, Standard, File, Current, Contents, with_more_output}
use Rattle.wz_io.specs.Calls.{current_name}
use Rattle.wz_io.specs.Names.{owned_name}
use Rattle.wz_io.specs.Memory.{contents}
use Rattle.wz_io.specs.declared.files.Side.TheVariants as side
use Rattle.wz_io.specs.declared.memory.Entry.{Entry}
use Rattle.wz_io.specs.declared.stream.Stream.{Stream}
use Rattle.wz_io.specs.declared.stream.Stream.TheVariants as stream

abbrev pub stream_current : Stream → Option Current
stream_current stream.Nothing = None
stream_current (stream.Input name opened failed) =
    Some (record { side = side.Input; name = owned_name name; opened = opened; failed = failed })
stream_current (stream.Refused name) =
    Some (record { side = side.Output; name = owned_name name; opened = false; failed = true })
stream_current (stream.Stdout opened failed) =
    Some (record { side = side.Output; name = Standard; opened = opened; failed = failed })
stream_current (stream.File entry opened failed) =
    Some (record { side = side.Output; name = File entry.path.items; opened = opened; failed = failed })

-- all files, with the one that was made last
abbrev pub stream_files : List Entry → Stream → Contents
stream_files entries (stream.File entry opened failed) =
    insert (contents entries) entry.path.items entry.bytes.items
stream_files entries other = contents entries

-- the file that was made last stays
abbrev pub KeepsFile : Stream → Stream → Type 0
KeepsFile old new = (entries : List Entry) → stream_files entries new ≡ stream_files entries old

abbrev pub made_files : Name → Contents → Contents
made_files Standard files = files
made_files (File path) files = insert files path []

-- an output of that name, open, which holds nothing yet
pub record IsCreated (name : Name) (made : Stream) : Type 0 where
  pub current : stream_current made ≡ Some (record { side = side.Output; name = name; opened = true; failed = false })
  pub files : (entries : List Entry) → stream_files entries made ≡ made_files name (contents entries)

abbrev pub memory_told : List ℕ → List ℕ → List Entry → Stream → Told
memory_told stdin stdout entries last =
    record { stdin = Some stdin; stdout = Some stdout; files = Some (stream_files entries last) }

-- once a piece was added to what is open, or wasn't
abbrev pub told_after_add : {T E : Type 0} → Told → Name → List ℕ → Result T E → Told
told_after_add t name piece (Ok _) = with_more_output t name piece
told_after_add t name piece (Err _) = t

-- a piece was added, whatever else stands there
pub record Adds {T E : Type 0} (stdout_old stdout_new : List ℕ) (old new : Stream) (piece : List ℕ) (result : Result T E) : Type 0 where
  pub told : (stdin : List ℕ) (entries : List Entry) → memory_told stdin stdout_new entries new
      ≡ told_after_add (memory_told stdin stdout_old entries old) (current_name (stream_current old)) piece result
  pub current : stream_current new ≡ stream_current old

-- the bytes of what was found
abbrev pub items_of : Option (Vec ℕ Global) → Option (List ℕ)
items_of None = None
items_of (Some v) = Some v.items
