-- What is known of the files and streams that a run may touch. These meanings are this tool's own:
-- the WebAssembly Core Specification doesn't speak of files.
use Rattle.std.specs.Prelude.{◌≡◌, ℕ, ◌+◌, ◌-◌, ◌^◌, ◌≤◌, min, Bool, true, List, [], ◌++◌, Option, None, Some, IsSome, IfSome, unwrap_or, ⊤}
use Rattle.std.specs.Option.{option_map, option_and_then}
use Rattle.std.specs.Ordering.{nat_cmp}
use Rattle.std.specs.Cmp.Lexicographic.{slice_cmp}
use Rattle.std.specs.FinMap.{FinMap, get, insert}
use Rattle.std.specs.Io.KnownBytes.{append_known}
use Rattle.wz_io.specs.declared.files.Side.{Side}
use Rattle.wz_io.specs.declared.files.FileName.{FileName}
use Rattle.wz_io.specs.declared.files.FileName.TheVariants as named

-- the standard stream, or the file at a path
pub data Name : Type 0 where
  Standard : Name
  File : List ℕ → Name

abbrev pub name_of : FileName → Name
name_of named.Standard = Standard
name_of (named.Path path) = File path.now

-- what was opened last
pub record Current : Type 0 where
  pub side : Side
  pub name : Name
  pub opened : Bool
  pub failed : Bool

-- the files: a finite map from paths to bytes
abbrev pub Contents : Type 0
Contents = FinMap (slice_cmp nat_cmp) (List ℕ)

-- the bytes that stand there, each part where it is told
pub record Told : Type 0 where
  pub stdin : Option (List ℕ)
  pub stdout : Option (List ℕ)
  pub files : Option Contents

pub record World : Type 0 where
  pub faults : ℕ
  pub current : Option Current
  pub told : Told
  -- the unread rest of the opened input, where it is told
  pub left : Option (List ℕ)
  -- each read raises this by one at most, and no other call does
  pub reads : ℕ

-- of a sink: the count of faults, and the text where it is told
pub record Said : Type 0 where
  pub faults : ℕ
  pub text : Option (List ℕ)

-- nothing was opened yet, and nothing failed
abbrev pub world_at_start : Told → Option (List ℕ) → World
world_at_start told left = record { faults = 0; current = None; told = told; left = left; reads = 0 }

-- nothing failed yet
abbrev pub said_at_start : Option (List ℕ) → Said
said_at_start text = record { faults = 0; text = text }

-- the count rose, or stands at its last value
abbrev pub Rose : ℕ → ℕ → Type 0
Rose before now = min (before + 1) (2 ^ 64 - 1) ≤ now

-- this is open on that side
abbrev pub IsOpenOn : Side → Option Current → Type 0
IsOpenOn side current = (c : Current) × (current ≡ Some c) × (c.side ≡ side) × (c.opened ≡ true)

abbrev pub IsOpen : Side → World → Type 0
IsOpen side w = IsOpenOn side w.current

-- the bytes that an input has, where they are told
abbrev pub input_of : Told → Name → Option (List ℕ)
input_of t Standard = t.stdin
input_of t (File path) = option_and_then (λ files. get files path) t.files

-- where files are told, there is one of that name
abbrev pub IsThere : Told → Name → Type 0
IsThere t Standard = ⊤
IsThere t (File path) = IfSome t.files (λ files. IsSome (get files path))

-- with an empty file of that name; the standard output keeps what it holds
abbrev pub with_empty_output : Told → Name → Told
with_empty_output t Standard = t
with_empty_output t (File path) = record t { files = option_map (λ files. insert files path []) t.files }

-- with these bytes added to that output
abbrev pub with_more_output : Told → Name → List ℕ → Told
with_more_output t Standard bytes = record t { stdout = append_known t.stdout bytes }
with_more_output t (File path) bytes =
    record t { files = option_map (λ files. insert files path (unwrap_or (get files path) [] ++ bytes)) t.files }

-- with these bytes in that output: a file holds them alone, the standard output has them at its end
abbrev pub with_output : Told → Name → List ℕ → Told
with_output t Standard bytes = record t { stdout = append_known t.stdout bytes }
with_output t (File path) bytes = record t { files = option_map (λ files. insert files path bytes) t.files }

-- the input or output of that name failed: in this call the count rose, and at its end
-- this name is the one on that side, and has failed
pub record HasFailed (side : Side) (name : Name) (before now : World) : Type 0 where
  pub rose : Rose before.faults now.faults
  pub opened : Bool
  pub current : now.current ≡ Some (record { side = side; name = name; opened = opened; failed = true })
