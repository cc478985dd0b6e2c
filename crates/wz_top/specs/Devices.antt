-- What a run leaves in the files.
use Rattle.std.specs.Prelude.{◌≡◌, ◌⊎◌, ℕ, ◌≤◌, false, List, take, Option, None, Some, IfSome, IsSome, IsSomeAnd, Result, Ok, Err, ⊤}
use Rattle.std.specs.FinMap.{get}
use Rattle.wz_io.specs.World.{World, Told, Name, Standard, File, Current, HasFailed, input_of, with_output}
use Rattle.wz_io.specs.declared.reading.ReadAll.{ReadAll}
use Rattle.wz_io.specs.declared.reading.ReadAll.TheVariants as all
use Rattle.wz_io.specs.declared.files.Side.TheVariants.{Input, Output}
use Rattle.wz_words.specs.declared.settings.InputFrom.{InputFrom}
use Rattle.wz_words.specs.declared.settings.InputFrom.TheVariants as input
use Rattle.wz_words.specs.Faults.{sample_limit}
use Rattle.wz_gen.specs.Sample.{sample_bytes}
use Rattle.wz_top.specs.Words.{input_name}

-- These are the bytes of the input of that name. Where files are told, there has to be one with these bytes.
abbrev pub IsInput : Told → Name → List ℕ → Type 0
IsInput told Standard bytes = IfSome told.stdin (λ there. there ≡ bytes)
IsInput told (File path) bytes = IfSome told.files (λ files. get files path ≡ Some bytes)

-- These are the bytes of the input that the settings name. A sample is told by itself.
abbrev pub IsInputFrom : Told → InputFrom → List ℕ → Type 0
IsInputFrom told input.Standard bytes = IsInput told Standard bytes
IsInputFrom told (input.Path path) bytes = IsInput told (File path) bytes
IsInputFrom told (input.Sample number) bytes = bytes ≡ sample_bytes number

-- it is told, and there
abbrev pub IsInputTold : Told → InputFrom → Type 0
IsInputTold told input.Standard = IsSome (input_of told Standard)
IsInputTold told (input.Path path) = IsSome (input_of told (File path))
IsInputTold told (input.Sample number) = ⊤

-- the input failed in this call; a sample can't
abbrev pub HasInputFailed : InputFrom → World → World → Type 0
HasInputFailed from before now = IsSomeAnd (input_name from) (λ name. HasFailed Input name before now)

-- that output holds these bytes and is closed, and all else stays
pub record HasWritten (output : Name) (right : List ℕ) (before now : World) : Type 0 where
  pub told : now.told ≡ with_output before.told output right
  pub current : now.current ≡ Some (record { side = Output; name = output; opened = false; failed = false })

-- `current` is as it was, or an input
abbrev pub IsInputOr : Option Current → Option Current → Type 0
IsInputOr before now = (now ≡ before) ⊎ IsSomeAnd now (λ c. c.side ≡ Input)

-- nothing that is told changed, and no output was opened
pub record OnlyRead (before now : World) : Type 0 where
  pub later : before.faults ≤ now.faults
  pub told : now.told ≡ before.told
  pub current : IsInputOr before.current now.current

-- `current` is the input of that name; where none was read, nothing at all changed
abbrev pub IsReadFrom : Option Name → World → World → Type 0
IsReadFrom None before now = now ≡ before
IsReadFrom (Some name) before now = IsSomeAnd now.current (λ c. (c.side ≡ Input) × (c.name ≡ name))

-- so it is after a reading, unless there was no memory for it
abbrev pub IsReadUnless : {T : Type 0} → Result T ReadAll → Option Name → World → World → Type 0
IsReadUnless (Err all.NoMemory) name before now = ⊤
IsReadUnless (Err all.Failed) name before now = IsReadFrom name before now
IsReadUnless (Err all.TooLong) name before now = IsReadFrom name before now
IsReadUnless (Ok read) name before now = IsReadFrom name before now

-- that output holds some first of these bytes, and all else stays; or nothing that is told changed
abbrev pub HoldsPrefix : Name → List ℕ → World → World → Type 0
HoldsPrefix output right before now = (now.told ≡ before.told) ⊎ ((n : ℕ) × (now.told ≡ with_output before.told output (take n right)))

-- a sample's number is one that words can give
abbrev pub IsSmallSample : InputFrom → Type 0
IsSmallSample input.Standard = ⊤
IsSmallSample (input.Path path) = ⊤
IsSmallSample (input.Sample number) = number ≤ sample_limit
