-- What each call of `Files` and `Sink` does, from what is known before to what is known now. These
-- meanings are this tool's own: the WebAssembly Core Specification doesn't speak of files.
use Rattle.std.specs.Prelude.{◌≡◌, ℕ, ◌+◌, ◌≤◌, ◌<◌, true, false, List, [], Option, None, Some, Result, Ok, Err, OnOk, OnErr, IfOk, IfSome, ◌↔◌, IsErrOf, take, length}
use Rattle.std.specs.Option.{option_map}
use Rattle.std.specs.Io.KnownBytes.{prepend_known, append_known}
use Rattle.wz_io.specs.World.{World, Current, Told, Said, Name, Rose, input_of, IsThere, with_empty_output, with_more_output}
use Rattle.wz_io.specs.declared.files.Side.{Side}
use Rattle.wz_io.specs.declared.files.Side.TheVariants.{Input, Output}
use Rattle.wz_io.specs.declared.files.Failed.{Failed}
use Rattle.wz_io.specs.declared.files.OpenFault.{OpenFault}
use Rattle.wz_io.specs.declared.files.OpenFault.TheVariants as fault

-- what is current, as a function of the answer

abbrev pub current_after_opening : {T : Type 0} → Side → Name → Option Current → Result T OpenFault → Option Current
current_after_opening side name before (Ok _) = Some (record { side = side; name = name; opened = true; failed = false })
current_after_opening side name before (Err fault.Failed) = Some (record { side = side; name = name; opened = false; failed = true })
current_after_opening side name before (Err fault.NoMemory) = before

abbrev pub with_failure : Current → Current
with_failure c = record c { failed = true }

abbrev pub with_end : Current → Current
with_end c = record c { opened = false }

-- a read or a write
abbrev pub current_after_transfer : {T : Type 0} → Option Current → Result T Failed → Option Current
current_after_transfer before (Ok _) = before
current_after_transfer before (Err _) = option_map with_failure before

abbrev pub current_after_close : {T : Type 0} → Option Current → Result T Failed → Option Current
current_after_close before (Ok _) = option_map with_end before
current_after_close before (Err _) = option_map with_failure before

-- the name of what is current
abbrev pub current_name : Option Current → Name
current_name None = Name.Standard
current_name (Some c) = c.name

-- the bytes, as a function of the answer

abbrev pub told_after_create : {T E : Type 0} → Told → Name → Result T E → Told
told_after_create t name (Ok _) = with_empty_output t name
told_after_create t name (Err _) = t

abbrev pub told_after_write : {E : Type 0} → Told → Name → List ℕ → Result ℕ E → Told
told_after_write t name piece (Ok n) = with_more_output t name (take n piece)
told_after_write t name piece (Err _) = t

abbrev pub text_after_put : Option (List ℕ) → List ℕ → Result ℕ Failed → Option (List ℕ)
text_after_put before piece (Ok n) = append_known before (take n piece)
text_after_put before piece (Err _) = before

-- what was left before a read: the bytes that came are the first of it
abbrev pub left_before_read : Option (List ℕ) → List ℕ → Result ℕ Failed → Option (List ℕ)
left_before_read now buffer (Ok n) = prepend_known (take n buffer) now
left_before_read now buffer (Err _) = now

pub record Opens {T : Type 0} (name : Name) (before now : World) (result : Result T OpenFault) : Type 0 where
  pub later : before.faults ≤ now.faults
  pub cause : IsErrOf result fault.Failed → Rose before.faults now.faults
  pub current : now.current ≡ current_after_opening Input name before.current result
  pub told : now.told ≡ before.told
  pub there : OnOk result (IsThere before.told name)
  pub left : OnOk result (now.left ≡ input_of before.told name)
  pub kept : IsErrOf result fault.NoMemory → now ≡ before
  pub reads : now.reads ≡ before.reads

pub record Creates {T : Type 0} (name : Name) (before now : World) (result : Result T OpenFault) : Type 0 where
  pub later : before.faults ≤ now.faults
  pub cause : IsErrOf result fault.Failed → Rose before.faults now.faults
  pub current : now.current ≡ current_after_opening Output name before.current result
  pub told : now.told ≡ told_after_create before.told name result
  pub kept : IsErrOf result fault.NoMemory → now ≡ before
  pub reads : now.reads ≡ before.reads

pub record Reads (before now : World) (buffer : List ℕ) (result : Result ℕ Failed) : Type 0 where
  pub later : before.faults ≤ now.faults
  pub cause : OnErr result (Rose before.faults now.faults)
  pub current : now.current ≡ current_after_transfer before.current result
  pub told : now.told ≡ before.told
  pub bound : IfOk result (λ n. n ≤ length buffer)
  pub left : before.left ≡ left_before_read now.left buffer result
  -- nothing comes exactly where nothing was left
  pub ended : IfOk result (λ n. IfSome before.left (λ left. (n ≡ 0) ↔ (left ≡ [])))
  pub reads : now.reads ≤ before.reads + 1

pub record Writes (before now : World) (piece : List ℕ) (result : Result ℕ Failed) : Type 0 where
  pub later : before.faults ≤ now.faults
  pub cause : OnErr result (Rose before.faults now.faults)
  pub current : now.current ≡ current_after_transfer before.current result
  pub some : IfOk result (λ n. 0 < n)
  pub bound : IfOk result (λ n. n ≤ length piece)
  pub told : now.told ≡ told_after_write before.told (current_name before.current) piece result
  pub reads : now.reads ≡ before.reads

pub record Closes {T : Type 0} (before now : World) (result : Result T Failed) : Type 0 where
  pub later : before.faults ≤ now.faults
  pub cause : OnErr result (Rose before.faults now.faults)
  pub current : now.current ≡ current_after_close before.current result
  pub told : now.told ≡ before.told
  pub reads : now.reads ≡ before.reads

pub record Puts (before now : Said) (piece : List ℕ) (result : Result ℕ Failed) : Type 0 where
  pub later : before.faults ≤ now.faults
  pub cause : OnErr result (Rose before.faults now.faults)
  pub some : IfOk result (λ n. 0 < n)
  pub bound : IfOk result (λ n. n ≤ length piece)
  pub text : now.text ≡ text_after_put before.text piece result
