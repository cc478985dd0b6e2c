-- What was put into a sink of messages.
use Rattle.std.specs.Prelude.{◌≡◌, ℕ, ◌≤◌, List, take, length}
use Rattle.std.specs.Io.KnownBytes.{append_known}
use Rattle.wz_io.specs.World.{Said, Rose}

-- these bytes were put, and nothing else
pub record SaysAll (bytes : List ℕ) (before now : Said) : Type 0 where
  pub later : before.faults ≤ now.faults
  pub text : now.text ≡ append_known before.text bytes

-- the sink failed, and some first of these bytes were put
pub record SaysFirst (bytes : List ℕ) (before now : Said) : Type 0 where
  pub later : before.faults ≤ now.faults
  pub rose : Rose before.faults now.faults
  pub count : ℕ
  pub within : count ≤ length bytes
  pub text : now.text ≡ append_known before.text (take count bytes)
