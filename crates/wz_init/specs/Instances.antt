-- Section 4.5.4 of the Core Specification (instantiation): what a module's instantiation comes to before its start.
use Rattle.std.specs.Prelude.{ℕ}
use Rattle.wz_store.specs.State.{StateOf}
use Rattle.wz_machine.specs.State.{FunctionInstance}

-- An instance; or the number of the first segment that doesn't fit into its table or memory; or none at all, which comes for no valid
-- module in the tool's profile.
pub data InstanceOf (F : Type 0) : Type 0 where
  Instance : StateOf F → InstanceOf F
  ElementUnfit : ℕ → InstanceOf F
  DataUnfit : ℕ → InstanceOf F
  NoInstance : InstanceOf F

-- functions with their instructions
abbrev pub Fresh : Type 0
Fresh = InstanceOf FunctionInstance

-- and then more is done with it
abbrev pub instance_then : {F : Type 0} → (StateOf F → InstanceOf F) → InstanceOf F → InstanceOf F
instance_then more (Instance s) = more s
instance_then more (ElementUnfit index) = ElementUnfit index
instance_then more (DataUnfit index) = DataUnfit index
instance_then more NoInstance = NoInstance
