-- Which functions may be ordered to run: those of the type [] to [] (section 3.4.10 of the Core Specification, as it asks of a start
-- function). This is the tool's own.
use Rattle.std.specs.Prelude.{◌≡◌, ℕ, [], Option, Some, None}
use Rattle.wz_module.specs.Module.{Module}
use Rattle.wz_valid_code.specs.Context.{function_type}
use Rattle.wz_valid.specs.Contexts.{context_of}
use Rattle.wz_init.specs.declared.order.RunOrder.{RunOrder}

-- the function is there
abbrev pub IsPlainFunction : Module → ℕ → Type 0
IsPlainFunction m function = function_type (context_of m) function ≡ Some (record { params = []; results = [] })

abbrev pub IsPlainWhereGiven : Module → Option ℕ → Type 0
IsPlainWhereGiven m None = Unit {0}
IsPlainWhereGiven m (Some function) = IsPlainFunction m function

pub record IsRunnable (m : Module) (order : RunOrder) : Type 0 where
  pub reactor_function : IsPlainWhereGiven m order.reactor
  pub init_function : IsPlainFunction m order.function
