-- Sections 4.4.6 and 4.4.7 of the Core Specification: what an instruction on ranges leaves above other values, and what a growth that
-- fails gives.
use Rattle.std.specs.Prelude.{◌-◌, ◌^◌, List}
use Rattle.wz_types.specs.declared.value.Value.{Value}
use Rattle.wz_types.specs.declared.value.Value.TheVariants.{I32}
use Rattle.wz_bulk.specs.Effects.{BulkEffect, Makes, Aborts, Misfits}
use Rattle.wz_machine.specs.Outcomes.{Effect, Yields, Fails, HasNoRule}

abbrev pub bulk_step : List Value → BulkEffect → Effect
bulk_step values (Makes change) = Yields change values
bulk_step values (Aborts kind) = Fails kind
bulk_step values Misfits = HasNoRule

abbrev pub minus_one : Value
minus_one = I32 (2 ^ 32 - 1)
