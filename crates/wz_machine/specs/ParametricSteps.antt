-- Section 4.4.4 of the Core Specification: parametric instructions. They read values alone.
use Rattle.std.specs.Prelude.{zero, suc, List, [], ◌∷◌}
use Rattle.wz_types.specs.declared.value.Value.{Value}
use Rattle.wz_types.specs.declared.value.Value.TheVariants.{I32}
use Rattle.wz_store.specs.Changes.{Nothing}
use Rattle.wz_machine.specs.Outcomes.{Effect, Yields, HasNoRule}

-- drop
abbrev pub drop_step : List Value → Effect
drop_step (value ∷ values) = Yields Nothing values
drop_step [] = HasNoRule

-- select t*, where c isn't 0, and where it is
abbrev pub select_step : List Value → Effect
select_step (I32 (suc c) ∷ second ∷ first ∷ values) = Yields Nothing (first ∷ values)
select_step (I32 zero ∷ second ∷ first ∷ values) = Yields Nothing (second ∷ values)
select_step values = HasNoRule
