-- A run of plain instructions on the machine's stacks: where the locals and the own values of the innermost entry lie among its values.
use Rattle.std.specs.Prelude.{◌≡◌, ◌≤◌, ◌-◌, ℕ, List, take, drop}
use Rattle.wz_types.specs.declared.value.Value.{Value}
use Rattle.wz_store.specs.declared.function.Function.{Function}
use Rattle.wz_store.specs.State.{StateOf}
use Rattle.wz_store.specs.Changes.{range_of}
use Rattle.wz_machine.specs.declared.run.Places.{Places}
use Rattle.wz_machine.specs.PlainSteps.{Site, site}

-- what a plain instruction works on
abbrev pub site_of : Places → List Value → StateOf Function → Site
site_of places values store =
    site (range_of values places.locals_at (places.locals_end - places.locals_at)) (drop places.height values) store

-- the places stand in this order
pub record AreInOrder (places : Places) (have : ℕ) : Type 0 where
  pub locals : places.locals_at ≤ places.locals_end
  pub own : places.locals_end ≤ places.height
  pub used : places.height ≤ have

-- what lies below the locals, and between them and the own values, is the same
pub record SameApart (places : Places) (values new : List Value) : Type 0 where
  pub below : take places.locals_at new ≡ take places.locals_at values
  pub between : range_of new places.locals_end (places.height - places.locals_end) ≡ range_of values places.locals_end (places.height - places.locals_end)
