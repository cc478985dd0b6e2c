-- What a machine is, once a `&mut` to its store that was handed out has ended.
use Rattle.std.specs.Prelude.{[]}
use Rattle.std.specs.Borrow.{Lends, MutBor, Fml, RattleType}
use mir.Syntax.{named}
use Rattle.wz_machine.specs.Machines.{MachinePartsOver}
use Rattle.wz_machine.specs.contracts.machine.MachineOver.{the_row as machine}

module _ (S : RattleType) where
  -- the machine's type, as the logic holds it
  abbrev pub machine_row : RattleType
  machine_row = machine (record { mir = named 1; lft = [] }) S

  -- the machine has the store that was left behind r, and its bodies and terms as they were
  abbrev pub LendsStore : MutBor (MachinePartsOver S.Denot) → MutBor S.Denot → Fml
  LendsStore m r = Lends machine_row S m r (λ store. record m.now { store = store })
