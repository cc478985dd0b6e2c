-- Section 7.5 of the Core Specification (soundness, in the appendix), of a machine: its state and all terms that stand in it are typed.
use Rattle.wz_machine.specs.Machines.{MachineParts, machine_state, machine_stack}
use Rattle.wz_machine.specs.TypedTerms.{IsMachineTyped}

abbrev pub HoldsTyped : MachineParts → Type 0
HoldsTyped machine = IsMachineTyped (machine_state machine) (machine_stack machine)
