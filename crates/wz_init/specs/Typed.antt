-- Section 7.5 of the Core Specification (soundness, in the appendix), of a module's own states: a valid module's fresh instance and the state
-- that its run reaches are typed, and no run of it comes to a step without a rule.
use Rattle.std.specs.Prelude.{◌≡◌, ℕ, ◌<◌, List}
use Rattle.std.specs.List.{All}
use Rattle.wz_module.specs.Module.{Module}
use Rattle.wz_valid.specs.Validity.{IsValid}
use Rattle.wz_valid.specs.Profile.{IsInProfile}
use Rattle.wz_machine.specs.State.{State}
use Rattle.wz_machine.specs.TypedState.{IsStateTyped, state_context}
use Rattle.wz_machine.specs.TypedSteps.{NoneStuck}
use Rattle.wz_machine.specs.Exports.{ExportInstance}
use Rattle.wz_machine.specs.Moves.{Move}
use Rattle.wz_init.specs.declared.order.Phase.{Phase}
use Rattle.wz_init.specs.declared.order.RunOrder.{RunOrder}
use Rattle.wz_init.specs.Instances.{Instance}
use Rattle.wz_init.specs.Instantiation.{fresh}
use Rattle.wz_init.specs.Run.{NoRuleFits}
use Rattle.wz_init.specs.Ready.{Reached, StoppedIn, ready}
use Rattle.wz_init.specs.Orders.{IsRunnable}

-- The grammar gives nothing else (section 5.5.14), but a module as such is a list of numbers here.
abbrev pub DatasHoldBytes : Module → Type 0
DatasHoldBytes m = All (λ segment. All (λ byte. byte < 256) segment.bytes) m.datas

-- the fresh instance
abbrev pub FreshIsTyped : Type 0
FreshIsTyped = (m : Module) (s : State) → IsValid m → IsInProfile m → DatasHoldBytes m → fresh m ≡ Instance s → IsStateTyped (state_context s) s

-- the state that is reached by functions without parameters
abbrev pub RunIsTyped : Type 0
RunIsTyped = (m : Module) (order : RunOrder) (s : State) (ticks : ℕ) → IsValid m → IsInProfile m → DatasHoldBytes m → IsRunnable m order
    → ready m order ≡ Reached s ticks → IsStateTyped (state_context s) s

-- whatever phase stops, it isn't for want of a rule
abbrev pub RunIsNeverStuck : Type 0
RunIsNeverStuck = (m : Module) (order : RunOrder) (phase : Phase) → IsValid m → IsInProfile m → DatasHoldBytes m → IsRunnable m order
    → ready m order ≡ StoppedIn phase NoRuleFits → ⊥

-- ---- sessions

-- no list of moves from the fresh instance meets a step without a rule
abbrev pub FreshIsNeverStuck : Type 0
FreshIsNeverStuck = (m : Module) (s : State) (exports : List ExportInstance) (moves : List Move) → IsValid m → IsInProfile m → DatasHoldBytes m
    → fresh m ≡ Instance s → NoneStuck s exports moves

-- nor from the state that is reached
abbrev pub ReachedIsNeverStuck : Type 0
ReachedIsNeverStuck = (m : Module) (order : RunOrder) (s : State) (ticks : ℕ) (exports : List ExportInstance) (moves : List Move) → IsValid m → IsInProfile m
    → DatasHoldBytes m → IsRunnable m order → ready m order ≡ Reached s ticks → NoneStuck s exports moves
