-- Section 4.5.5 of the Core Specification (invocation): the term of a call from outside.
use Rattle.std.specs.Prelude.{ℕ, List, [], Option, Some, None, length}
use Rattle.wz_types.specs.declared.value.Value.{Value}
use Rattle.wz_types.specs.FunctionType.{FunctionType}
use Rattle.wz_machine.specs.declared.questions.HostTarget.TheVariants.{Import}
use Rattle.wz_machine.specs.State.{FunctionBody, OwnBody, ImportedBody, NoBody, Callable, callable_at, State}
use Rattle.wz_machine.specs.Terms.{Innermost, Frame, BareValues, AskHost, Standing, Runs, Waits}
use Rattle.wz_machine.specs.CallSteps.{starting_locals}

-- A function of the instance's own gives its frame. An import gives the question for the host alone; what the host gives is then the
-- values that are done.
abbrev pub entered_body : FunctionType → FunctionBody → List Value → Option Standing
entered_body type (OwnBody locals code) arguments = Some (Runs (Frame (length type.results) (starting_locals locals arguments) (Innermost [] code)))
entered_body type (ImportedBody number) arguments = Some (Waits (AskHost (Import number) arguments type) (BareValues []))
entered_body type NoBody arguments = None

abbrev pub entered_callable : Option Callable → List Value → Option Standing
entered_callable None arguments = None
entered_callable (Some function) arguments = entered_body function.type function.body arguments

-- the arguments stand in the order of pushing; none where there is no such function
abbrev pub entered : State → ℕ → List Value → Option Standing
entered s function arguments = entered_callable (callable_at s.types s.functions function) arguments
