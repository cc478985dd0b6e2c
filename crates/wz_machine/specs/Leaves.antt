-- Code and terms each instruction of which is such. Steps keep this, since all code that they put anywhere is a part of what was there
-- or of a function's body.
use Rattle.std.specs.Prelude.{List, [], ◌∷◌, Option, Some, None}
use Rattle.wz_code.specs.Trees.{Code, End, Then, InBlock, InLoop, InIf, Leaf}
use Rattle.wz_machine.specs.State.{FunctionBody, OwnBody, ImportedBody, NoBody, FunctionInstance}
use Rattle.wz_machine.specs.Terms.{Inside, Innermost, InLabel, InFrame, Term, Frame, BareValues, Standing, Runs, Waits}
use Rattle.wz_machine.specs.Outcomes.{Outcome, Does, SetsLocals, Jumps, Quits, Calls, Reduct, Goes, Finishes, Branches, Returns, Pauses, Traps, Sticks, Answer, Next, Done, Trap, Ask, Stuck}

abbrev pub CodeHas : (Leaf → Type 0) → Code → Type 0
CodeHas Is End = Unit {0}
CodeHas Is (Then leaf rest) = Is leaf × CodeHas Is rest
CodeHas Is (InBlock shape inner rest) = CodeHas Is inner × CodeHas Is rest
CodeHas Is (InLoop shape inner rest) = CodeHas Is inner × CodeHas Is rest
CodeHas Is (InIf shape first second rest) = CodeHas Is first × CodeHas Is second × CodeHas Is rest

-- a loop's instructions
abbrev pub AgainHas : (Leaf → Type 0) → Option Code → Type 0
AgainHas Is None = Unit {0}
AgainHas Is (Some again) = CodeHas Is again

-- ---- terms

abbrev pub InsideHas : (Leaf → Type 0) → Inside → Type 0
InsideHas Is (Innermost values code) = CodeHas Is code
InsideHas Is (InLabel below count again inside rest) = AgainHas Is again × InsideHas Is inside × CodeHas Is rest
InsideHas Is (InFrame below count own inside rest) = InsideHas Is inside × CodeHas Is rest

abbrev pub TermHas : (Leaf → Type 0) → Term → Type 0
TermHas Is (Frame count locals inside) = InsideHas Is inside
TermHas Is (BareValues values) = Unit {0}

abbrev pub StandingHas : (Leaf → Type 0) → Standing → Type 0
StandingHas Is (Runs term) = TermHas Is term
StandingHas Is (Waits question rest) = TermHas Is rest

abbrev pub StackHas : (Leaf → Type 0) → List Standing → Type 0
StackHas Is [] = Unit {0}
StackHas Is (standing ∷ below) = StandingHas Is standing × StackHas Is below

-- ---- functions

abbrev pub BodyHas : (Leaf → Type 0) → FunctionBody → Type 0
BodyHas Is (OwnBody locals code) = CodeHas Is code
BodyHas Is (ImportedBody number) = Unit {0}
BodyHas Is NoBody = Unit {0}

abbrev pub FunctionsHave : (Leaf → Type 0) → List FunctionInstance → Type 0
FunctionsHave Is [] = Unit {0}
FunctionsHave Is (function ∷ functions) = BodyHas Is function.body × FunctionsHave Is functions

-- ---- what a step comes to

abbrev pub OutcomeHas : (Leaf → Type 0) → Outcome → Type 0
OutcomeHas Is (Does effect) = Unit {0}
OutcomeHas Is (SetsLocals locals values) = Unit {0}
OutcomeHas Is (Jumps label values) = Unit {0}
OutcomeHas Is (Quits values) = Unit {0}
OutcomeHas Is (Calls count inner code values) = CodeHas Is code

abbrev pub ReductHas : (Leaf → Type 0) → Reduct → Type 0
ReductHas Is (Goes change new inside) = InsideHas Is inside
ReductHas Is (Finishes values) = Unit {0}
ReductHas Is (Branches label values) = Unit {0}
ReductHas Is (Returns values) = Unit {0}
ReductHas Is (Pauses question inside) = InsideHas Is inside
ReductHas Is (Traps kind) = Unit {0}
ReductHas Is Sticks = Unit {0}

abbrev pub AnswerHas : (Leaf → Type 0) → Answer → Type 0
AnswerHas Is (Next change term) = TermHas Is term
AnswerHas Is (Done values) = Unit {0}
AnswerHas Is (Trap kind) = Unit {0}
AnswerHas Is (Ask question rest) = TermHas Is rest
AnswerHas Is Stuck = Unit {0}
