-- What the fields of a term in a machine stand for.
use Rattle.std.specs.Prelude.{ℕ, Option, option_map}
use Rattle.wz_machine.specs.declared.standing.Pending.{Pending}
use Rattle.wz_machine.specs.declared.standing.Pending.TheVariants as pending
use Rattle.wz_machine.specs.declared.standing.Work.{Work}
use Rattle.wz_machine.specs.declared.standing.Work.TheVariants as work
use Rattle.wz_machine.specs.Standings.{WorkParts, StacksWork, ValuesWork, Asking, AskingFloat, AskingMemory, AskingTable, AskingHost, StandingParts}

abbrev pub asking_of : Pending → Asking
asking_of (pending.Float op) = AskingFloat op
asking_of (pending.Memory index by) = AskingMemory index by
asking_of (pending.Table index by value) = AskingTable index by value
asking_of (pending.Host target kind) = AskingHost target kind.now

abbrev pub work_parts : Work → WorkParts
work_parts (work.Stacks stacks) = StacksWork stacks
work_parts (work.Values values) = ValuesWork values.items

abbrev pub standing_parts : Work → Option Pending → ℕ → StandingParts
standing_parts work question count = record {
  work = work_parts work;
  question = option_map (λ pending. asking_of pending) question;
  count = count;
}
