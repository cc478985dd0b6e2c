-- Steps that are told by one bit.
use Rattle.std.proofs.Common.{◌≡◌, List, ◌∷◌, Bool, true, false, refl, sym, ◌∙◌}
use Rattle.wz_code.specs.declared.instr.Instr.{Instr}
use Rattle.wz_store.specs.Changes.{Nothing}
use Rattle.wz_machine.specs.State.{State}
use Rattle.wz_machine.specs.Outcomes.{Next}
use Rattle.wz_machine.specs.Step.{step}
use Rattle.wz_machine.specs.Stacks.{StackParts, stacks_term}
use Rattle.wz_machine.specs.Straight.{changes_table}
use Rattle.wz_machine.specs.Advance.{StepsOn}
use Rattle.wz_machine.specs.AtOnce.{SparesTables}
use Rattle.wz_machine.proofs.AdvanceLemmas.{table_next}

-- the instruction in front changes no table
pub spares_made : (made : Bool) (s : StackParts) (instr : Instr) (rest : List Instr) → s.top.rest ≡ instr ∷ rest → changes_table instr ≡ false → SparesTables made s
spares_made true s instr rest first none = sym (table_next s instr rest first) ∙ none
spares_made false s instr rest first none = tt

-- one that was made is one of a run
pub steps_on : (st : State) (s now : StackParts) → step st (stacks_term s) ≡ Next Nothing (stacks_term now) → SparesTables true s
    → StepsOn st (stacks_term s) st (stacks_term now)
steps_on st s now goes spares = record { change = Nothing; goes = goes; state = refl; spares = spares }
