-- A run of plain instructions that begins the innermost loop anew, each time that a branch to it comes and takes no values along (sections
-- 4.4.8 and 4.4.9 of the Core Specification).
use Rattle.std.specs.Prelude.{◌≡◌, ◌≤◌, ◌⊎◌, ℕ, zero, suc, List, ◌∷◌, length}
use Rattle.wz_types.specs.declared.value.Value.{Value}
use Rattle.wz_code.specs.declared.instr.Instr.{Instr}
use Rattle.wz_code.specs.declared.instr.Instr.TheVariants.{Br, BrIf}
use Rattle.wz_machine.specs.Operands.{HasNumber}
use Rattle.wz_machine.specs.Stacks.{LoopEntry, Entry}
use Rattle.wz_machine.specs.Straight.{Point, GoesOn}

-- the last of so many values is a number of 32 bits other than zero
abbrev pub ConditionHolds : ℕ → List Value → Type 0
ConditionHolds have own = (number : ℕ) × HasNumber number have own × (number ≡ 0 → ⊥)

-- the instruction branches to the innermost label
abbrev pub BranchesBack : Instr → ℕ → List Value → Type 0
BranchesBack (Br label) have own = label ≡ 0
BranchesBack (BrIf label) have own = (label ≡ 0) × ConditionHolds have own
BranchesBack instr have own = ⊥

-- The innermost entry is a loop with these instructions, to which the first of the code branches; behind its values there is room for one by
-- each of them.
pub record Repeats (top : Entry) (code : List Instr) (have : ℕ) (own : List Value) (again : List Instr) : Type 0 where
  pub instr : Instr
  pub rest : List Instr
  pub first : code ≡ instr ∷ rest
  pub back : BranchesBack instr have own
  pub loop : top.kind ≡ LoopEntry again
  pub none : top.arity ≡ 0
  pub fits : length again ≤ length own

-- the loop begins anew, with none of its values
pub record GoesBack (top : Entry) (from to : Point) : Type 0 where
  pub repeats : Repeats top from.rest from.have from.at.own to.rest
  pub used : from.have ≤ length from.at.own
  pub none : to.have ≡ 0
  pub same : to.at ≡ from.at

-- so many instructions lead from one point to the other
abbrev pub LapsTo : Entry → ℕ → Point → Point → Type 0
LapsTo top zero from to = to ≡ from
LapsTo top (suc n) from to = (middle : Point) × LapsTo top n from middle × (GoesOn top.body middle to ⊎ GoesBack top middle to)
