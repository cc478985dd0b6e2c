-- A run of plain instructions, one after the other: so many steps that went on, within one block (section 4.4 of the Core Specification).
use Rattle.std.specs.Prelude.{◌≡◌, ℕ, zero, suc, List, ◌∷◌, Bool, true, false, IsFalse}
use Rattle.wz_code.specs.declared.instr.Instr.{Instr}
use Rattle.wz_code.specs.declared.instr.Instr.TheVariants.{TableSet, TableInit, TableCopy, TableGrow, TableFill}
use Rattle.wz_code.specs.BodyParts.{BodyParts}
use Rattle.wz_machine.specs.declared.plain.Plain.TheVariants.{Went}
use Rattle.wz_machine.specs.PlainSteps.{Site, PlainReply}

-- the instructions that change a table, in whatever state
abbrev pub changes_table : Instr → Bool
changes_table (TableSet table) = true
changes_table (TableInit segment table) = true
changes_table (TableCopy to from) = true
changes_table (TableGrow table) = true
changes_table (TableFill table) = true
changes_table instr = false

-- a point of a run: the instructions that are left of the block, how many of its own values are used, and what they work on
pub record Point : Type 0 where
  pub rest : List Instr
  pub have : ℕ
  pub at : Site

abbrev pub point : List Instr → ℕ → Site → Point
point rest have at = record { rest = rest; have = have; at = at }

-- the first of the instructions that are left went on, and it changes no table
pub record GoesOn (body : BodyParts) (from to : Point) : Type 0 where
  pub instr : Instr
  pub first : from.rest ≡ instr ∷ to.rest
  pub spares : IsFalse (changes_table instr)
  pub went : PlainReply (Went to.have) body instr from.have from.at to.at

-- so many instructions of a body lead from one point to the other
abbrev pub RunsTo : BodyParts → ℕ → Point → Point → Type 0
RunsTo body zero from to = to ≡ from
RunsTo body (suc n) from to = (middle : Point) × RunsTo body n from middle × GoesOn body middle to
