-- What a table or memory instruction makes of a state, where its operands are known: a change, a trap, or nothing,
-- since no reduction rule fits.
-- WebAssembly Core Specification 2.0, section 4.2.2 (results) and the reduction rules of sections 4.4.6 and 4.4.7.
use Rattle.std.specs.Prelude.{ℕ, ◌+◌, nat_le, Bool}
use Rattle.wz_types.specs.declared.trap.TrapKind.{TrapKind}
use Rattle.wz_store.specs.State.{StateOf}
use Rattle.wz_store.specs.Changes.{Change, applied}
use Rattle.wz_bulk.specs.declared.bulk.Bulk.{Bulk}
use Rattle.wz_bulk.specs.declared.bulk.Bulk.TheVariants.{Did, Trap, Stuck}

pub data BulkEffect : Type 0 where
  Makes : Change → BulkEffect
  Aborts : TrapKind → BulkEffect
  -- what is named isn't there, or a reference isn't of the table's kind
  Misfits : BulkEffect

-- a range that begins at a place ends within a list of this length, also where the range is empty
abbrev pub within : ℕ → ℕ → ℕ → Bool
within at count size = nat_le (at + count) size

-- what the call answers
abbrev pub bulk_answer : BulkEffect → Bulk
bulk_answer (Makes change) = Did
bulk_answer (Aborts kind) = Trap kind
bulk_answer Misfits = Stuck

-- what it leaves: a trap, too, leaves everything as it was
abbrev pub state_after : {F : Type 0} → BulkEffect → StateOf F → StateOf F
state_after (Makes change) s = applied change s
state_after (Aborts kind) s = s
state_after Misfits s = s
