-- An instruction that is tried in place: it goes on as section 4.4 of the Core Specification has it, or nothing is changed.
use Rattle.std.specs.Prelude.{◌≡◌, ◌≤◌, ℕ, List, ◌∷◌, Bool, true, false}
use Rattle.wz_types.specs.declared.value.Value.{Value}
use Rattle.wz_types.specs.declared.value.Value.TheVariants.{I32}
use Rattle.wz_code.specs.declared.numeric.NumOp.{NumOp}
use Rattle.wz_code.specs.declared.instr.Instr.{Instr}
use Rattle.wz_code.specs.declared.instr.Instr.TheVariants.{Block, Loop, If, Br, BrIf, BrTable, Return, Call, CallIndirect, TableGrow, MemoryGrow}
use Rattle.wz_code.specs.BodyParts.{BodyParts}
use Rattle.wz_machine.specs.declared.plain.Plain.{Plain}
use Rattle.wz_machine.specs.declared.plain.Plain.TheVariants.{Went}
use Rattle.wz_machine.specs.PlainSteps.{used, NumberReply, Site, PlainReply}

-- the answer was that the block has so many values, or it was another one, and then the number that was had stays
abbrev pub HasGone : Bool → Plain → ℕ → ℕ → Type 0
HasGone true reply have now = reply ≡ Went now
HasGone false reply have now = ((n : ℕ) → reply ≡ Went n → ⊥) × (now ≡ have)

-- a numeric operation went, or nothing is changed
abbrev pub NumberTried : Bool → NumOp → ℕ → ℕ → List Value → List Value → Type 0
NumberTried true op have now own new = NumberReply (Went now) op have own new
NumberTried false op have now own new = (now ≡ have) × (new ≡ own)

-- the last value was zero and is gone, or nothing is changed
abbrev pub ZeroTaken : Bool → ℕ → ℕ → List Value → Type 0
ZeroTaken true have now own = (now ≤ have) × (used have own ≡ I32 0 ∷ used now own)
ZeroTaken false have now own = now ≡ have

-- the instruction went, in whatever body, or nothing is changed
abbrev pub PlainTried : Bool → Instr → ℕ → ℕ → Site → Site → Type 0
PlainTried true instr have now old new = (body : BodyParts) → PlainReply (Went now) body instr have old new
PlainTried false instr have now old new = (now ≡ have) × (new ≡ old)

-- blocks, branches, calls and growth, which are never plain but for a branch that isn't taken
abbrev pub is_control : Instr → Bool
is_control (Block shape body) = true
is_control (Loop shape body) = true
is_control (If shape first second) = true
is_control (Br label) = true
is_control (BrIf label) = true
is_control (BrTable first count last) = true
is_control Return = true
is_control (Call function) = true
is_control (CallIndirect signature table) = true
is_control (TableGrow table) = true
is_control (MemoryGrow memory) = true
is_control instr = false
