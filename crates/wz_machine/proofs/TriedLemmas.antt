-- From what became of an instruction that is tried to what is said of it, and of a run that tries one.
use Rattle.std.proofs.Common.{◌≡◌, ℕ, List, [], Bool, true, false, refl, ap, sym, subst, arith}
use Rattle.wz_types.specs.declared.value.Value.{Value}
use Rattle.wz_code.specs.declared.numeric.NumOp.{NumOp}
use Rattle.wz_code.specs.declared.instr.Instr.{Instr}
use Rattle.wz_code.specs.declared.instr.Instr.TheVariants.{Block, Loop, If, Br, BrIf, BrTable, Return, Call, CallIndirect, TableGrow, MemoryGrow, Num}
use Rattle.wz_code.specs.BodyParts.{BodyParts}
use Rattle.wz_store.specs.declared.function.Function.{Function}
use Rattle.wz_store.specs.State.{StateOf}
use Rattle.wz_store.specs.Changes.{Nothing}
use Rattle.wz_machine.specs.declared.plain.Plain.{Plain}
use Rattle.wz_machine.specs.declared.plain.Plain.TheVariants.{Went, Trapped, NoRule, Special}
use Rattle.wz_machine.specs.ControlSteps.{br_if_step}
use Rattle.wz_machine.specs.Stacks.{StackParts}
use Rattle.wz_machine.specs.PlainSteps.{site, Site, NumberReply, Yielded, IsSpecial, PlainReply}
use Rattle.wz_machine.specs.PlainTurns.{IsSpecialTurn}
use Rattle.wz_machine.specs.Tried.{HasGone, NumberTried, ZeroTaken, PlainTried, is_control}
use Rattle.wz_machine.proofs.StraightLemmas.{IsRunning}
use Rattle.wz_machine.proofs.ReplyLemmas.{of_number}

no_body : BodyParts
no_body = record { locals = []; blocks = []; labels = []; types = [] }

-- an instruction of which the answer is known
pub plain_tried : (done : Bool) (reply : Plain) (instr : Instr) (have now : ℕ) (old new : Site) → HasGone done reply have now
    → ((body : BodyParts) → PlainReply reply body instr have old new) → PlainTried done instr have now old new
plain_tried true reply instr have now old new is r = λ body. subst (λ (x : Plain). PlainReply x body instr have old new) is (r body)
plain_tried false (Went n) instr have now old new is r = absurd (is.0 n refl)
plain_tried false (Trapped kind) instr have now old new is r = (is.1, (r no_body).2)
plain_tried false NoRule instr have now old new is r = (is.1, (r no_body).2)
plain_tried false Special instr have now old new is r = (is.1, (r no_body).1)

-- the same of one that memory may be refused for, and which was answered
pub number_tried : (done : Bool) (reply : Plain) (op : NumOp) (have now : ℕ) (own new : List Value) → HasGone done reply have now → NumberReply reply op have own new
    → NumberTried done op have now own new
number_tried true reply op have now own new is r = subst (λ (x : Plain). NumberReply x op have own new) is r
number_tried false (Went n) op have now own new is r = absurd (is.0 n refl)
number_tried false (Trapped kind) op have now own new is r = (is.1, r.1)
number_tried false NoRule op have now own new is r = (is.1, r.1)
number_tried false Special op have now own new is r = (is.1, r.1)

-- a numeric operation
pub of_number_tried : (done : Bool) (instr : Instr) (op : NumOp) (have now : ℕ) (locals own new : List Value) (store : StateOf Function) → instr ≡ Num op
    → NumberTried done op have now own new → PlainTried done instr have now (site locals own store) (site locals new store)
of_number_tried true instr op have now locals own new store is r = λ body. of_number (Went now) body instr op have locals own new store is r
of_number_tried false instr op have now locals own new store is r = (r.0, ap (λ (vs : List Value). site locals vs store) r.1)

-- a branch that isn't taken
pub of_zero_taken : (done : Bool) (instr : Instr) (label have now : ℕ) (locals own : List Value) (store : StateOf Function) → instr ≡ BrIf label
    → ZeroTaken done have now own → PlainTried done instr have now (site locals own store) (site locals own store)
of_zero_taken true instr label have now locals own store is r =
    λ body. rw is ((λ rest. refl), omega (arith, r.0), λ bodies. Yielded Nothing (ap (λ (vs : List Value). br_if_step label vs) r.1) refl refl)
of_zero_taken false instr label have now locals own store is r = (r, refl)

-- ---- what is never plain

pub control_special : (instr : Instr) (have : ℕ) (own : List Value) → is_control instr ≡ true → IsSpecial instr have own
control_special (Block shape body) have own e = tt
control_special (Loop shape body) have own e = tt
control_special (If shape first second) have own e = tt
control_special (Br label) have own e = tt
control_special (BrIf label) have own e = tt
control_special (BrTable first count last) have own e = tt
control_special Return have own e = tt
control_special (Call function) have own e = tt
control_special (CallIndirect signature table) have own e = tt
control_special (TableGrow table) have own e = tt
control_special (MemoryGrow memory) have own e = tt
control_special instr have own e = absurd (cc e)

pub control_turn : (instr : Instr) (s : StackParts) → is_control instr ≡ true → IsSpecialTurn instr s
control_turn (Block shape body) s e = tt
control_turn (Loop shape body) s e = tt
control_turn (If shape first second) s e = tt
control_turn (Br label) s e = tt
control_turn (BrIf label) s e = tt
control_turn (BrTable first count last) s e = tt
control_turn Return s e = tt
control_turn (Call function) s e = tt
control_turn (CallIndirect signature table) s e = tt
control_turn (TableGrow table) s e = tt
control_turn (MemoryGrow memory) s e = tt
control_turn instr s e = absurd (cc e)

-- ---- a run that has tried one in vain

pub still_running : (body : BodyParts) (code rest : List Instr) (limit started have now same room : ℕ) (old middle at : Site)
    → IsRunning body code rest limit started have now room old middle → same ≡ now → at ≡ middle → IsRunning body code rest limit started have same room old at
still_running body code rest limit started have now same room old middle at r is stays =
    subst (λ (n : ℕ). IsRunning body code rest limit started have n room old at) (sym is)
    (subst (λ (x : Site). IsRunning body code rest limit started have now room old x) (sym stays) r)
