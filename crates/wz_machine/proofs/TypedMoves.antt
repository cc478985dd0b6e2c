-- What is done with a machine from outside keeps it typed.
use Rattle.std.proofs.Common.{◌≡◌, ◌∙◌, ℕ, zero, suc, Bool, true, false, List, [], ◌∷◌, Result, Ok, Err, IfOk, OnOk, OnErr, sym, ap, subst}
use Rattle.wz_types.specs.declared.value.Value.{Value}
use Rattle.wz_code.specs.BodyParts.{BodyParts}
use Rattle.wz_num.specs.Laws.{NumbersServe}
use Rattle.wz_store.specs.Made.{StoreState}
use Rattle.wz_store.specs.Changes.{applied}
use Rattle.wz_machine.specs.declared.advance.Advance.{Advance}
use Rattle.wz_machine.specs.State.{State, state_of}
use Rattle.wz_machine.specs.Terms.{Term, Standing, Runs, Waits}
use Rattle.wz_machine.specs.Outcomes.{Answer}
use Rattle.wz_machine.specs.Moves.{Move, CallMove, TickMove}
use Rattle.wz_machine.specs.Exports.{ExportInstance, ExternalFunction}
use Rattle.wz_machine.specs.Replies.{Reply, answer_reply, function_reply}
use Rattle.wz_machine.specs.Sessions.{move_reply}
use Rattle.wz_machine.specs.Machines.{MachineParts, machine_state, machine_stack, IsReplied}
use Rattle.wz_machine.specs.Advance.{StepsOn, Reaches, IsAdvance, StandingAdvanced, StackAdvanced, StackAdvancedPart}
use Rattle.wz_machine.specs.TypedTerms.{IsMachineTyped}
use Rattle.wz_machine.specs.TypedSteps.{IsReplyTyped}
use Rattle.wz_machine.specs.TypedMachines.{HoldsTyped}
use Rattle.wz_machine.proofs.ChangeLemmas.{change_reaches_state}
use Rattle.wz_machine.proofs.StuckSessions.{move_keeps_typing}

-- ---- one move

replied : (old new : MachineParts) (reply : Reply) → IsReplied old new reply → machine_state new ≡ applied reply.change (machine_state old)
replied old new reply h =
    ap (λ (bodies : List BodyParts). state_of bodies new.store) h.bodies ∙ ap (λ (store : StoreState). state_of old.bodies store) h.store
    ∙ change_reaches_state old.bodies old.store reply.change

module _ (numbers : NumbersServe) where
  replied_typed : (exports : List ExportInstance) (move : Move) (old new : MachineParts) → HoldsTyped old
      → IsReplied old new (move_reply exports (machine_state old) (machine_stack old) move) → HoldsTyped new
  replied_typed exports move old new typed h =
      let s = machine_state old in
      let reply = move_reply exports s (machine_stack old) move in
      let kept : IsReplyTyped s reply = move_keeps_typing numbers exports s (machine_stack old) move typed in
      subst (λ (x : State). IsMachineTyped x (machine_stack new)) (sym (replied old new reply h))
      (subst (λ (x : List Standing). IsMachineTyped (applied reply.change s) x) (sym h.stack) kept.machine)

  -- it was made, or refused
  pub move_typed : {T E : Type 0} (move : Move) (old new : MachineParts) (r : Result T E)
      → OnOk r (IsReplied old new (move_reply [] (machine_state old) (machine_stack old) move)) → OnErr r (new ≡ old) → HoldsTyped old → HoldsTyped new
  move_typed move old new (Ok done) made same typed = replied_typed [] move old new typed made
  move_typed move old new (Err fault) made same typed = subst (λ (m : MachineParts). HoldsTyped m) (sym same) typed

  -- a call of a function, by whatever name
  pub call_typed : {T E : Type 0} (function : ℕ) (values : List Value) (old new : MachineParts) (r : Result T E)
      → OnOk r (IsReplied old new (function_reply (machine_state old) (machine_stack old) function values)) → OnErr r (new ≡ old) → HoldsTyped old → HoldsTyped new
  call_typed function values old new (Ok done) made same typed =
      replied_typed (record { name = []; value = ExternalFunction function } ∷ []) (CallMove [] values) old new typed made
  call_typed function values old new (Err fault) made same typed = subst (λ (m : MachineParts). HoldsTyped m) (sym same) typed

  -- ---- many steps of the topmost term

  step_typed : (below : List Standing) (s after : State) (term new : Term) → StepsOn s term after new → IsMachineTyped s (Runs term ∷ below)
      → IsMachineTyped after (Runs new ∷ below)
  step_typed below s after term new on typed =
      let kept = (move_keeps_typing numbers [] s (Runs term ∷ below) TickMove typed).machine in
      let made : IsMachineTyped (applied on.change s) (Runs new ∷ below) =
      subst (λ (a : Answer). IsMachineTyped (applied (answer_reply term below a).change s) (answer_reply term below a).stack) on.goes kept in
      subst (λ (x : State). IsMachineTyped x (Runs new ∷ below)) (sym on.state) made

  reaches_typed : (n : ℕ) (below : List Standing) (s after : State) (term new : Term) → Reaches n s term after new → IsMachineTyped s (Runs term ∷ below)
      → IsMachineTyped after (Runs new ∷ below)
  reaches_typed zero below s after term new h typed =
      subst (λ (x : State). IsMachineTyped x (Runs new ∷ below)) (sym h.0)
      (subst (λ (x : Term). IsMachineTyped s (Runs x ∷ below)) (sym h.1) typed)
  reaches_typed (suc n) below s after term new h typed = step_typed below h.0 after h.1 new h.3 (reaches_typed n below s h.0 term h.1 h.2 typed)

  advance_typed : (entered : Bool) (limit made : ℕ) (below : List Standing) (s after : State) (term new : Term)
      → IsAdvance entered limit made s term after new → IsMachineTyped s (Runs term ∷ below) → IsMachineTyped after (Runs new ∷ below)
  advance_typed true limit zero below s after term new h typed = absurd h
  advance_typed true limit (suc n) below s after term new h typed = step_typed below h.0 after h.1 new h.3 (reaches_typed n below s h.0 term h.1 h.2 typed)
  advance_typed false limit made below s after term new h typed = reaches_typed made below s after term new h.0 typed

  standing_typed : (entered : Bool) (limit made : ℕ) (below : List Standing) (s after : State) (top now : Standing)
      → StandingAdvanced entered limit made s top after now → IsMachineTyped s (top ∷ below) → IsMachineTyped after (now ∷ below)
  standing_typed entered limit made below s after (Runs term) now h typed =
      subst (λ (x : Standing). IsMachineTyped after (x ∷ below)) (sym h.1) (advance_typed entered limit made below s after term h.0 h.2 typed)
  standing_typed entered limit made below s after (Waits question rest) now h typed =
      subst (λ (x : State). IsMachineTyped x (now ∷ below)) (sym h.1) (subst (λ (x : Standing). IsMachineTyped s (x ∷ below)) (sym h.2) typed)

  stack_typed : (entered : Bool) (limit made : ℕ) (s after : State) (stack new : List Standing) → StackAdvanced entered limit made s stack after new
      → IsMachineTyped s stack → IsMachineTyped after new
  stack_typed entered limit made s after [] new h typed =
      subst (λ (x : State). IsMachineTyped x new) (sym h.1) (subst (λ (x : List Standing). IsMachineTyped s x) (sym h.2) typed)
  stack_typed entered limit made s after (top ∷ below) new h typed =
      subst (λ (x : List Standing). IsMachineTyped after x) (sym h.1) (standing_typed entered limit made below s after top h.0 h.2 typed)

  pub advanced_typed : {E : Type 0} (limit : ℕ) (old new : MachineParts) (r : Result Advance E)
      → IfOk r (λ done. StackAdvanced done.entered limit done.made (machine_state old) (machine_stack old) (machine_state new) (machine_stack new))
      → OnErr r (StackAdvancedPart limit (machine_state old) (machine_stack old) (machine_state new) (machine_stack new)) → HoldsTyped old → HoldsTyped new
  advanced_typed limit old new (Ok done) made part typed =
      stack_typed done.entered limit done.made (machine_state old) (machine_state new) (machine_stack old) (machine_stack new) made typed
  advanced_typed limit old new (Err fault) made part typed =
      stack_typed false part.0 part.0 (machine_state old) (machine_state new) (machine_stack old) (machine_stack new) part.2 typed
