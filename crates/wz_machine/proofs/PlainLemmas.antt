-- What the answers of groups of plain instructions say of the step of section 4.4 of the Core Specification.
use Rattle.std.proofs.Common.{◌≡◌, ◌↔◌, ◌≤◌, ◌+◌, ◌-◌, ℕ, nat_le, Bool, true, false, if◌then◌else◌, IsTrue, List, [], ◌∷◌, ◌++◌, Option, Some, None, option_map, slice_get, take, drop, reverse, length, refl, ap, sym, subst, ◌∙◌, arith}
use Rattle.std.proofs.lemmas.Bool.Decides.{nat_tests}
use Rattle.std.specs.Bool.{OnTrue, OnFalse}
use Rattle.std.proofs.lemmas.List.{reverse-append, reverse-reverse, length-take-le, drop_at}
use Rattle.wz_types.specs.declared.types.ValType.{ValType}
use Rattle.wz_types.specs.declared.value.Value.{Value}
use Rattle.wz_code.specs.declared.numeric.NumOp.{NumOp}
use Rattle.wz_code.specs.Numeric.{types_of}
use Rattle.wz_types.specs.declared.value.Value.TheVariants.{I32}
use Rattle.wz_types.specs.declared.trap.TrapKind.TheVariants.{MemoryBounds}
use Rattle.wz_code.specs.declared.accesses.AccessShape.{AccessShape}
use Rattle.wz_linear.specs.Bytes.{IsWithin, bytes_of, written}
use Rattle.wz_num.specs.declared.answer.NumAnswer.{NumAnswer}
use Rattle.wz_num.specs.Number.{number}
use Rattle.wz_machine.specs.declared.plain.Plain.{Plain}
use Rattle.wz_machine.specs.declared.plain.Plain.TheVariants.{Went, Trapped, NoRule, Special}
use Rattle.wz_store.specs.declared.function.Function.{Function}
use Rattle.wz_store.specs.State.{Memory, StateOf}
use Rattle.wz_store.specs.Changes.{Nothing, WriteMemory}
use Rattle.wz_store.specs.Lending.{with_contents_at}
use Rattle.wz_bulk.specs.declared.bulk.Bulk.{Bulk}
use Rattle.wz_bulk.specs.Effects.{BulkEffect, Makes, Aborts, Misfits, bulk_answer, state_after}
use Rattle.wz_bulk.proofs.OptionLemmas.{found_of}
use Rattle.wz_bulk.proofs.MemoryLemmas.{contents_written, contents_kept}
use Rattle.wz_machine.specs.BulkSteps.{bulk_step}
use Rattle.wz_machine.specs.MemorySteps.{store_step, write_effect, bits_of_value}
use Rattle.wz_machine.specs.Terms.{AskFloat}
use Rattle.wz_machine.specs.Outcomes.{Effect, Yields, Poses, Fails}
use Rattle.wz_machine.specs.NumericSteps.{operation_step, result_effect}
use Rattle.wz_machine.specs.PlainSteps.{used, AnswerReply, NumberReply, operand_count, count_of, StoreReply}
use Rattle.wz_machine.specs.Operands.{IsOnTop, HasNumber, reply_of}

-- ---- operands of a question

-- the last values of a list, by their number
last_of : (xs vs rest : List Value) (below : ℕ) → reverse xs ≡ vs ++ reverse rest → length rest ≡ below → drop below xs ≡ reverse vs
last_of xs vs rest below is size =
    let whole : xs ≡ rest ++ reverse vs =
    sym (reverse-reverse xs) ∙ ap reverse is ∙ reverse-append vs (reverse rest) ∙ ap (λ (r : List Value). r ++ reverse vs) (reverse-reverse rest) in
    ap (λ (l : List Value). drop below l) whole ∙ drop_at rest (reverse vs) below size

-- ---- several operands

pub two_values : (own : List Value) (have : ℕ) (a b : Value) → IsOnTop b have own → IsOnTop a (have - 1) own → used have own ≡ b ∷ a ∷ used (have - 2) own
two_values own have a b last first =
    let at : have - 1 - 1 ≡ have - 2 = omega arith in last.values ∙ ap (λ vs. b ∷ vs) (first.values ∙ ap (λ n. a ∷ used n own) at)

pub three_values : (own : List Value) (have : ℕ) (a b d : Value) → IsOnTop d have own → IsOnTop b (have - 1) own → IsOnTop a (have - 2) own
    → used have own ≡ d ∷ b ∷ a ∷ used (have - 3) own
three_values own have a b d last middle first =
    let at : have - 2 - 1 ≡ have - 3 = omega arith in
    two_values own have b d last middle ∙ ap (λ vs. d ∷ b ∷ vs) (first.values ∙ ap (λ n. a ∷ used n own) at)

-- ---- numeric operations

one-step : (op : NumOp) (second : Option ValType) (values rest : List Value) (a : Value) (small : NumAnswer) → second ≡ None → values ≡ a ∷ rest → small ≡ number op (a ∷ [])
    → operation_step op second values ≡ result_effect op (a ∷ []) rest small
one-step op second values rest a small none is same = rw (none, is) (ap (λ n. result_effect op (a ∷ []) rest n) (sym same))

two-step : (op : NumOp) (second : Option ValType) (type : ValType) (values rest : List Value) (a b : Value) (small : NumAnswer) → second ≡ Some type → values ≡ b ∷ a ∷ rest
    → small ≡ number op (a ∷ b ∷ []) → operation_step op second values ≡ result_effect op (a ∷ b ∷ []) rest small
two-step op second type values rest a b small some is same = rw (some, is) (ap (λ n. result_effect op (a ∷ b ∷ []) rest n) (sym same))

-- An operation whose operands are the last of the values.
settles : (reply : Plain) (op : NumOp) (operands : List Value) (small : NumAnswer) (below have : ℕ) (own new : List Value)
    → operation_step op (types_of op).second (used have own) ≡ result_effect op operands (used below own) small
    → below + count_of op ≡ have → 1 ≤ count_of op → drop below (take have own) ≡ operands
    → AnswerReply reply small below own new → NumberReply reply op have own new
settles (Went n) op operands small below have own new steps count some last (at, (value, is, left)) =
    (omega arith, steps ∙ ap (λ x. result_effect op operands (used below own) x) is ∙ ap (λ vs. Yields Nothing vs) (sym left))
settles (Trapped kind) op operands small below have own new steps count some last (is, same) =
    (steps ∙ ap (λ x. result_effect op operands (used below own) x) is, same)
settles NoRule op operands small below have own new steps count some last (is, same) =
    (steps ∙ ap (λ x. result_effect op operands (used below own) x) is, same)
settles Special op operands small below have own new steps count some last (is, same) =
    let at : below ≡ have - count_of op = omega arith in
    let asks : operation_step op (types_of op).second (used have own) ≡ Poses (AskFloat op (drop below (take have own))) (used below own) =
    steps ∙ ap (λ x. result_effect op operands (used below own) x) is ∙ ap (λ vs. Poses (AskFloat op vs) (used below own)) (sym last) in
    (record { operands = omega arith; asks = asks ∙ ap (λ n. Poses (AskFloat op (drop n (take have own))) (used n own)) at }, same)

pub settles_one : (reply : Plain) (op : NumOp) (a : Value) (small : NumAnswer) (have : ℕ) (own new : List Value) → have ≤ length own → IsOnTop a have own
    → (types_of op).second ≡ None → small ≡ number op (a ∷ []) → AnswerReply reply small (have - 1) own new → NumberReply reply op have own new
settles_one reply op a small have own new room top none same r =
    let count : count_of op ≡ 1 = ap operand_count none in
    settles reply op (a ∷ []) small (have - 1) have own new (one-step op (types_of op).second (used have own) (used (have - 1) own) a small none top.values same)
    (omega (arith, top.there, count)) (omega (arith, count))
    (last_of (take have own) (a ∷ []) (take (have - 1) own) (have - 1) top.values (length-take-le (have - 1) own (omega (arith, room))))
    r

pub settles_two : (reply : Plain) (op : NumOp) (type : ValType) (a b : Value) (small : NumAnswer) (have : ℕ) (own new : List Value) → have ≤ length own → IsOnTop b have own
    → IsOnTop a (have - 1) own → (types_of op).second ≡ Some type → small ≡ number op (a ∷ b ∷ []) → AnswerReply reply small (have - 2) own new → NumberReply reply op have own new
settles_two reply op type a b small have own new room last first some same r =
    let count : count_of op ≡ 2 = ap operand_count some in
    let both : used have own ≡ b ∷ a ∷ used (have - 2) own = two_values own have a b last first in
    settles reply op (a ∷ b ∷ []) small (have - 2) have own new (two-step op (types_of op).second type (used have own) (used (have - 2) own) a b small some both same)
    (omega (arith, last.there, first.there, count)) (omega (arith, count))
    (last_of (take have own) (b ∷ a ∷ []) (take (have - 2) own) (have - 2) both (length-take-le (have - 2) own (omega (arith, room))))
    r

-- ---- instructions on ranges

bulk_replies : (below have : ℕ) (own : List Value) (store : StateOf Function) (effect : BulkEffect) → below ≤ have
    → StoreReply (reply_of below (bulk_answer effect)) (bulk_step (used below own) effect) have own store (state_after effect store)
bulk_replies below have own store (Makes change) room = (room, record { change = change; yields = refl; leaves = refl })
bulk_replies below have own store (Aborts kind) room = (refl, refl)
bulk_replies below have own store Misfits room = (refl, refl)

-- an instruction whose rule is that of a range, above so many values
pub bulk_reply : (reply : Plain) (rule : Effect) (below have : ℕ) (own : List Value) (store after : StateOf Function) (answer : Bulk) (effect : BulkEffect) → below ≤ have
    → rule ≡ bulk_step (used below own) effect → answer ≡ bulk_answer effect → after ≡ state_after effect store → reply ≡ reply_of below answer
    → StoreReply reply rule have own store after
bulk_reply reply rule below have own store after answer effect room is answered left replied =
    rw (replied, answered, is, left) (bulk_replies below have own store effect room)

-- ---- stores

fits : (place count size : ℕ) (done : Bool) → IsTrue done ↔ (place + count ≤ size) → nat_le (place + count) size ≡ done
fits place count size true test = let h = test.0 refl in grind (arith, nat_tests)
fits place count size false test = grind (arith, nat_tests, test.1)

stored : (done : Bool) (shape : AccessShape) (place index bits below have : ℕ) (own : List Value) (s : StateOf Function) (memory : Memory) (new : List ℕ) → below ≤ have
    → slice_get s.memories index ≡ Some memory → nat_le (place + shape.bytes) (length memory.bytes) ≡ done
    → OnTrue done (new ≡ written memory.bytes place (bytes_of shape.bytes bits)) → OnFalse done (new ≡ memory.bytes)
    → StoreReply (if done then Went below else Trapped MemoryBounds) (write_effect shape place index memory (Some bits) (used below own)) have own s (with_contents_at s index new)
stored true shape place index bits below have own s memory new room there within wrote left =
    let bytes = bytes_of shape.bytes bits in
    let effect : write_effect shape place index memory (Some bits) (used below own) ≡ Yields (WriteMemory index place bytes) (used below own) =
    ap (λ b. if b then Yields (WriteMemory index place bytes) (used below own) else Fails MemoryBounds) within in
    (room, record { change = WriteMemory index place bytes; yields = effect; leaves = contents_written s index place bytes memory new there wrote })
stored false shape place index bits below have own s memory new room there within wrote left =
    let bytes = bytes_of shape.bytes bits in
    (ap (λ b. if b then Yields (WriteMemory index place bytes) (used below own) else Fails MemoryBounds) within, contents_kept s index memory new there left)

-- a store whose operands are the last of the values, through a memory that was lent
pub store_replies : (reply : Plain) (done : Bool) (shape : AccessShape) (offset index base place bits have : ℕ) (value : Value) (own : List Value) (s : StateOf Function)
    (old new : List ℕ) → place ≡ base + offset → IsOnTop value have own → HasNumber base (have - 1) own → bits_of_value shape.value value ≡ Some bits
    → Some old ≡ option_map (λ (m : Memory). m.bytes) (slice_get s.memories index) → IsTrue done ↔ IsWithin old place shape.bytes
    → OnTrue done (new ≡ written old place (bytes_of shape.bytes bits)) → OnFalse done (new ≡ old)
    → reply ≡ (if done then Went (have - 2) else Trapped MemoryBounds)
    → StoreReply reply (store_step shape offset index (slice_get s.memories index) (used have own)) have own s (with_contents_at s index new)
store_replies reply done shape offset index base place bits have value own s old new at top under fit there within wrote left replied =
    let m = found_of (λ (m : Memory). m.bytes) (slice_get s.memories index) old (sym there) in
    let memory : Memory = m.0 in
    let same : old ≡ memory.bytes = sym m.2 in
    let rule : store_step shape offset index (slice_get s.memories index) (used have own) ≡ write_effect shape place index memory (Some bits) (used (have - 2) own) =
    ap (λ slot. store_step shape offset index slot (used have own)) m.1
    ∙ ap (λ vs. store_step shape offset index (Some memory) vs) (two_values own have (I32 base) value top under)
    ∙ ap (λ b. write_effect shape (base + offset) index memory b (used (have - 2) own)) fit
    ∙ ap (λ n. write_effect shape n index memory (Some bits) (used (have - 2) own)) (sym at) in
    let test : nat_le (place + shape.bytes) (length memory.bytes) ≡ done =
    ap (λ (b : List ℕ). nat_le (place + shape.bytes) (length b)) (sym same) ∙ fits place shape.bytes (length old) done within in
    let P : List ℕ → Type 0 = λ b. OnTrue done (new ≡ written b place (bytes_of shape.bytes bits)) in
    let Q : List ℕ → Type 0 = λ b. OnFalse done (new ≡ b) in
    rw (replied, rule)
    (stored done shape place index bits (have - 2) have own s memory new (omega arith) m.1 test (subst P same wrote) (subst Q same left))
