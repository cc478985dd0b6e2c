-- One plain instruction at the split of the machine's values, as what is said of its step.
use Rattle.std.proofs.Common.{◌≡◌, ◌≤◌, ◌<◌, ◌+◌, ◌-◌, ℕ, List, ◌∷◌, ◌++◌, Option, Some, None, Result, Ok, Err, OnErr, take, drop, reverse, length, refl, ap, sym, subst, ◌∙◌, arith}
use Rattle.std.proofs.lemmas.List.{length-take-le, take-take, drop-take, drop-drop}
use Rattle.wz_types.specs.declared.types.ValType.{ValType}
use Rattle.wz_types.specs.declared.trap.TrapKind.{TrapKind}
use Rattle.wz_types.specs.declared.value.Value.{Value}
use Rattle.wz_code.specs.declared.numeric.NumOp.{NumOp}
use Rattle.wz_code.specs.declared.instr.Instr.{Instr}
use Rattle.wz_code.specs.declared.instr.Instr.TheVariants.{Block, Loop, If, Br, BrIf, BrTable, Return, Call, CallIndirect, TableGrow, MemoryGrow, Num}
use Rattle.wz_code.specs.BodyParts.{BodyParts}
use Rattle.wz_code.specs.Numeric.{types_of}
use Rattle.wz_code.specs.Trees.{leaf_in}
use Rattle.wz_store.specs.declared.function.Function.{Function}
use Rattle.wz_store.specs.State.{StateOf}
use Rattle.wz_store.specs.Changes.{range_of}
use Rattle.wz_machine.specs.declared.plain.Plain.{Plain}
use Rattle.wz_machine.specs.declared.plain.Plain.TheVariants.{Went, Trapped, NoRule, Special}
use Rattle.wz_machine.specs.declared.run.Places.{Places}
use Rattle.wz_machine.specs.State.{state_of}
use Rattle.wz_machine.specs.Terms.{AskFloat}
use Rattle.wz_machine.specs.Outcomes.{Poses, Does, Fails, HasNoRule, Traps, Trap}
use Rattle.wz_machine.specs.Outcomes as outcome
use Rattle.wz_machine.specs.NumericSteps.{operation_step}
use Rattle.wz_machine.specs.InstrSteps.{leaf_step}
use Rattle.wz_machine.specs.Step.{step}
use Rattle.wz_machine.specs.Flat.{content_of, layers_in, results_of, locals_in, own_values}
use Rattle.wz_machine.specs.Stacks.{StackParts, opened_of, flat_of, stacks_term, IsStacked, last_values, first_values}
use Rattle.wz_machine.specs.Asks.{AsksFloat}
use Rattle.wz_machine.specs.PlainSteps.{used, Site, step_at, HoldsNone, IsSpecial, IsAsked, operand_count, count_of, PlainReply}
use Rattle.wz_machine.specs.Running.{site_of, AreInOrder, SameApart}
use Rattle.wz_machine.specs.declared.stacks.Stacks.TheInside.{Inside}
use Rattle.wz_machine.specs.Kept.{entry_of, stack_parts}
use Rattle.wz_machine.specs.PlainTurns.{IsSpecialTurn, PlainTurned}
use Rattle.wz_machine.proofs.KeptLemmas.{parts_in}
use Rattle.wz_machine.proofs.RunLemmas.{items_written, parts_with}
use Rattle.wz_machine.proofs.ContextLemmas.{step_within}
use Rattle.wz_machine.proofs.EntryLemmas.{sticks-step}
use Rattle.wz_machine.proofs.ControlLemmas.{locals_of, leaf-reduct}
use Rattle.wz_machine.proofs.SiteLemmas.{places_of, values-split, HasWent, went_lands}

-- ---- what the machine's stacks have at the split

own-part : (s : StackParts) (values : List Value) (have : ℕ) → take have values ≡ s.values → s.top.height ≤ have
    → drop s.top.height s.values ≡ take (have - s.top.height) (drop s.top.height values)
own-part s values have held own =
    ap (λ (vs : List Value). drop s.top.height vs) (sym held)
    ∙ ap (λ n. drop s.top.height (take n values)) (omega (arith, own)) ∙ drop-take s.top.height (have - s.top.height) values

locals-part : (s : StackParts) (values : List Value) (have : ℕ) → IsStacked s → take have values ≡ s.values → s.top.height ≤ have
    → locals_in (opened_of s.top) s.values ≡ range_of values s.top.locals_at (s.top.locals_end - s.top.locals_at)
locals-part s values have stacked held own =
    let from : ℕ = s.top.locals_at in
    let size : ℕ = s.top.locals_end - s.top.locals_at in
    ap (λ (vs : List Value). take size (drop from vs)) (sym held)
    ∙ ap (λ n. take size (drop from (take n values))) (omega (arith, own, stacked.room.locals, stacked.room.height))
    ∙ ap (λ (vs : List Value). take size vs) (drop-take from (have - from) values)
    ∙ take-take size (have - from) (drop from values) (omega (arith, own, stacked.room.locals, stacked.room.height))

-- the definition's step of the leaf in front
pub site-step : (bodies : List BodyParts) (s : StackParts) (values : List Value) (have : ℕ) (store : StateOf Function) (instr : Instr) → IsStacked s
    → take have values ≡ s.values → s.top.height ≤ have
    → leaf_step (state_of bodies store) (locals_of s) (leaf_in s.top.body instr) (own_values (opened_of s.top) s.values)
    ≡ step_at s.top.body instr (have - s.top.height) (site_of (places_of s.top) values store) bodies
site-step bodies s values have store instr stacked held own =
    ap (λ (ls : List Value). leaf_step (state_of bodies store) ls (leaf_in s.top.body instr) (own_values (opened_of s.top) s.values)) (locals-part s values have stacked held own)
    ∙ ap (λ (vs : List Value). leaf_step (state_of bodies store) (range_of values s.top.locals_at (s.top.locals_end - s.top.locals_at)) (leaf_in s.top.body instr) (reverse vs))
    (own-part s values have held own)

pub traps-at : (bodies : List BodyParts) (s : StackParts) (values : List Value) (have : ℕ) (store : StateOf Function) (instr : Instr) (rest : List Instr) (kind : TrapKind)
    → IsStacked s → take have values ≡ s.values → s.top.height ≤ have → s.top.rest ≡ instr ∷ rest → HoldsNone s.top.body instr
    → step_at s.top.body instr (have - s.top.height) (site_of (places_of s.top) values store) bodies ≡ Does (Fails kind)
    → step (state_of bodies store) (stacks_term s) ≡ Trap kind
traps-at bodies s values have store instr rest kind stacked held own first alone fails =
    (step_within (state_of bodies store) (results_of (flat_of s).top (flat_of s).outer) (layers_in (flat_of s)) (content_of (flat_of s))).traps kind
    (leaf-reduct (state_of bodies store) s instr rest (leaf_in s.top.body instr) (own_values (opened_of s.top) s.values) (Does (Fails kind)) first (alone _) refl
    (site-step bodies s values have store instr stacked held own ∙ fails))

pub sticks-at : (bodies : List BodyParts) (s : StackParts) (values : List Value) (have : ℕ) (store : StateOf Function) (instr : Instr) (rest : List Instr)
    → IsStacked s → take have values ≡ s.values → s.top.height ≤ have → s.top.rest ≡ instr ∷ rest → HoldsNone s.top.body instr
    → step_at s.top.body instr (have - s.top.height) (site_of (places_of s.top) values store) bodies ≡ Does HasNoRule
    → step (state_of bodies store) (stacks_term s) ≡ outcome.Stuck
sticks-at bodies s values have store instr rest stacked held own first alone fails =
    sticks-step (state_of bodies store) s
    (leaf-reduct (state_of bodies store) s instr rest (leaf_in s.top.body instr) (own_values (opened_of s.top) s.values) (Does HasNoRule) first (alone _) refl
    (site-step bodies s values have store instr stacked held own ∙ fails))

-- ---- a float operation that asks

one-operand : (second : Option ValType) → 1 ≤ operand_count second
one-operand None = omega arith
one-operand (Some type) = omega arith

pub asks-at : (op : NumOp) (s : StackParts) (values : List Value) (have : ℕ) → take have values ≡ s.values → have ≤ length values → s.top.height ≤ have
    → IsAsked op (have - s.top.height) (drop s.top.height values) → AsksFloat op (count_of op) s
asks-at op s values have held fits own asked =
    let height : ℕ = s.top.height in
    let n : ℕ = have - height in
    let count : ℕ = count_of op in
    let size : length s.values ≡ have = ap length (sym held) ∙ length-take-le have values fits in
    let part : drop height s.values ≡ take n (drop height values) = own-part s values have held own in
    let at : height + (n - count) ≡ length s.values - count = omega (arith, size, asked.operands, own) in
    let last : drop (n - count) (take n (drop height values)) ≡ last_values count s.values =
    ap (λ (vs : List Value). drop (n - count) vs) (sym part) ∙ drop-drop (n - count) height s.values ∙ ap (λ k. drop k s.values) at in
    let under : take (n - count) (drop height values) ≡ drop height (first_values count s.values) =
    sym (take-take (n - count) n (drop height values) (omega arith))
    ∙ ap (λ (vs : List Value). take (n - count) vs) (sym part)
    ∙ sym (drop-take height (n - count) s.values) ∙ ap (λ k. drop height (take k s.values)) at in
    record {
      operands = omega (arith, size, asked.operands, own);
      some = one-operand (types_of op).second;
      asks = ap (λ (vs : List Value). operation_step op (types_of op).second (reverse vs)) part ∙ asked.asks
          ∙ ap (λ (vs : List Value). Poses (AskFloat op vs) (used (n - count) (drop height values))) last
          ∙ ap (λ (vs : List Value). Poses (AskFloat op (last_values count s.values)) (reverse vs)) under;
    }

pub special-at : (instr : Instr) (s : StackParts) (values : List Value) (have : ℕ) → take have values ≡ s.values → have ≤ length values → s.top.height ≤ have
    → IsSpecial instr (have - s.top.height) (drop s.top.height values) → IsSpecialTurn instr s
special-at (Block shape body) s values have held fits own h = tt
special-at (Loop shape body) s values have held fits own h = tt
special-at (If shape first second) s values have held fits own h = tt
special-at (Br label) s values have held fits own h = tt
special-at (BrIf label) s values have held fits own h = tt
special-at (BrTable first count last) s values have held fits own h = tt
special-at Return s values have held fits own h = tt
special-at (Call function) s values have held fits own h = tt
special-at (CallIndirect signature table) s values have held fits own h = tt
special-at (TableGrow table) s values have held fits own h = tt
special-at (MemoryGrow memory) s values have held fits own h = tt
special-at (Num op) s values have held fits own h = asks-at op s values have held fits own h
special-at instr s values have held fits own h = absurd h

-- ---- where nothing is changed

pub values_same : (places : Places) (values new : List Value) (have : ℕ) (store after : StateOf Function) → AreInOrder places have → SameApart places values new
    → site_of places new after ≡ site_of places values store → (take have new ≡ take have values) × (after ≡ store)
values_same places values new have store after order apart same =
    let from = places.locals_at in
    let to = places.locals_end in
    let height = places.height in
    let n = have - height in
    let whole : height + n ≡ have = omega (arith, order.used) in
    let locals : range_of new from (to - from) ≡ range_of values from (to - from) = ap (λ (x : Site). x.locals) same in
    let own : drop height new ≡ drop height values = ap (λ (x : Site). x.own) same in (
      ap (λ k. take k new) (sym whole) ∙ values-split from to height n new order.locals order.own
          ∙ ap (λ (vs : List Value). vs ++ (range_of new from (to - from) ++ (range_of new to (height - to) ++ take n (drop height new)))) apart.below
          ∙ ap (λ (vs : List Value). take from values ++ (vs ++ (range_of new to (height - to) ++ take n (drop height new)))) locals
          ∙ ap (λ (vs : List Value). take from values ++ (range_of values from (to - from) ++ (vs ++ take n (drop height new)))) apart.between
          ∙ ap (λ (vs : List Value). take from values ++ (range_of values from (to - from) ++ (range_of values to (height - to) ++ take n vs))) own
          ∙ sym (values-split from to height n values order.locals order.own) ∙ ap (λ k. take k values) whole,
      ap (λ (x : Site). x.store) same,
    )

-- ---- by the fields of the machine's stacks

-- What stands where an instruction was run: `room` are the values with room behind them, `items` what the vector held, `new` what was
-- written to it, of this length.
pub record IsTurn (i : Inside) (s : StackParts) (room new items : List Value) (len : ℕ) : Type 0 where
  pub view : parts_in i ≡ s
  pub used : i.have ≤ length i.values.items
  pub stacked : IsStacked (parts_in i)
  pub whole : room ≡ items
  pub kept : take i.have items ≡ take i.have i.values.items
  pub longer : length i.values.items ≤ length items
  pub size : length new ≡ length room
  pub full : length room ≡ len
  pub apart : SameApart (places_of (entry_of i.top)) room new

-- the items of the vector then
abbrev pub items_after : List Value → List Value → ℕ → List Value
items_after new items len = take len (new ++ drop (length new) items)

after-is : (i : Inside) (s : StackParts) (room new items : List Value) (len : ℕ) → IsTurn i s room new items len → items_after new items len ≡ new
after-is i s room new items len t = items_written items new len (t.size ∙ ap length t.whole) (sym t.full ∙ ap length t.whole)

turn-held : (i : Inside) (s : StackParts) (room new items : List Value) (len : ℕ) → IsTurn i s room new items len → take i.have room ≡ take i.have i.values.items
turn-held i s room new items len t = ap (λ (vs : List Value). take i.have vs) t.whole ∙ t.kept

turn-fits : (i : Inside) (s : StackParts) (room new items : List Value) (len : ℕ) → IsTurn i s room new items len → i.have ≤ length room
turn-fits i s room new items len t = omega (arith, t.used, t.longer, ap length t.whole)

turn-own : (i : Inside) (s : StackParts) (room new items : List Value) (len : ℕ) → IsTurn i s room new items len → i.top.height ≤ i.have
turn-own i s room new items len t = omega (arith, t.stacked.within, length-take-le i.have i.values.items t.used)

-- nothing was changed
pub same_after : (i : Inside) (s : StackParts) (room new items : List Value) (len : ℕ) (store after : StateOf Function) → IsTurn i s room new items len
    → site_of (places_of (entry_of i.top)) new after ≡ site_of (places_of (entry_of i.top)) room store
    → (stack_parts i.top i.outer.items (items_after new items len) i.have ≡ s) × (after ≡ store)
same_after i s room new items len store after t same =
    let order : AreInOrder (places_of (entry_of i.top)) i.have =
    record { locals = t.stacked.room.locals; own = t.stacked.room.height; used = turn-own i s room new items len t } in
    let kept = values_same (places_of (entry_of i.top)) room new i.have store after order t.apart same in
    let values : take i.have (items_after new items len) ≡ take i.have i.values.items =
    ap (λ (vs : List Value). take i.have vs) (after-is i s room new items len t) ∙ kept.0 ∙ turn-held i s room new items len t in
    (ap (λ (vs : List Value). parts_with i i.top.rest.now vs) values ∙ t.view, kept.1)

abbrev pub NotWent : Plain → Type 0
NotWent (Went n) = ⊥
NotWent (Trapped kind) = Unit {0}
NotWent NoRule = Unit {0}
NotWent Special = Unit {0}

-- an instruction that didn't go
turned-in : (reply : Plain) (i : Inside) (s : StackParts) (room new items : List Value) (len : ℕ) (store after : StateOf Function) (instr : Instr) (rest : List Instr)
    → IsTurn i s room new items len → i.top.rest.now ≡ instr ∷ rest → NotWent reply
    → PlainReply reply i.top.body.now instr (i.have - i.top.height) (site_of (places_of (entry_of i.top)) room store) (site_of (places_of (entry_of i.top)) new after)
    → PlainTurned reply instr store (parts_in i) after (parts_in i) × (site_of (places_of (entry_of i.top)) new after ≡ site_of (places_of (entry_of i.top)) room store)
turned-in (Went n) i s room new items len store after instr rest t first halted r = absurd halted
turned-in (Trapped kind) i s room new items len store after instr rest t first halted r =
    let same = same_after i s room new items len store after t r.2 in (
      (
        (λ bodies. traps-at bodies (parts_in i) room i.have store instr rest kind t.stacked (turn-held i s room new items len t) (turn-own i s room new items len t) first r.0
            (r.1 bodies)),
        refl,
        same.1,
      ),
      r.2,
    )
turned-in NoRule i s room new items len store after instr rest t first halted r =
    let same = same_after i s room new items len store after t r.2 in (
      (
        (λ bodies. sticks-at bodies (parts_in i) room i.have store instr rest t.stacked (turn-held i s room new items len t) (turn-own i s room new items len t) first r.0
            (r.1 bodies)),
        refl,
        same.1,
      ),
      r.2,
    )
turned-in Special i s room new items len store after instr rest t first halted r =
    let same = same_after i s room new items len store after t r.1 in
    ((special-at instr (parts_in i) room i.have (turn-held i s room new items len t) (turn-fits i s room new items len t) (turn-own i s room new items len t) r.0, refl, same.1), r.1)

pub turned_after : (reply : Plain) (i : Inside) (s : StackParts) (room new items : List Value) (len : ℕ) (store after : StateOf Function) (instr : Instr) (rest : List Instr)
    → IsTurn i s room new items len → s.top.rest ≡ instr ∷ rest → NotWent reply
    → PlainReply reply i.top.body.now instr (i.have - i.top.height) (site_of (places_of (entry_of i.top)) room store) (site_of (places_of (entry_of i.top)) new after)
    → PlainTurned reply instr store s after (stack_parts i.top i.outer.items (items_after new items len) i.have)
turned_after reply i s room new items len store after instr rest t first halted r =
    let at : i.top.rest.now ≡ instr ∷ rest = ap (λ (x : StackParts). x.top.rest) t.view ∙ first in
    let turned = turned-in reply i s room new items len store after instr rest t at halted r in
    let same = same_after i s room new items len store after t turned.1 in
    let P : StackParts → StackParts → Type 0 = λ x y. PlainTurned reply instr store x after y in
    let half : P s (parts_in i) = subst (λ (x : StackParts). P x (parts_in i)) t.view turned.0 in
    subst (λ (y : StackParts). P s y) (t.view ∙ sym same.0) half

-- one that went
pub went_after : (bodies : List BodyParts) (i : Inside) (s : StackParts) (room new items : List Value) (len n : ℕ) (store after : StateOf Function) (instr : Instr)
    (rest : List Instr) → IsTurn i s room new items len → s.top.rest ≡ instr ∷ rest
    → PlainReply (Went n) i.top.body.now instr (i.have - i.top.height) (site_of (places_of (entry_of i.top)) room store) (site_of (places_of (entry_of i.top)) new after)
    → HasWent bodies s store after (parts_with i rest (take (i.top.height + n) (items_after new items len)))
went_after bodies i s room new items len n store after instr rest t first r =
    let at : i.top.rest.now ≡ instr ∷ rest = ap (λ (x : StackParts). x.top.rest) t.view ∙ first in
    let P : StackParts → List Value → Type 0 = λ x vs. HasWent bodies x store after (parts_with i rest (take (i.top.height + n) vs)) in
    let one : P (parts_in i) new =
    went_lands bodies (parts_in i) room new i.have n store after instr rest t.stacked (turn-held i s room new items len t) (turn-fits i s room new items len t)
    (turn-own i s room new items len t) t.apart at r in
    let two : P s new = subst (λ (x : StackParts). P x new) t.view one in
    subst (λ (vs : List Value). P s vs) (sym (after-is i s room new items len t)) two

pub went_used : (i : Inside) (s : StackParts) (room new items : List Value) (len n : ℕ) → IsTurn i s room new items len → i.have < length room
    → n ≤ i.have - i.top.height + 1 → i.top.height + n ≤ length (items_after new items len)
went_used i s room new items len n t fits le =
    omega (arith, ap length (after-is i s room new items len t), t.size, turn-own i s room new items len t, fits, le)

pub on_err : {T E : Type 0} {P : Type 0} (result : Result T E) → P → OnErr result P
on_err (Ok x) p = tt
on_err (Err e) p = p
