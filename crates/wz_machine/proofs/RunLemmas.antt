-- The machine's stacks after a run of plain instructions, by their fields.
use Rattle.std.proofs.Common.{◌≡◌, ◌≤◌, ◌+◌, ◌-◌, ℕ, List, ◌++◌, map, reverse, take, drop, length, ap, subst, ◌∙◌, arith}
use Rattle.std.proofs.lemmas.List.{length-take-le, take_all, append-nil}
use Rattle.std.proofs.Math.ListN.{drop_of_length-le}
use Rattle.wz_types.specs.declared.value.Value.{Value}
use Rattle.wz_code.specs.declared.instr.Instr.{Instr}
use Rattle.wz_code.specs.BodyParts.{BodyParts}
use Rattle.wz_store.specs.declared.function.Function.{Function}
use Rattle.wz_store.specs.State.{StateOf}
use Rattle.wz_machine.specs.declared.stacks.Stacks.TheInside.{Inside}
use Rattle.wz_machine.specs.Stacks.{StackParts, IsStacked}
use Rattle.wz_machine.specs.Kept.{entry_of}
use Rattle.wz_machine.specs.Straight.{point}
use Rattle.wz_machine.specs.Laps.{LapsTo}
use Rattle.wz_machine.specs.Running.{site_of, SameApart}
use Rattle.wz_machine.proofs.KeptLemmas.{parts_in}
use Rattle.wz_machine.proofs.SiteLemmas.{places_of}
use Rattle.wz_machine.proofs.LapLemmas.{HasRun, run_lands}

-- a vector whose items were written as a slice
pub items_written : (items new : List Value) (len : ℕ) → length new ≡ length items → len ≡ length items → take len (new ++ drop (length new) items) ≡ new
items_written items new len size is =
    ap (λ (vs : List Value). take len (new ++ vs)) (drop_of_length-le items (omega (arith, size))) ∙ ap (λ (vs : List Value). take len vs) (append-nil new)
    ∙ take_all len new (omega (arith, size, is))

-- What a run by the fields comes to: `room` are the values with room behind them, and `new` those after the run.
pub record IsRun (i : Inside) (room new : List Value) (made n : ℕ) (store after : StateOf Function) (rest : List Instr) : Type 0 where
  pub used : i.have ≤ length i.values.items
  pub stacked : IsStacked (parts_in i)
  pub held : take i.have room ≡ take i.have i.values.items
  pub fits : i.have ≤ length room
  pub apart : SameApart (places_of (entry_of i.top)) room new
  pub laps : LapsTo (entry_of i.top) made (point i.top.rest.now (i.have - i.top.height) (site_of (places_of (entry_of i.top)) room store))
      (point rest n (site_of (places_of (entry_of i.top)) new after))

-- the stacks with this code left, and these values
abbrev pub parts_with : Inside → List Instr → List Value → StackParts
parts_with i code values = record { top = record (entry_of i.top) { rest = code }; outer = reverse (map entry_of i.outer.items); values = values }

lands : (bodies : List BodyParts) (i : Inside) (room new : List Value) (made n : ℕ) (store after : StateOf Function) (rest : List Instr)
    → IsRun i room new made n store after rest → HasRun bodies (parts_in i) made store after (parts_with i rest (take (i.top.height + n) new))
lands bodies i room new made n store after rest r =
    let len : length (take i.have i.values.items) ≡ i.have = length-take-le i.have i.values.items r.used in
    run_lands bodies (parts_in i) room new i.have made n store after rest r.stacked r.held r.fits (omega (arith, len, r.stacked.within)) r.apart r.laps

-- the same, where the values are spelled as the fields have them
pub run_lands_at : (bodies : List BodyParts) (s : StackParts) (i : Inside) (room new : List Value) (made n : ℕ) (store after : StateOf Function) (rest : List Instr)
    (values : List Value) → parts_in i ≡ s → IsRun i room new made n store after rest → take (i.top.height + n) new ≡ values
    → HasRun bodies s made store after (parts_with i rest values)
run_lands_at bodies s i room new made n store after rest values view r whole =
    let P : StackParts → List Value → Type 0 = λ x vs. HasRun bodies x made store after (parts_with i rest vs) in
    let one : P (parts_in i) (take (i.top.height + n) new) = lands bodies i room new made n store after rest r in
    let two : P s (take (i.top.height + n) new) = subst (λ (x : StackParts). P x (take (i.top.height + n) new)) view one in
    subst (λ (vs : List Value). P s vs) whole two
