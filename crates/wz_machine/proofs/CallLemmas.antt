-- A call on the machine's stacks: what is kept.
use Rattle.std.proofs.Common.{◌≡◌, ◌≤◌, ◌<◌, ℕ, suc, ◌+◌, ◌-◌, ◌^◌, List, ◌++◌, length, take, drop, refl, ap, sym, ◌∙◌, arith}
use Rattle.std.proofs.lemmas.List.{length-append, length-take-le, take-take, drop-take, drop_at}
use Rattle.wz_types.specs.declared.value.Value.{Value}
use Rattle.wz_code.specs.declared.instr.Instr.{Instr}
use Rattle.wz_code.specs.BodyParts.{BodyParts, block_at}
use Rattle.wz_machine.specs.Stacks.{CallEntry, Entry, StackParts, HasRoom, IsCallIn, IsStacked}
use Rattle.wz_machine.specs.Opening.{stepped}
use Rattle.wz_machine.specs.Calling.{zeroed_locals, call_in, with_call}
use Rattle.wz_machine.proofs.KeptLemmas.{stacked-moved}

-- ---- locals behind the used values

pub put_length : (old new zeros : List Value) (used now : ℕ) → used ≤ length old → now ≤ length new → take now new ≡ take used old ++ zeros → now - used ≡ length zeros
put_length old new zeros used now within fits put =
    let first : length (take now new) ≡ now = length-take-le now new fits in
    let second : length (take used old) ≡ used = length-take-le used old within in
    let both : length (take now new) ≡ length (take used old) + length zeros = ap length put ∙ length-append (take used old) zeros in
    omega (arith, first, second, both)

pub put_moved : (old mid new zeros : List Value) (used have now : ℕ) → used ≤ length old → have ≤ used → used ≤ now → take now mid ≡ take used old ++ zeros
    → take used mid ≡ take used old → take (have + (now - used)) new ≡ take have mid ++ take (now - used) (drop used mid)
    → take (have + (now - used)) new ≡ take have old ++ zeros
put_moved old mid new zeros used have now within le more put kept moved =
    let all : used + (now - used) ≡ now = omega (arith, more) in
    let front : take have mid ≡ take have old = sym (take-take have used mid le) ∙ ap (λ (xs : List Value). take have xs) kept ∙ take-take have used old le in
    let back : take (now - used) (drop used mid) ≡ zeros =
    sym (drop-take used (now - used) mid) ∙ ap (λ (n : ℕ). drop used (take n mid)) all ∙ ap (λ (xs : List Value). drop used xs) put
    ∙ drop_at (take used old) zeros used (length-take-le used old within) in
    moved ∙ ap (λ (xs : List Value). xs ++ take (now - used) (drop used mid)) front ∙ ap (λ (xs : List Value). take have old ++ xs) back

-- ---- behind an instruction

pub stepped-stacked : (s : StackParts) (rest : List Instr) (have : ℕ) → have ≤ length s.values → s.top.height ≤ have → IsStacked s → IsStacked (stepped s rest have)
stepped-stacked s rest have within own is =
    let len : length (take have s.values) ≡ have = length-take-le have s.values within in
    record {
      within = omega (arith, len, own);
      room = record { base = is.room.base; locals = is.room.locals; height = is.room.height; counted = is.room.counted };
      stacked = stacked-moved s.top rest s.outer is.stacked;
      few = is.few;
      small = is.small;
    }

-- ---- a call is entered

pub call_entry : (around : Entry) (body : BodyParts) (rest : List Instr) (results have params zeros : ℕ) → rest ≡ block_at body.blocks 0
    → zeros ≡ length (zeroed_locals body) → params ≤ have
    → ◌≡◌ {A = Entry} (record {
      kind = CallEntry;
      body = body;
      rest = rest;
      arity = results;
      base = have - params;
      locals_at = have - params;
      locals_end = have + zeros;
      height = have + zeros;
      depth = 0;
      frames = around.frames + 1;
      frame_locals = around.frame_locals + (params + zeros);
    }) (call_in around body results (have - params) (have + length (zeroed_locals body)))
call_entry around body rest results have params zeros code count le =
    let frames : around.frames + 1 ≡ suc around.frames = omega arith in
    let locals : params + zeros ≡ have + length (zeroed_locals body) - (have - params) = omega (arith, count, le) in
    let end : have + zeros ≡ have + length (zeroed_locals body) = ap (λ (n : ℕ). have + n) count in
    let sum : around.frame_locals + (params + zeros) ≡ around.frame_locals + (have + length (zeroed_locals body) - (have - params)) =
    ap (λ (n : ℕ). around.frame_locals + n) locals in
    cc (code, frames, end, sum)

pub with_call-stacked : (s : StackParts) (rest : List Instr) (body : BodyParts) (have params results : ℕ) → have ≤ length s.values → s.top.height + params ≤ have
    → s.top.frames < 2 ^ 32 → params + length (zeroed_locals body) + s.top.frame_locals ≤ 2 ^ 32 → IsStacked s → IsStacked (with_call s rest body have params results)
with_call-stacked s rest body have params results within own few small is =
    let around : Entry = record s.top { rest = rest } in
    let new : Entry = call_in s.top body results (have - params) (have + length (zeroed_locals body)) in
    let front : length (take have s.values) ≡ have = length-take-le have s.values within in
    let len : length (take have s.values ++ zeroed_locals body) ≡ length (take have s.values) + length (zeroed_locals body) =
    length-append (take have s.values) (zeroed_locals body) in
    let base : s.top.height ≤ have - params = omega (arith, own) in
    let locals : have + length (zeroed_locals body) - (have - params) ≡ params + length (zeroed_locals body) = omega (arith, own) in
    let counted : s.top.frame_locals ≤ have - params = omega (arith, is.room.counted, is.room.height, base) in
    let room : HasRoom around = record { base = is.room.base; locals = is.room.locals; height = is.room.height; counted = is.room.counted } in
    let inner : IsCallIn new around = record { depth = refl; base = omega arith; frames = refl; frame_locals = refl } in
    record {
      within = omega (arith, len, front);
      room = record { base = omega arith; locals = omega arith; height = omega arith; counted = omega (arith, locals, counted, own) };
      stacked = (inner, base, room, stacked-moved s.top rest s.outer is.stacked);
      few = omega (arith, few);
      small = omega (arith, locals, small);
    }
