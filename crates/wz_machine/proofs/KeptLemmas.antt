-- The fields of the machine's stacks are kept as they should be.
use Rattle.std.proofs.Common.{◌≡◌, ◌≤◌, ◌<◌, ℕ, zero, suc, ◌+◌, ◌-◌, ◌^◌, List, [], ◌∷◌, ◌++◌, length, take, drop, get_or, slice_get, Some, reverse, map, refl, ap, sym, subst, ◌∙◌, arith}
use Rattle.std.proofs.lemmas.List.{drop-take, take-take, take-map, length-take-le, length-map, length-append, length-reverse, map-append, reverse-append, get_or-map, get_or-reverse}
use Rattle.std.proofs.lemmas.Option.{slice_get-get_or}
use Rattle.wz_store.specs.Changes.{range_of}
use Rattle.wz_types.specs.declared.value.Value.{Value}
use Rattle.wz_code.specs.declared.instr.Instr.{Instr}
use Rattle.wz_machine.specs.declared.stacks.Opened.{Opened}
use Rattle.wz_machine.specs.declared.stacks.Stacks.TheInside.{Inside}
use Rattle.wz_machine.specs.Stacks.{EntryKind, CallEntry, BlockEntry, LoopEntry, Entry, StackParts, HasRoom, IsBlockIn, IsKindIn, AreStacked, IsStacked}
use Rattle.wz_machine.specs.Kept.{entry_of, stack_parts, AreKept}
use Rattle.wz_machine.specs.Opening.{IsBlockKind, block_in, with_block_opened, stepped}
use Rattle.wz_machine.specs.Landing.{IsLeft, IsAgain}
use Rattle.wz_machine.proofs.ListLemmas.{drop-back}

pub parts-same : (t u : Entry) (o p : List Entry) (v w : List Value) → t ≡ u → o ≡ p → v ≡ w
    → ◌≡◌ {A = StackParts} (record { top = t; outer = o; values = v }) (record { top = u; outer = p; values = w })
parts-same t u o p v w a b e = cc

-- fields that stand for stacks as they should be
pub kept-as : (s : StackParts) (top : Opened) (outer : List Opened) (values : List Value) (have : ℕ) → IsStacked s
    → entry_of top ≡ s.top → reverse (map entry_of outer) ≡ s.outer → take have values ≡ s.values → have ≤ length values → AreKept top outer values have
kept-as s top outer values have stacked is_top is_outer is_values used =
    let same : s ≡ stack_parts top outer values have = parts-same _ _ _ _ _ _ (sym is_top) (sym is_outer) (sym is_values) in
    record { used = used; stacked = subst (λ (t : StackParts). IsStacked t) same stacked }

abbrev pub parts_in : Inside → StackParts
parts_in i = stack_parts i.top i.outer.items i.values.items i.have

-- so many values are used
pub used-kept : (i : Inside) (s : StackParts) → parts_in i ≡ s → i.have ≤ length i.values.items → length s.values ≡ i.have
used-kept i s e within =
    let parts : take i.have i.values.items ≡ s.values = ap (λ (t : StackParts). t.values) e in
    sym (ap length parts) ∙ length-take-le i.have i.values.items within

pub values-kept : (i : Inside) (s : StackParts) (have : ℕ) → parts_in i ≡ s → i.have ≤ length i.values.items → have ≤ length s.values
    → take have i.values.items ≡ take have s.values
values-kept i s have e within le =
    let parts : take i.have i.values.items ≡ s.values = ap (λ (t : StackParts). t.values) e in
    let len : length s.values ≡ i.have = used-kept i s e within in
    let le_used : have ≤ i.have = omega (arith, le, len) in
    sym (take-take have i.have i.values.items le_used) ∙ ap (λ (vs : List Value). take have vs) parts

pub within-kept : (i : Inside) (s : StackParts) (have : ℕ) → parts_in i ≡ s → i.have ≤ length i.values.items → have ≤ length s.values → have ≤ length i.values.items
within-kept i s have e within le =
    let len : length s.values ≡ i.have = used-kept i s e within in
    omega (arith, le, len, within)

pub outer-push : (outer : List Opened) (around : Opened) → reverse (map entry_of (outer ++ around ∷ [])) ≡ entry_of around ∷ reverse (map entry_of outer)
outer-push outer around = ap (λ (es : List Entry). reverse es) (map-append entry_of outer (around ∷ [])) ∙ reverse-append (map entry_of outer) (entry_of around ∷ [])

-- ---- a block is entered

kind-in : (kind : EntryKind) (child parent : Entry) → IsBlockKind kind → IsBlockIn child parent → IsKindIn kind child parent
kind-in CallEntry child parent h b = absurd h
kind-in BlockEntry child parent h b = b
kind-in (LoopEntry again) child parent h b = b

-- the code that is left of an entry is no part of how it stands among the others
block-moved : (child parent : Entry) (rest : List Instr) → IsBlockIn child parent → IsBlockIn (record child { rest = rest }) parent
block-moved child parent rest h = record {
  depth = h.depth;
  starts = h.starts;
  ends = h.ends;
  locals = h.locals;
  height = h.height;
  frames = h.frames;
  frame_locals = h.frame_locals;
}

kind-moved : (kind : EntryKind) (child parent : Entry) (rest : List Instr) → IsKindIn kind child parent → IsKindIn kind (record child { rest = rest }) parent
kind-moved CallEntry child parent rest h = record { depth = h.depth; base = h.base; frames = h.frames; frame_locals = h.frame_locals }
kind-moved BlockEntry child parent rest h = block-moved child parent rest h
kind-moved (LoopEntry again) child parent rest h = block-moved child parent rest h

pub stacked-moved : (child : Entry) (rest : List Instr) (outer : List Entry) → AreStacked child outer → AreStacked (record child { rest = rest }) outer
stacked-moved child rest [] h = record { kind = h.kind; depth = h.depth; frames = h.frames; frame_locals = h.frame_locals }
stacked-moved child rest (parent ∷ parents) h = (kind-moved child.kind child parent rest h.0, h.1, h.2, h.3)

pub with_block-stacked : (s : StackParts) (rest : List Instr) (kind : EntryKind) (code : List Instr) (have params arity : ℕ)
    → IsBlockKind kind → have ≤ length s.values → s.top.height + params ≤ have → IsStacked s → IsStacked (with_block_opened s rest kind code have params arity)
with_block-stacked s rest kind code have params arity block within own stacked =
    let around : Entry = record s.top { rest = rest } in
    let new : Entry = block_in s.top kind code arity (have - params) in
    let len : length (take have s.values) ≡ have = length-take-le have s.values within in
    let base : s.top.height ≤ have - params = omega (arith, own) in
    let ends : s.top.locals_end ≤ have - params = omega (arith, base, stacked.room.height) in
    let room : HasRoom around = record { base = stacked.room.base; locals = stacked.room.locals; height = stacked.room.height; counted = stacked.room.counted } in
    let inner : IsBlockIn new around = record { depth = refl; starts = refl; ends = refl; locals = ends; height = refl; frames = refl; frame_locals = refl } in
    record {
      within = rw len (omega arith);
      room = record { base = omega arith; locals = stacked.room.locals; height = ends; counted = stacked.room.counted };
      stacked = (kind-in kind new around block inner, base, room, stacked-moved s.top rest s.outer stacked.stacked);
      few = stacked.few;
      small = stacked.small;
    }

-- ---- an instruction is left behind

pub stepped-stacked : (s : StackParts) (rest : List Instr) (have : ℕ) → s.top.height ≤ have → have ≤ length s.values → IsStacked s → IsStacked (stepped s rest have)
stepped-stacked s rest have own within stacked = record {
  within = rw (length-take-le have s.values within) own;
  room = record { base = stacked.room.base; locals = stacked.room.locals; height = stacked.room.height; counted = stacked.room.counted };
  stacked = stacked-moved s.top rest s.outer stacked.stacked;
  few = stacked.few;
  small = stacked.small;
}

-- ---- entries that are left

-- how the entry of a label stands in its parent
pub record FoundAt (child target parent : Entry) (parents : List Entry) : Type 0 where
  pub kind : IsKindIn target.kind target parent
  pub height : parent.height ≤ target.base
  pub room : HasRoom parent
  pub stacked : AreStacked parent parents
  pub own : HasRoom target
  pub base : target.base ≤ child.height
  pub few : target.frames ≤ child.frames
  pub small : target.frame_locals ≤ child.frame_locals

-- an entry begins below all that is within it
pub base-falls : (label : ℕ) (child target : Entry) (outer : List Entry) → HasRoom child → AreStacked child outer → slice_get (child ∷ outer) label ≡ Some target
    → target.base ≤ child.height
base-falls zero child target outer room stacked here =
    let e : child ≡ target = cc in
    subst (λ (t : Entry). t.base ≤ child.height) e room.base
base-falls (suc label) child target [] room stacked here = cc
base-falls (suc label) child target (first ∷ outer) room stacked here =
    omega (arith, base-falls label first target outer stacked.2 stacked.3 here, stacked.1, room.base)

pub counts-fall : (kind : EntryKind) (child parent : Entry) → IsKindIn kind child parent → (parent.frames ≤ child.frames) × (parent.frame_locals ≤ child.frame_locals)
counts-fall CallEntry child parent h = (omega (arith, h.frames), omega (arith, h.frame_locals))
counts-fall BlockEntry child parent h = (omega (arith, h.frames), omega (arith, h.frame_locals))
counts-fall (LoopEntry again) child parent h = (omega (arith, h.frames), omega (arith, h.frame_locals))

found-same : (child target first parent : Entry) (parents : List Entry) → child ≡ target → first ≡ parent → FoundAt child child first parents → FoundAt child target parent parents
found-same child target first parent parents e f h =
    subst (λ (p : Entry). FoundAt child target p parents) f (subst (λ (t : Entry). FoundAt child t first parents) e h)

found-outwards : (child next target parent : Entry) (parents : List Entry) → next.height ≤ child.height → (next.frames ≤ child.frames) × (next.frame_locals ≤ child.frame_locals)
    → FoundAt next target parent parents → FoundAt child target parent parents
found-outwards child next target parent parents le fall h = record {
  kind = h.kind;
  height = h.height;
  room = h.room;
  stacked = h.stacked;
  own = h.own;
  base = omega (arith, h.base, le);
  few = omega (arith, h.few, fall.0);
  small = omega (arith, h.small, fall.1);
}

pub found-at : (label : ℕ) (child target parent : Entry) (outer : List Entry) → HasRoom child → AreStacked child outer → slice_get (child ∷ outer) label ≡ Some target
    → slice_get outer label ≡ Some parent → FoundAt child target parent (drop (suc label) outer)
found-at label child target parent [] room stacked here around = cc
found-at zero child target parent (first ∷ outer) room stacked here around =
    found-same child target first parent outer (cc) (cc)
    (record { kind = stacked.0; height = stacked.1; room = stacked.2; stacked = stacked.3; own = room; base = room.base; few = omega arith; small = omega arith })
found-at (suc label) child target parent (first ∷ outer) room stacked here around =
    found-outwards child first target parent (drop (suc label) outer) (omega (arith, stacked.1, room.base)) (counts-fall child.kind child first stacked.0)
    (found-at label first target parent outer stacked.2 stacked.3 here around)

pub left-stacked : (s now : StackParts) (label have count : ℕ) (target : Entry) → IsStacked s → slice_get (s.top ∷ s.outer) label ≡ Some target
    → have ≤ length s.values → target.base + count ≤ have → IsLeft s label target.base have count now → IsStacked now
left-stacked s now label have count target stacked here within carried left =
    let found : FoundAt s.top target now.top (drop (suc label) s.outer) = found-at label s.top target now.top s.outer stacked.room stacked.stacked here left.parent in
    let fall : (now.top.frames ≤ target.frames) × (now.top.frame_locals ≤ target.frame_locals) = counts-fall target.kind target now.top found.kind in
    let base : length (take target.base s.values) ≡ target.base = length-take-le target.base s.values (omega (arith, within, carried)) in
    let len : length now.values ≡ target.base + length (range_of s.values (have - count) count) =
    ap length left.values ∙ length-append (take target.base s.values) (range_of s.values (have - count) count) ∙ ap (λ n. n + length (range_of s.values (have - count) count)) base in
    record {
      within = omega (arith, len, found.height);
      room = found.room;
      stacked = subst (λ (es : List Entry). AreStacked now.top es) (sym left.outer) found.stacked;
      few = omega (arith, fall.0, found.few, stacked.few);
      small = omega (arith, fall.1, found.small, stacked.small);
    }

-- from the entry of the label on, what is around is stacked as it was
target-stacked : (label : ℕ) (child target : Entry) (outer : List Entry) → AreStacked child outer → slice_get (child ∷ outer) label ≡ Some target
    → label < length outer → AreStacked target (drop label outer)
target-stacked zero child target outer stacked here lt = subst (λ (t : Entry). AreStacked t outer) (cc) stacked
target-stacked (suc label) child target [] stacked here lt = absurd (omega (arith, lt))
target-stacked (suc label) child target (first ∷ []) stacked here lt = absurd (omega (arith, lt))
target-stacked (suc label) child target (first ∷ second ∷ outer) stacked here lt =
    target-stacked label first target (second ∷ outer) stacked.3 here (omega (arith, lt))

loop-height : (kind : EntryKind) (again : List Instr) (child parent : Entry) → kind ≡ LoopEntry again → IsKindIn kind child parent → child.height ≡ child.base
loop-height CallEntry again child parent is h = cc
loop-height BlockEntry again child parent is h = cc
loop-height (LoopEntry code) again child parent is h = h.height

again-as : (now : StackParts) (top : Entry) (outer : List Entry) → top ≡ now.top → outer ≡ now.outer
    → IsStacked (record { top = top; outer = outer; values = now.values }) → IsStacked now
again-as now top outer e f h = subst (λ (t : StackParts). IsStacked t) (parts-same top now.top outer now.outer now.values now.values e f refl) h

pub again-stacked : (s now : StackParts) (label have count : ℕ) (target : Entry) (again : List Instr) → IsStacked s → slice_get (s.top ∷ s.outer) label ≡ Some target
    → label < length s.outer → target.kind ≡ LoopEntry again → have ≤ length s.values → target.base + count ≤ have
    → IsAgain s label target again have count now → IsStacked now
again-stacked s now label have count target again stacked here lt is within carried begun =
    let parent : Entry = get_or s.outer label s.top in
    let around : slice_get s.outer label ≡ Some parent = slice_get-get_or s.outer label s.top lt in
    let found : FoundAt s.top target parent (drop (suc label) s.outer) = found-at label s.top target parent s.outer stacked.room stacked.stacked here around in
    let base : length (take target.base s.values) ≡ target.base = length-take-le target.base s.values (omega (arith, within, carried)) in
    let len : length now.values ≡ target.base + length (range_of s.values (have - count) count) =
    ap length begun.values ∙ length-append (take target.base s.values) (range_of s.values (have - count) count) ∙ ap (λ n. n + length (range_of s.values (have - count) count)) base in
    let height : target.height ≡ target.base = loop-height target.kind again target parent is found.kind in
    let new : Entry = record target { rest = again } in
    let all : AreStacked new (drop label s.outer) = stacked-moved target again (drop label s.outer) (target-stacked label s.top target s.outer stacked.stacked here lt) in
    let room : HasRoom new = record { base = found.own.base; locals = found.own.locals; height = found.own.height; counted = found.own.counted } in
    let few : new.frames ≤ 2 ^ 32 = omega (arith, found.few, stacked.few) in
    let small : new.frame_locals ≤ 2 ^ 32 = omega (arith, found.small, stacked.small) in
    let fits : new.height ≤ length now.values = omega (arith, len, height) in
    again-as now new (drop label s.outer) (sym begun.top) (sym begun.outer)
    (record { within = fits; room = room; stacked = all; few = few; small = small })

-- ---- by the fields

outer-get : (outer : List Opened) (label : ℕ) (d : Opened) → label < length outer
    → slice_get (reverse (map entry_of outer)) label ≡ Some (entry_of (get_or outer (length outer - 1 - label) d))
outer-get outer label d lt =
    let es : List Entry = map entry_of outer in
    let len : length es ≡ length outer = length-map outer entry_of in
    let in_es : label < length es = omega (arith, lt, len) in
    let in_back : label < length (reverse es) = omega (arith, in_es, length-reverse es) in
    let place : length outer - 1 - label < length outer = omega (arith, lt) in
    slice_get-get_or (reverse es) label (entry_of d) in_back
    ∙ ap (λ (e : Entry). Some e) (get_or-reverse es label (entry_of d) in_es ∙ ap (λ n. get_or es (n - 1 - label) (entry_of d)) len
    ∙ get_or-map entry_of outer (length outer - 1 - label) d (entry_of d) place)

pub parent-get : (outer : List Opened) (label : ℕ) (d : Opened) → label < length outer
    → slice_get (reverse (map entry_of outer)) label ≡ Some (entry_of (get_or outer (length outer - label - 1) d))
parent-get outer label d lt =
    let same : length outer - 1 - label ≡ length outer - label - 1 = omega arith in
    outer-get outer label d lt ∙ ap (λ n. Some (entry_of (get_or outer n d))) same

pub entry-get : (outer : List Opened) (top d : Opened) (label : ℕ) → 0 < label → label ≤ length outer
    → slice_get (entry_of top ∷ reverse (map entry_of outer)) label ≡ Some (entry_of (get_or outer (length outer - label) d))
entry-get outer top d zero positive le = absurd (omega (arith, positive))
entry-get outer top d (suc label) positive le =
    let same : length outer - 1 - label ≡ length outer - suc label = omega arith in
    outer-get outer label d (omega (arith, le)) ∙ ap (λ n. Some (entry_of (get_or outer n d))) same

pub outer-cut : (outer : List Opened) (n : ℕ) → n ≤ length outer → reverse (map entry_of (take (length outer - n) outer)) ≡ drop n (reverse (map entry_of outer))
outer-cut outer n le =
    let es : List Entry = map entry_of outer in
    let len : length es ≡ length outer = length-map outer entry_of in
    let fits : n ≤ length es = omega (arith, le, len) in
    ap (λ zs. reverse zs) (sym (take-map entry_of (length outer - n) outer) ∙ ap (λ k. take (k - n) es) (sym len)) ∙ sym (drop-back n es fits)

-- values that were moved down
pub moved-values : (i : Inside) (s : StackParts) (values : List Value) (base have count : ℕ) → parts_in i ≡ s → i.have ≤ length i.values.items
    → have ≤ length s.values → base + count ≤ have
    → take (base + count) values ≡ take base i.values.items ++ take count (drop (have - count) i.values.items)
    → take (base + count) values ≡ take base s.values ++ range_of s.values (have - count) count
moved-values i s values base have count e within le carried moved =
    let low : take base i.values.items ≡ take base s.values = values-kept i s base e within (omega (arith, le, carried)) in
    let whole : (have - count) + count ≡ have = omega (arith, carried) in
    let all : take ((have - count) + count) i.values.items ≡ take ((have - count) + count) s.values =
    values-kept i s ((have - count) + count) e within (omega (arith, whole, le)) in
    let high : take count (drop (have - count) i.values.items) ≡ take count (drop (have - count) s.values) =
    sym (drop-take (have - count) count i.values.items) ∙ ap (λ vs. drop (have - count) vs) all ∙ drop-take (have - count) count s.values in
    moved ∙ ap (λ vs. vs ++ take count (drop (have - count) i.values.items)) low ∙ ap (λ vs. take base s.values ++ vs) high

pub left-parts : (i : Inside) (s : StackParts) (n label base have count : ℕ) (parent : Opened) (outer : List Opened) (values : List Value) → parts_in i ≡ s
    → n ≡ length i.outer.items → label < length i.outer.items → outer ≡ take (n - label - 1) i.outer.items → parent ≡ get_or i.outer.items (n - label - 1) parent
    → take (base + count) values ≡ take base s.values ++ range_of s.values (have - count) count
    → IsLeft s label base have count (stack_parts parent outer values (base + count))
left-parts i s n label base have count parent outer values e len lt cut is moved =
    let around : reverse (map entry_of i.outer.items) ≡ s.outer = ap (λ (t : StackParts). t.outer) e in
    let place : n - label - 1 ≡ length i.outer.items - label - 1 = ap (λ k. k - label - 1) len in
    let here : slice_get (reverse (map entry_of i.outer.items)) label ≡ Some (entry_of parent) =
    parent-get i.outer.items label parent lt ∙ ap (λ (o : Opened). Some (entry_of o)) (sym (is ∙ ap (λ k. get_or i.outer.items k parent) place)) in
    let front : n - label - 1 ≡ length i.outer.items - suc label = omega (arith, len) in
    record {
      parent = ap (λ (es : List Entry). slice_get es label) (sym around) ∙ here;
      outer = ap (λ (os : List Opened). reverse (map entry_of os)) (cut ∙ ap (λ k. take k i.outer.items) front)
          ∙ outer-cut i.outer.items (suc label) (omega (arith, lt)) ∙ ap (λ (es : List Entry). drop (suc label) es) around;
      values = moved;
    }

-- the last of the entries around was taken
pub last-parts : (i : Inside) (s : StackParts) (have count : ℕ) (parent : Opened) (outer : List Opened) (values : List Value) → parts_in i ≡ s
    → i.outer.items ≡ outer ++ parent ∷ []
    → take (i.top.base + count) values ≡ take i.top.base s.values ++ range_of s.values (have - count) count
    → IsLeft s 0 s.top.base have count (stack_parts parent outer values (i.top.base + count))
last-parts i s have count parent outer values e taken moved =
    let base : i.top.base ≡ s.top.base = ap (λ (t : StackParts). t.top.base) e in
    let around : entry_of parent ∷ reverse (map entry_of outer) ≡ s.outer =
    sym (outer-push outer parent) ∙ ap (λ (os : List Opened). reverse (map entry_of os)) (sym taken) ∙ ap (λ (t : StackParts). t.outer) e in
    record {
      parent = ap (λ (es : List Entry). slice_get es 0) (sym around);
      outer = ap (λ (es : List Entry). drop 1 es) around;
      values = moved ∙ ap (λ n. take n s.values ++ range_of s.values (have - count) count) base;
    }

pub again-parts : (i : Inside) (s : StackParts) (n label have count : ℕ) (target new : Opened) (again : List Instr) (outer : List Opened) (values : List Value) → parts_in i ≡ s
    → n ≡ length i.outer.items → label < length i.outer.items → outer ≡ take (n - label) i.outer.items → entry_of new ≡ record (entry_of target) { rest = again }
    → take (target.base + count) values ≡ take target.base s.values ++ range_of s.values (have - count) count
    → IsAgain s label (entry_of target) again have count (stack_parts new outer values (target.base + count))
again-parts i s n label have count target new again outer values e len lt cut is moved =
    let around : reverse (map entry_of i.outer.items) ≡ s.outer = ap (λ (t : StackParts). t.outer) e in
    let front : n - label ≡ length i.outer.items - label = ap (λ k. k - label) len in
    record {
      top = is;
      outer = ap (λ (os : List Opened). reverse (map entry_of os)) (cut ∙ ap (λ k. take k i.outer.items) front)
          ∙ outer-cut i.outer.items label (omega (arith, lt)) ∙ ap (λ (es : List Entry). drop label es) around;
      values = moved;
    }

-- so many entries are around
pub outer-kept : (i : Inside) (s : StackParts) → parts_in i ≡ s → length i.outer.items ≡ length s.outer
outer-kept i s e =
    sym (length-map i.outer.items entry_of) ∙ sym (length-reverse (map entry_of i.outer.items)) ∙ ap (λ (t : StackParts). length t.outer) e

-- so many values from a place on
pub range-kept : (i : Inside) (s : StackParts) (at count : ℕ) → parts_in i ≡ s → i.have ≤ length i.values.items → at + count ≤ length s.values
    → take (at + count - at) (drop at i.values.items) ≡ range_of s.values at count
range-kept i s at count e within le =
    let size : at + count - at ≡ count = omega arith in
    let front : take (at + count) i.values.items ≡ take (at + count) s.values = values-kept i s (at + count) e within le in
    ap (λ n. take n (drop at i.values.items)) size ∙ sym (drop-take at count i.values.items) ∙ ap (λ vs. drop at vs) front ∙ drop-take at count s.values
