-- A plain instruction at the split of the machine's values (below the locals, locals, between, own) is a step of the term.
use Rattle.std.proofs.Common.{◌≡◌, ◌≤◌, ◌+◌, ◌-◌, ◌^◌, ℕ, List, [], ◌∷◌, ◌++◌, Option, Some, IsFalse, map, take, drop, reverse, length, slice_set, append_assoc, refl, ap, sym, subst, ◌∙◌, arith}
use Rattle.std.proofs.Math.Seq.{take-add}
use Rattle.std.proofs.lemmas.List.{length-append, length-set, length-drop, length-take-le, take_at, drop_at, take-take, drop-take, drop-drop, set-append_left, set-append_right}
use Rattle.wz_types.specs.declared.value.Value.{Value}
use Rattle.wz_code.specs.declared.instr.Instr.{Instr}
use Rattle.wz_code.specs.declared.instr.Instr.TheVariants.{BrTable, SelectTyped}
use Rattle.wz_code.specs.BodyParts.{BodyParts}
use Rattle.wz_code.specs.Trees.{Code, Then, leaf_in, code_in}
use Rattle.wz_store.specs.declared.function.Function.{Function}
use Rattle.wz_store.specs.State.{StateOf}
use Rattle.wz_store.specs.Changes.{Change, Nothing, applied, range_of}
use Rattle.wz_machine.specs.State.{state_of}
use Rattle.wz_machine.specs.Outcomes.{Yields, Does, SetsLocals, Next}
use Rattle.wz_machine.specs.InstrSteps.{leaf_step}
use Rattle.wz_machine.specs.Step.{step}
use Rattle.wz_machine.specs.Next.{Head, LeafHead, head_of, head_in, next}
use Rattle.wz_machine.specs.Contexts.{FrameContent, Layer, LabelLayer, FrameLayer, in_layer, term_in}
use Rattle.wz_machine.specs.Flat.{FlatStacks, locals_in, own_values, content_of, layers_in, results_of, HasPlaces, HasLocals, IsNested}
use Rattle.wz_machine.specs.Stacks.{EntryKind, CallEntry, BlockEntry, LoopEntry, Entry, StackParts, open_kind, opened_of, flat_of, stacks_term, HasRoom, IsKindIn, AreStacked, IsStacked}
use Rattle.wz_machine.specs.declared.plain.Plain.TheVariants.{Went}
use Rattle.wz_machine.specs.PlainSteps.{used, step_at, HoldsNone, WentOn, Yielded, SetLocal, PlainReply}
use Rattle.wz_machine.specs.Straight.{changes_table, Point, point, GoesOn}
use Rattle.wz_machine.specs.declared.run.Places.{Places}
use Rattle.wz_machine.specs.Running.{site_of, AreInOrder, SameApart}
use Rattle.wz_machine.specs.Advance.{leaf_changes_table, head_changes_table, StepsOn, EntersNone}
use Rattle.wz_machine.proofs.FlatLemmas.{plain_step, local_step}
use Rattle.wz_machine.proofs.ChangeLemmas.{change_reaches_state}
use Rattle.wz_machine.proofs.KeptLemmas.{stacked-moved}
use Rattle.wz_machine.proofs.CountLemmas.{frames_counted, locals_counted}

-- ---- entries as they are in the definition

places : (entry : Entry) → HasRoom entry → HasPlaces (opened_of entry)
places entry room = record { base = room.base; locals = room.locals; height = room.height }

has-locals : (kind : EntryKind) (child parent : Entry) → IsKindIn kind child parent → HasLocals (open_kind child.body kind) (opened_of child) (opened_of parent)
has-locals CallEntry child parent h = h.base
has-locals BlockEntry child parent h = (h.starts, h.ends, h.locals)
has-locals (LoopEntry again) child parent h = (h.starts, h.ends, h.locals)

nested : (outer : List Entry) (child : Entry) → AreStacked child outer → IsNested (opened_of child) (map opened_of outer)
nested [] child stacked = tt
nested (parent ∷ parents) child stacked = (has-locals child.kind child parent stacked.0, places parent stacked.2, nested parents parent stacked.3)

-- ---- the next instruction

next-in : (results : ℕ) (layers : List Layer) (content : FrameContent) → next (term_in results layers content) ≡ head_in content.inside
next-in results [] content = refl
next-in results (LabelLayer below count again rest ∷ layers) content = next-in results layers (in_layer (LabelLayer below count again rest) content)
next-in results (FrameLayer below count rest locals ∷ layers) content = next-in results layers (in_layer (FrameLayer below count rest locals) content)

-- of the machine's stacks it is that of what is left of the innermost entry
pub next-head : (s : StackParts) → next (stacks_term s) ≡ head_of (code_in s.top.body s.top.rest)
next-head s = next-in (results_of (opened_of s.top) (map opened_of s.outer)) (layers_in (flat_of s)) (content_of (flat_of s))

pub leaf-spares : (body : BodyParts) (instr : Instr) → leaf_changes_table (leaf_in body instr) ≡ changes_table instr
leaf-spares body (BrTable first count last) = refl
leaf-spares body (SelectTyped first count) = refl
leaf-spares body instr = refl

-- ---- the stacks at a point

-- the values: those below the locals, the locals, those between them and the own ones, and the used ones of these
abbrev pub values_at : List Value → List Value → Point → List Value
values_at below between p = below ++ (p.at.locals ++ (between ++ take p.have p.at.own))

abbrev pub stacks_at : StackParts → List Value → List Value → Point → StackParts
stacks_at s below between p = record { top = record s.top { rest = p.rest }; outer = s.outer; values = values_at below between p }

-- the parts have their sizes
pub record IsSplit (s : StackParts) (below between : List Value) (p : Point) : Type 0 where
  pub stacked : AreStacked s.top s.outer
  pub room : HasRoom s.top
  pub under : length below ≡ s.top.locals_at
  pub locals : length p.at.locals ≡ s.top.locals_end - s.top.locals_at
  pub middle : length between ≡ s.top.height - s.top.locals_end

pub front-size : (s : StackParts) (below between : List Value) (p : Point) → IsSplit s below between p → length (below ++ (p.at.locals ++ between)) ≡ s.top.height
front-size s below between p h =
    omega (arith, length-append below (p.at.locals ++ between), length-append p.at.locals between, h.under, h.locals, h.middle, h.room.locals, h.room.height)

pub regroup : (below locals between own : List Value) → below ++ (locals ++ (between ++ own)) ≡ (below ++ (locals ++ between)) ++ own
regroup below locals between own = simp append_assoc

pub own-at : (s : StackParts) (below between : List Value) (p : Point) → IsSplit s below between p → drop s.top.height (values_at below between p) ≡ take p.have p.at.own
own-at s below between p h =
    ap (λ (vs : List Value). drop s.top.height vs) (regroup below p.at.locals between (take p.have p.at.own))
    ∙ drop_at (below ++ (p.at.locals ++ between)) (take p.have p.at.own) s.top.height (front-size s below between p h)

pub front-at : (s : StackParts) (below between : List Value) (p : Point) → IsSplit s below between p
    → take s.top.height (values_at below between p) ≡ below ++ (p.at.locals ++ between)
front-at s below between p h =
    ap (λ (vs : List Value). take s.top.height vs) (regroup below p.at.locals between (take p.have p.at.own))
    ∙ take_at (below ++ (p.at.locals ++ between)) (take p.have p.at.own) s.top.height (front-size s below between p h)

locals-at : (s : StackParts) (below between : List Value) (p : Point) → IsSplit s below between p → locals_in (opened_of s.top) (values_at below between p) ≡ p.at.locals
locals-at s below between p h =
    ap (λ (vs : List Value). take (s.top.locals_end - s.top.locals_at) vs)
    (drop_at below (p.at.locals ++ (between ++ take p.have p.at.own)) s.top.locals_at h.under)
    ∙ take_at p.at.locals (between ++ take p.have p.at.own) (s.top.locals_end - s.top.locals_at) h.locals

-- ---- one step

-- the definition's step of the leaf is that at the site
at-site : (bodies : List BodyParts) (s : StackParts) (below between : List Value) (p : Point) (instr : Instr) → IsSplit s below between p
    → leaf_step (state_of bodies p.at.store) (locals_in (opened_of s.top) (values_at below between p)) (leaf_in s.top.body instr) (own_values (opened_of s.top) (values_at below between p))
    ≡ step_at s.top.body instr p.have p.at bodies
at-site bodies s below between p instr h =
    ap (λ (ls : List Value). leaf_step (state_of bodies p.at.store) ls (leaf_in s.top.body instr) (own_values (opened_of s.top) (values_at below between p)))
    (locals-at s below between p h)
    ∙ ap (λ (vs : List Value). leaf_step (state_of bodies p.at.store) p.at.locals (leaf_in s.top.body instr) (reverse vs)) (own-at s below between p h)

-- the first instruction that is left is the leaf
pub leaf-first : (body : BodyParts) (instr : Instr) (rest tail : List Instr) → HoldsNone body instr → rest ≡ instr ∷ tail → code_in body rest ≡ Then (leaf_in body instr) (code_in body tail)
leaf-first body instr rest tail alone is = ap (λ (code : List Instr). code_in body code) is ∙ alone (code_in body tail)

-- what stays of a split
pub split-kept : (s : StackParts) (below between : List Value) (p q : Point) → IsSplit s below between p → length q.at.locals ≡ length p.at.locals → IsSplit s below between q
split-kept s below between p q h size =
    record { stacked = h.stacked; room = h.room; under = h.under; locals = size ∙ h.locals; middle = h.middle }

pub record HasStepped (bodies : List BodyParts) (s : StackParts) (below between : List Value) (p q : Point) : Type 0 where
  pub change : Change
  pub goes : step (state_of bodies p.at.store) (stacks_term (stacks_at s below between p)) ≡ Next change (stacks_term (stacks_at s below between q))
  pub state : state_of bodies q.at.store ≡ applied change (state_of bodies p.at.store)
  pub changed : q.at.store ≡ applied change p.at.store
  pub split : IsSplit s below between q

pub went-on : (bodies : List BodyParts) (s : StackParts) (below between : List Value) (p q : Point) (instr : Instr) → IsSplit s below between p
    → code_in s.top.body p.rest ≡ Then (leaf_in s.top.body instr) (code_in s.top.body q.rest)
    → WentOn (step_at s.top.body instr p.have p.at bodies) q.have p.at q.at → HasStepped bodies s below between p q
went-on bodies s below between p q instr h first (Yielded change yields store locals) =
    let kept : IsSplit s below between q = split-kept s below between p q h (ap length locals) in
    let m : FlatStacks = flat_of (stacks_at s below between p) in
    let placed : HasPlaces m.top = record { base = h.room.base; locals = h.room.locals; height = h.room.height } in
    let front : take s.top.height (values_at below between q) ≡ take s.top.height (values_at below between p) =
    front-at s below between q kept ∙ ap (λ (ls : List Value). below ++ (ls ++ between)) locals ∙ sym (front-at s below between p h) in
    let does = at-site bodies s below between p instr h ∙ yields ∙ ap (λ (vs : List Value). Does (Yields change (reverse vs))) (sym (own-at s below between q kept)) in
    record {
      change = change;
      goes = plain_step (state_of bodies p.at.store) m (leaf_in s.top.body instr) (code_in s.top.body q.rest) change (values_at below between q) first does placed front;
      state = ap (λ (x : StateOf Function). state_of bodies x) store ∙ change_reaches_state bodies p.at.store change;
      changed = store;
      split = kept;
    }
went-on bodies s below between p q instr h first (SetLocal sets store) =
    let kept : IsSplit s below between q = split-kept s below between p q h (ap length sets.set ∙ length-set p.at.locals sets.index sets.value) in
    let m : FlatStacks = flat_of (stacks_at s below between p) in
    let placed : HasPlaces m.top = record { base = h.room.base; locals = h.room.locals; height = h.room.height } in
    let place : ℕ = s.top.locals_at + sets.index in
    let inner : place - s.top.locals_at ≡ sets.index = omega arith in
    let front : take s.top.height (values_at below between q) ≡ slice_set (take s.top.height (values_at below between p)) place sets.value =
    front-at s below between q kept
    ∙ ap (λ (ls : List Value). below ++ (ls ++ between)) sets.set
    ∙ ap (λ (ls : List Value). below ++ ls) (sym (set-append_left p.at.locals between sets.index sets.value sets.found))
    ∙ ap (λ i. below ++ slice_set (p.at.locals ++ between) i sets.value) (sym inner)
    ∙ sym (set-append_right below (p.at.locals ++ between) s.top.locals_at place sets.value h.under (omega arith))
    ∙ ap (λ (vs : List Value). slice_set vs place sets.value) (sym (front-at s below between p h)) in
    let does = at-site bodies s below between p instr h ∙ sets.sets
    ∙ ap (λ (ls : List Value). SetsLocals ls (used q.have q.at.own)) (sym (locals-at s below between q kept))
    ∙ ap (λ (vs : List Value). SetsLocals (locals_in (opened_of s.top) (values_at below between q)) (reverse vs)) (sym (own-at s below between q kept)) in
    record {
      change = Nothing;
      goes = local_step (state_of bodies p.at.store) m (leaf_in s.top.body instr) (code_in s.top.body q.rest) (values_at below between q) place sets.value first does placed
          (nested s.outer (record s.top { rest = p.rest }) (stacked-moved s.top p.rest s.outer h.stacked)) (omega arith) (omega (arith, sets.found, h.locals)) front;
      state = ap (λ (x : StateOf Function). state_of bodies x) store;
      changed = store;
      split = kept;
    }

-- ---- many steps

-- the counts of frames and locals are within their bounds
pub record IsFew (s : StackParts) : Type 0 where
  pub few : s.top.frames ≤ 2 ^ 32
  pub small : s.top.frame_locals ≤ 2 ^ 32

pub stacked-at : (s : StackParts) (below between : List Value) (p : Point) → IsFew s → IsSplit s below between p → IsStacked (stacks_at s below between p)
stacked-at s below between p few h =
    let front : List Value = below ++ (p.at.locals ++ between) in
    let own : List Value = take p.have p.at.own in
    let size : length (values_at below between p) ≡ length (front ++ own) = ap length (regroup below p.at.locals between own) in
    record {
      within = omega (arith, size, length-append front own, front-size s below between p h);
      room = record { base = h.room.base; locals = h.room.locals; height = h.room.height; counted = h.room.counted };
      stacked = stacked-moved s.top p.rest s.outer h.stacked;
      few = few.few;
      small = few.small;
    }

pub enters-none : (s : StackParts) (below between : List Value) (p q : Point) → IsFew s → IsSplit s below between p → IsSplit s below between q
    → EntersNone (stacks_term (stacks_at s below between p)) (stacks_term (stacks_at s below between q))
enters-none s below between p q few h k =
    let one = stacked-at s below between p few h in
    let two = stacked-at s below between q few k in
    record {
      frames = omega (arith, frames_counted (stacks_at s below between p) one, frames_counted (stacks_at s below between q) two);
      locals = omega (arith, locals_counted (stacks_at s below between p) one, locals_counted (stacks_at s below between q) two);
    }

-- a step of a run is a step of the term that goes on
pub steps-on : (bodies : List BodyParts) (s : StackParts) (below between : List Value) (p q : Point) (goes : GoesOn s.top.body p q)
    → code_in s.top.body p.rest ≡ Then (leaf_in s.top.body goes.instr) (code_in s.top.body q.rest) → HasStepped bodies s below between p q
    → StepsOn (state_of bodies p.at.store) (stacks_term (stacks_at s below between p)) (state_of bodies q.at.store) (stacks_term (stacks_at s below between q))
steps-on bodies s below between p q goes first r =
    let P : Option Head → Type 0 = λ head. IsFalse (head_changes_table head) in
    let head : next (stacks_term (stacks_at s below between p)) ≡ Some (LeafHead (leaf_in s.top.body goes.instr)) =
    next-head (stacks_at s below between p) ∙ ap (λ (code : Code). head_of code) first in
    record {
      change = r.change;
      goes = r.goes;
      state = r.state;
      spares = subst P (sym head) (leaf-spares s.top.body goes.instr ∙ goes.spares);
    }

-- ---- the values put together anew

pub apart_same : (places : Places) (values locals own : List Value) (have : ℕ) → AreInOrder places have → have ≤ length values
    → length locals ≡ places.locals_end - places.locals_at
    → SameApart places values
    ((take places.locals_at (take places.height values)
    ++ (locals ++ drop (places.locals_end - places.locals_at) (drop places.locals_at (take places.height values)))) ++ own)
apart_same places values locals own have order fits size =
    let from = places.locals_at in
    let to = places.locals_end in
    let height = places.height in
    let low : List Value = take height values in
    let end : from + (to - from) ≡ to = omega (arith, order.locals) in
    let front : take from low ≡ take from values = take-take from height values (omega (arith, order.locals, order.own)) in
    let post : drop (to - from) (drop from low) ≡ take (height - to) (drop to values) =
    drop-drop (to - from) from low ∙ ap (λ n. drop n low) end ∙ ap (λ n. drop to (take n values)) (omega (arith, order.own)) ∙ drop-take to (height - to) values in
    let first : length (take from low) ≡ from = ap length front ∙ length-take-le from values (omega (arith, order.locals, order.own, order.used, fits)) in
    let last : length (take (height - to) (drop to values)) ≡ height - to =
    length-take-le (height - to) (drop to values) (omega (arith, length-drop to values, order.own, order.used, fits)) in
    let rest : List Value = drop (to - from) (drop from low) in
    let both : length (take from low ++ locals) ≡ to = omega (arith, length-append (take from low) locals, first, size, order.locals) in
    let whole : (take from low ++ (locals ++ rest)) ++ own ≡ take from low ++ (locals ++ (rest ++ own)) = simp append_assoc in
    let other : (take from low ++ (locals ++ rest)) ++ own ≡ (take from low ++ locals) ++ (rest ++ own) = simp append_assoc in
    record {
      below = ap (λ (vs : List Value). take from vs) whole ∙ take_at (take from low) (locals ++ (rest ++ own)) from first ∙ front;
      between = ap (λ (vs : List Value). take (height - to) (drop to vs)) other
          ∙ ap (λ (vs : List Value). take (height - to) vs) (drop_at (take from low ++ locals) (rest ++ own) to both)
          ∙ take_at rest own (height - to) (ap length post ∙ last) ∙ post;
    }

abbrev pub places_of : Entry → Places
places_of top = record { locals_at = top.locals_at; locals_end = top.locals_end; height = top.height }

-- the first values, by their parts
pub values-split : (from to height n : ℕ) (values : List Value) → from ≤ to → to ≤ height
    → take (height + n) values ≡ take from values ++ (range_of values from (to - from) ++ (range_of values to (height - to) ++ take n (drop height values)))
values-split from to height n values first second =
    let own : List Value = take n (drop height values) in
    let lower : take height values ≡ take to values ++ range_of values to (height - to) =
    ap (λ k. take k values) (omega (arith, second)) ∙ take-add to (height - to) values in
    let lowest : take to values ≡ take from values ++ range_of values from (to - from) =
    ap (λ k. take k values) (omega (arith, first)) ∙ take-add from (to - from) values in
    take-add height n values
    ∙ ap (λ (vs : List Value). vs ++ own) lower
    ∙ ap (λ (vs : List Value). (vs ++ range_of values to (height - to)) ++ own) lowest
    ∙ simp append_assoc

range-size : (values : List Value) (from count : ℕ) → from + count ≤ length values → length (range_of values from count) ≡ count
range-size values from count fits = length-take-le count (drop from values) (omega (arith, length-drop from values, fits))

-- the split of stacks whose values have room behind them, before an instruction and after it
pub split-of : (s : StackParts) (values : List Value) (have : ℕ) (store : StateOf Function) → IsStacked s → have ≤ length values → s.top.height ≤ have
    → IsSplit s (take s.top.locals_at values) (range_of values s.top.locals_end (s.top.height - s.top.locals_end))
    (point s.top.rest (have - s.top.height) (site_of (places_of s.top) values store))
split-of s values have store stacked fits own =
    let from : ℕ = s.top.locals_at in
    let to : ℕ = s.top.locals_end in
    let height : ℕ = s.top.height in
    record {
      stacked = stacked.stacked;
      room = stacked.room;
      under = length-take-le from values (omega (arith, stacked.room.locals, stacked.room.height, own, fits));
      locals = range-size values from (to - from) (omega (arith, stacked.room.locals, stacked.room.height, own, fits));
      middle = range-size values to (height - to) (omega (arith, stacked.room.height, own, fits));
    }

pub values-before : (s : StackParts) (values : List Value) (have : ℕ) (store : StateOf Function) → IsStacked s → take have values ≡ s.values → s.top.height ≤ have
    → values_at (take s.top.locals_at values) (range_of values s.top.locals_end (s.top.height - s.top.locals_end))
    (point s.top.rest (have - s.top.height) (site_of (places_of s.top) values store)) ≡ s.values
values-before s values have store stacked held own =
    sym (values-split s.top.locals_at s.top.locals_end s.top.height (have - s.top.height) values stacked.room.locals stacked.room.height)
    ∙ ap (λ k. take k values) (omega (arith, own)) ∙ held

pub values-after : (s : StackParts) (values new : List Value) (rest : List Instr) (n : ℕ) (after : StateOf Function) → IsStacked s → SameApart (places_of s.top) values new
    → values_at (take s.top.locals_at values) (range_of values s.top.locals_end (s.top.height - s.top.locals_end)) (point rest n (site_of (places_of s.top) new after))
    ≡ take (s.top.height + n) new
values-after s values new rest n after stacked apart =
    let from : ℕ = s.top.locals_at in
    let to : ℕ = s.top.locals_end in
    let height : ℕ = s.top.height in
    let between : List Value = range_of values to (height - to) in
    ap (λ (vs : List Value). vs ++ (range_of new from (to - from) ++ (between ++ take n (drop height new)))) (sym apart.below)
    ∙ ap (λ (vs : List Value). take from new ++ (range_of new from (to - from) ++ (vs ++ take n (drop height new)))) (sym apart.between)
    ∙ sym (values-split from to height n new stacked.room.locals stacked.room.height)

-- what one instruction came to
pub record HasWent (bodies : List BodyParts) (s : StackParts) (store after : StateOf Function) (now : StackParts) : Type 0 where
  pub change : Change
  pub goes : step (state_of bodies store) (stacks_term s) ≡ Next change (stacks_term now)
  pub changed : after ≡ applied change store
  pub stacked : IsStacked now

pub went_lands : (bodies : List BodyParts) (s : StackParts) (values new : List Value) (have n : ℕ) (store after : StateOf Function) (instr : Instr) (rest : List Instr)
    → IsStacked s → take have values ≡ s.values → have ≤ length values → s.top.height ≤ have → SameApart (places_of s.top) values new → s.top.rest ≡ instr ∷ rest
    → PlainReply (Went n) s.top.body instr (have - s.top.height) (site_of (places_of s.top) values store) (site_of (places_of s.top) new after)
    → HasWent bodies s store after (record { top = record s.top { rest = rest }; outer = s.outer; values = take (s.top.height + n) new })
went_lands bodies s values new have n store after instr rest stacked held fits own apart first reply =
    let below : List Value = take s.top.locals_at values in
    let between : List Value = range_of values s.top.locals_end (s.top.height - s.top.locals_end) in
    let p : Point = point s.top.rest (have - s.top.height) (site_of (places_of s.top) values store) in
    let q : Point = point rest n (site_of (places_of s.top) new after) in
    let few : IsFew s = record { few = stacked.few; small = stacked.small } in
    let split = split-of s values have store stacked fits own in
    let r : HasStepped bodies s below between p q = went-on bodies s below between p q instr split (leaf-first s.top.body instr s.top.rest rest reply.0 first) (reply.2 bodies) in
    let P : List Value → List Value → Type 0 = λ vs ws. HasWent bodies (record { top = s.top; outer = s.outer; values = vs }) store after
    (record { top = record s.top { rest = rest }; outer = s.outer; values = ws }) in
    let at-parts : P (values_at below between p) (values_at below between q) =
    record { change = r.change; goes = r.goes; changed = r.changed; stacked = stacked-at s below between q few r.split } in
    let half : P s.values (values_at below between q) =
    subst (λ (vs : List Value). P vs (values_at below between q)) (values-before s values have store stacked held own) at-parts in
    subst (λ (ws : List Value). P s.values ws) (values-after s values new rest n after stacked apart) half
