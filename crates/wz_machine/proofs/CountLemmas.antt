-- The counts that each entry of the stacks keeps are those of the term.
use Rattle.std.proofs.Common.{◌≡◌, ◌≤◌, ℕ, ◌+◌, ◌-◌, List, [], ◌∷◌, Option, Some, None, length, take, drop, map, arith}
use Rattle.std.proofs.lemmas.List.{length-drop, length-take-le}
use Rattle.wz_types.specs.declared.value.Value.{Value}
use Rattle.wz_code.specs.Trees.{Code}
use Rattle.wz_machine.specs.Frames.{frame_count, local_count, term_of}
use Rattle.wz_machine.specs.Contexts.{Layer, frame_layers, layer_locals}
use Rattle.wz_machine.specs.Flat.{Opened, locals_in, layer_of, layers_of, layers_in, content_of, results_of}
use Rattle.wz_machine.specs.Stacks.{EntryKind, CallEntry, BlockEntry, LoopEntry, Entry, StackParts, open_kind, opened_of, flat_of, stacks_term, IsKindIn, AreStacked, IsStacked, first_values, without}
use Rattle.wz_machine.specs.Standings.{Asking, StacksWork, standing_from, IsStandingFrom}
use Rattle.wz_machine.proofs.PutLemmas.{still_stacked}
use Rattle.wz_machine.proofs.ContextLemmas.{frames_within, locals_within}

-- ---- frames

kind_frames : (kind : EntryKind) (child parent : Entry) (layers : List Layer) (below locals : List Value) (rest : Code)
    → IsKindIn kind child parent → 1 + frame_layers layers ≡ parent.frames
    → 1 + frame_layers (layer_of (open_kind child.body kind) child.arity below rest locals ∷ layers) ≡ child.frames
kind_frames CallEntry child parent layers below locals rest is around = omega (arith, is.frames, around)
kind_frames BlockEntry child parent layers below locals rest is around = omega (arith, is.frames, around)
kind_frames (LoopEntry again) child parent layers below locals rest is around = omega (arith, is.frames, around)

layers_frames : (parents : List Entry) (child : Entry) (below : List Value) → AreStacked child parents
    → 1 + frame_layers (layers_of (opened_of child) (map opened_of parents) below) ≡ child.frames
layers_frames [] child below stacked = omega (arith, stacked.frames)
layers_frames (parent ∷ parents) child below stacked =
    kind_frames child.kind child parent (layers_of (opened_of parent) (map opened_of parents) (take parent.base below)) _ _ _ stacked.0
    (layers_frames parents parent (take parent.base below) stacked.3)

pub frames_counted : (s : StackParts) → IsStacked s → frame_count (stacks_term s) ≡ s.top.frames
frames_counted s is =
    let m = flat_of s in
    let term = frames_within (results_of m.top m.outer) (layers_in m) (content_of m) in
    let layers = layers_frames s.outer s.top (take s.top.base s.values) is.stacked in
    omega (arith, term, layers)

-- ---- locals

length-locals : (opened : Opened) (values : List Value) → opened.locals_at ≤ opened.locals_end → opened.locals_end ≤ length values
    → length (locals_in opened values) ≡ opened.locals_end - opened.locals_at
length-locals opened values start end =
    let n : ℕ = opened.locals_end - opened.locals_at in
    let rest : length (drop opened.locals_at values) ≡ length values - opened.locals_at = length-drop opened.locals_at values in
    length-take-le n (drop opened.locals_at values) (omega (arith, rest, start, end))

kind_locals : (kind : EntryKind) (child parent : Entry) (layers : List Layer) (below locals : List Value) (rest : Code)
    → IsKindIn kind child parent → length locals ≡ parent.locals_end - parent.locals_at
    → parent.locals_end - parent.locals_at + layer_locals layers ≡ parent.frame_locals
    → child.locals_end - child.locals_at + layer_locals (layer_of (open_kind child.body kind) child.arity below rest locals ∷ layers) ≡ child.frame_locals
kind_locals CallEntry child parent layers below locals rest is own around = omega (arith, is.frame_locals, own, around)
kind_locals BlockEntry child parent layers below locals rest is own around = omega (arith, is.frame_locals, is.starts, is.ends, around)
kind_locals (LoopEntry again) child parent layers below locals rest is own around = omega (arith, is.frame_locals, is.starts, is.ends, around)

layers_locals : (parents : List Entry) (child : Entry) (below : List Value) → AreStacked child parents → length below ≡ child.base
    → child.locals_end - child.locals_at + layer_locals (layers_of (opened_of child) (map opened_of parents) below) ≡ child.frame_locals
layers_locals [] child below stacked len = omega (arith, stacked.frame_locals)
layers_locals (parent ∷ parents) child below stacked len =
    let room = stacked.2 in
    kind_locals child.kind child parent (layers_of (opened_of parent) (map opened_of parents) (take parent.base below)) _ (locals_in (opened_of parent) below) _ stacked.0
    (length-locals (opened_of parent) below room.locals (omega (arith, room.height, stacked.1, len)))
    (layers_locals parents parent (take parent.base below) stacked.3 (length-take-le parent.base below (omega (arith, room.base, stacked.1, len))))

pub locals_counted : (s : StackParts) → IsStacked s → local_count (stacks_term s) ≡ s.top.frame_locals
locals_counted s is =
    let m = flat_of s in
    let term = locals_within (results_of m.top m.outer) (layers_in m) (content_of m) in
    let own = length-locals (opened_of s.top) s.values is.room.locals (omega (arith, is.room.height, is.within)) in
    let layers = layers_locals s.outer s.top (take s.top.base s.values) is.stacked (length-take-le s.top.base s.values (omega (arith, is.room.base, is.room.height, is.within))) in
    omega (arith, term, own, layers)

-- ---- of a term that waits: its operands are no part of any frame's locals

without_stacked : (s : StackParts) (count : ℕ) → IsStacked s → s.top.height + count ≤ length s.values → IsStacked (without count s)
without_stacked s count is le =
    let len : length (first_values count s.values) ≡ length s.values - count = length-take-le (length s.values - count) s.values (omega arith) in
    still_stacked s (first_values count s.values) is (omega (arith, len, le))

pub frames_standing : (question : Option Asking) (count : ℕ) (s : StackParts) → IsStacked s → IsStandingFrom question count (StacksWork s)
    → frame_count (term_of (standing_from question count (StacksWork s))) ≡ s.top.frames
frames_standing None count s is standing = frames_counted s is
frames_standing (Some asking) count s is standing = frames_counted (without count s) (without_stacked s count is standing.0)

pub locals_standing : (question : Option Asking) (count : ℕ) (s : StackParts) → IsStacked s → IsStandingFrom question count (StacksWork s)
    → local_count (term_of (standing_from question count (StacksWork s))) ≡ s.top.frame_locals
locals_standing None count s is standing = locals_counted s is
locals_standing (Some asking) count s is standing = locals_counted (without count s) (without_stacked s count is standing.0)
