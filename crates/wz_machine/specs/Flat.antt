-- The flat stacks of a machine as the term that they stand for (section 4.2.15 of the Core Specification): blocks and calls that are
-- open, and one list of values for locals and operands. Code is what is left of a block, however a machine keeps its place in it.
use Rattle.std.specs.Prelude.{◌≡◌, ◌≤◌, ◌<◌, ℕ, ◌-◌, List, [], ◌∷◌, ◌++◌, Some, None, take, drop, reverse, length, slice_set}
use Rattle.wz_types.specs.declared.value.Value.{Value}
use Rattle.wz_code.specs.Trees.{Code, Leaf, Then}
use Rattle.wz_store.specs.Changes.{Change, Nothing, range_of}
use Rattle.wz_machine.specs.State.{State}
use Rattle.wz_machine.specs.Terms.{InLabel, Innermost, Term}
use Rattle.wz_machine.specs.Outcomes.{Yields, Does, SetsLocals, Goes, Next}
use Rattle.wz_machine.specs.InstrSteps.{leaf_step}
use Rattle.wz_machine.specs.Step.{step}
use Rattle.wz_machine.specs.Contexts.{FrameContent, Layer, LabelLayer, FrameLayer, in_layer, term_in, code_content, content_reduct}

-- a loop has its instructions
pub data OpenKind : Type 0 where
  OpenFunction : OpenKind
  OpenBlock : OpenKind
  OpenLoop : Code → OpenKind

-- A block or a call that is open: the code that is left of it, behind the end of what is open within it; the number of its results, or
-- of the values that a branch to it takes along; and places in the list of values: where all that belongs to it begins (a function's
-- locals, a block's own values), where its function's locals begin and end, and where its own values begin.
pub record Opened : Type 0 where
  pub kind : OpenKind
  pub rest : Code
  pub arity : ℕ
  pub base : ℕ
  pub locals_at : ℕ
  pub locals_end : ℕ
  pub height : ℕ

-- the innermost one, those around it from the inside out, and all values in the order of pushing
pub record FlatStacks : Type 0 where
  pub top : Opened
  pub outer : List Opened
  pub values : List Value

-- ---- what belongs to an open block, among these values

abbrev pub locals_in : Opened → List Value → List Value
locals_in opened values = range_of values opened.locals_at (opened.locals_end - opened.locals_at)

-- the last pushed first
abbrev pub own_values : Opened → List Value → List Value
own_values opened values = reverse (drop opened.height values)

-- ---- the term

-- the layer of what is open, in a parent with these values, this code and these locals
abbrev pub layer_of : OpenKind → ℕ → List Value → Code → List Value → Layer
layer_of OpenFunction arity below rest locals = FrameLayer below arity rest locals
layer_of OpenBlock arity below rest locals = LabelLayer below arity None rest
layer_of (OpenLoop again) arity below rest locals = LabelLayer below arity (Some again) rest

-- the layers of what is open, where these values stand under the innermost
abbrev pub layers_of : Opened → List Opened → List Value → List Layer
layers_of child [] below = []
layers_of child (parent ∷ parents) below =
    layer_of child.kind child.arity (own_values parent below) parent.rest (locals_in parent below) ∷ layers_of parent parents (take parent.base below)

-- the outermost one is a function
abbrev pub results_of : Opened → List Opened → ℕ
results_of child [] = child.arity
results_of child (parent ∷ parents) = results_of parent parents

abbrev pub content_of : FlatStacks → FrameContent
content_of m = code_content (locals_in m.top m.values) (own_values m.top m.values) m.top.rest

abbrev pub layers_in : FlatStacks → List Layer
layers_in m = layers_of m.top m.outer (take m.top.base m.values)

abbrev pub flat_term : FlatStacks → Term
flat_term m = term_in (results_of m.top m.outer) (layers_in m) (content_of m)

-- ---- where places are

pub record HasPlaces (opened : Opened) : Type 0 where
  pub base : opened.base ≤ opened.height
  pub locals : opened.locals_at ≤ opened.locals_end
  pub height : opened.locals_end ≤ opened.height

-- a call has its locals at its base; a block has its function's
abbrev pub HasLocals : OpenKind → Opened → Opened → Type 0
HasLocals OpenFunction child parent = child.base ≤ child.locals_at
HasLocals OpenBlock child parent = (child.locals_at ≡ parent.locals_at) × (child.locals_end ≡ parent.locals_end) × (child.locals_end ≤ child.base)
HasLocals (OpenLoop again) child parent = (child.locals_at ≡ parent.locals_at) × (child.locals_end ≡ parent.locals_end) × (child.locals_end ≤ child.base)

abbrev pub IsNested : Opened → List Opened → Type 0
IsNested child [] = Unit {0}
IsNested child (parent ∷ parents) = HasLocals child.kind child parent × HasPlaces parent × IsNested parent parents

-- ---- the laws

-- with these values, and this code left of the innermost block
abbrev pub moved_on : FlatStacks → Code → List Value → FlatStacks
moved_on m rest values = record m { top = record m.top { rest = rest }; values = values }

-- An instruction that leaves the locals alone, where all below the own values stays.
abbrev pub PlainStep : Type 0
PlainStep = (s : State) (m : FlatStacks) (leaf : Leaf) (rest : Code) (change : Change) (values : List Value) → m.top.rest ≡ Then leaf rest
    → leaf_step s (locals_in m.top m.values) leaf (own_values m.top m.values) ≡ Does (Yields change (own_values m.top values))
    → HasPlaces m.top → take m.top.height values ≡ take m.top.height m.values
    → step s (flat_term m) ≡ Next change (flat_term (moved_on m rest values))

-- An instruction that sets a local: one value of its function's locals is another one.
abbrev pub LocalStep : Type 0
LocalStep = (s : State) (m : FlatStacks) (leaf : Leaf) (rest : Code) (values : List Value) (place : ℕ) (value : Value) → m.top.rest ≡ Then leaf rest
    → leaf_step s (locals_in m.top m.values) leaf (own_values m.top m.values) ≡ SetsLocals (locals_in m.top values) (own_values m.top values)
    → HasPlaces m.top → IsNested m.top m.outer → m.top.locals_at ≤ place → place < m.top.locals_end
    → take m.top.height values ≡ slice_set (take m.top.height m.values) place value
    → step s (flat_term m) ≡ Next Nothing (flat_term (moved_on m rest values))

-- with a block or a call more, behind which this code is left
abbrev pub with_opened : FlatStacks → Code → Opened → List Value → FlatStacks
with_opened m rest new values = record { top = new; outer = record m.top { rest = rest } ∷ m.outer; values = values }

-- what stands in the innermost block then
abbrev pub opened_content : FlatStacks → Code → Opened → List Value → FrameContent
opened_content m rest new values =
    in_layer (layer_of new.kind new.arity (own_values m.top (take new.base values)) rest (locals_in m.top (take new.base values)))
    (code_content (locals_in new values) (own_values new values) new.rest)

-- A block, a loop, an if or a call.
abbrev pub OpeningStep : Type 0
OpeningStep = (s : State) (m : FlatStacks) (rest : Code) (new : Opened) (values : List Value)
    → content_reduct s (content_of m) ≡ Goes Nothing (opened_content m rest new values).locals (opened_content m rest new values).inside
    → take m.top.base (take new.base values) ≡ take m.top.base m.values
    → step s (flat_term m) ≡ Next Nothing (flat_term (with_opened m rest new values))

-- What is left of the stacks where a block or a call was left, or a branch leads behind it: these values are put on those under it.
abbrev pub LeavingTerm : Type 0
LeavingTerm = (parent : Opened) (parents : List Opened) (below carried : List Value) → HasPlaces parent → parent.height ≤ length below
    → term_in (results_of parent parents) (layers_of parent parents (take parent.base below))
    (code_content (locals_in parent below) (carried ++ own_values parent below) parent.rest)
    ≡ flat_term (record { top = parent; outer = parents; values = below ++ reverse carried })

-- What a branch to a loop comes to: its instructions anew, with these values of its own.
abbrev pub LoopingTerm : Type 0
LoopingTerm = (child : Opened) (again : Code) (parent : Opened) (parents : List Opened) (below carried : List Value) → child.kind ≡ OpenLoop again
    → child.base ≡ length below → child.height ≡ length below → child.locals_end ≤ length below → child.locals_at ≤ child.locals_end
    → term_in (results_of parent parents) (layers_of parent parents (take parent.base below))
    (record { locals = locals_in child below; inside = InLabel (own_values parent below) child.arity (Some again) (Innermost carried again) parent.rest })
    ≡ flat_term (record { top = record child { rest = again }; outer = parent ∷ parents; values = below ++ reverse carried })
