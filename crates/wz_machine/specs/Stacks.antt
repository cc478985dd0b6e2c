-- The stacks of one term as the machine keeps them (section 4.2.14 of the Core Specification): what is open, and one list of values for
-- locals and operands. They are flat: code is the list of instructions that is left of a block, beside the body that it belongs to.
use Rattle.std.specs.Prelude.{◌≡◌, ◌≤◌, ℕ, suc, ◌+◌, ◌-◌, ◌^◌, List, [], ◌∷◌, ◌++◌, length, take, drop, map}
use Rattle.wz_types.specs.declared.value.Value.{Value}
use Rattle.wz_code.specs.declared.instr.Instr.{Instr}
use Rattle.wz_code.specs.BodyParts.{BodyParts, block_at}
use Rattle.wz_code.specs.Trees.{code_in, tree_of}
use Rattle.wz_valid_code.specs.Context.{locals_of_runs}
use Rattle.wz_machine.specs.Terms.{Innermost, Term, Frame}
use Rattle.wz_machine.specs.CallSteps.{starting_locals}
use Rattle.wz_machine.specs.Flat.{OpenKind, OpenFunction, OpenBlock, OpenLoop, Opened, FlatStacks, flat_term}

-- a call, a block, or a loop with its instructions
pub data EntryKind : Type 0 where
  CallEntry : EntryKind
  BlockEntry : EntryKind
  LoopEntry : List Instr → EntryKind

-- What is open: as `Opened` of `Flat`, with the body and the instructions that are left of it; and how many blocks of its function are
-- open around it, how many frames there are with its own, and how many locals these have.
pub record Entry : Type 0 where
  pub kind : EntryKind
  pub body : BodyParts
  pub rest : List Instr
  pub arity : ℕ
  pub base : ℕ
  pub locals_at : ℕ
  pub locals_end : ℕ
  pub height : ℕ
  pub depth : ℕ
  pub frames : ℕ
  pub frame_locals : ℕ

-- the innermost one, those around it from the inside out, and all values in the order of pushing
pub record StackParts : Type 0 where
  pub top : Entry
  pub outer : List Entry
  pub values : List Value

-- ---- the term

abbrev pub open_kind : BodyParts → EntryKind → OpenKind
open_kind body CallEntry = OpenFunction
open_kind body BlockEntry = OpenBlock
open_kind body (LoopEntry again) = OpenLoop (code_in body again)

abbrev pub opened_of : Entry → Opened
opened_of entry = record {
  kind = open_kind entry.body entry.kind;
  rest = code_in entry.body entry.rest;
  arity = entry.arity;
  base = entry.base;
  locals_at = entry.locals_at;
  locals_end = entry.locals_end;
  height = entry.height;
}

abbrev pub flat_of : StackParts → FlatStacks
flat_of s = record { top = opened_of s.top; outer = map opened_of s.outer; values = s.values }

abbrev pub stacks_term : StackParts → Term
stacks_term s = flat_term (flat_of s)

-- ---- what always holds of them

pub record HasRoom (entry : Entry) : Type 0 where
  pub base : entry.base ≤ entry.height
  pub locals : entry.locals_at ≤ entry.locals_end
  pub height : entry.locals_end ≤ entry.height
  pub counted : entry.frame_locals ≤ entry.locals_end

-- a call within a frame has locals of its own
pub record IsCallIn (child parent : Entry) : Type 0 where
  pub depth : child.depth ≡ 0
  pub base : child.base ≤ child.locals_at
  pub frames : child.frames ≡ suc parent.frames
  pub frame_locals : child.frame_locals ≡ parent.frame_locals + (child.locals_end - child.locals_at)

-- a block has its function's locals, and its own values begin where it begins
pub record IsBlockIn (child parent : Entry) : Type 0 where
  pub depth : child.depth ≡ suc parent.depth
  pub starts : child.locals_at ≡ parent.locals_at
  pub ends : child.locals_end ≡ parent.locals_end
  pub locals : child.locals_end ≤ child.base
  pub height : child.height ≡ child.base
  pub frames : child.frames ≡ parent.frames
  pub frame_locals : child.frame_locals ≡ parent.frame_locals

abbrev pub IsKindIn : EntryKind → Entry → Entry → Type 0
IsKindIn CallEntry child parent = IsCallIn child parent
IsKindIn BlockEntry child parent = IsBlockIn child parent
IsKindIn (LoopEntry again) child parent = IsBlockIn child parent

-- the outermost entry is a call
pub record IsOutermost (entry : Entry) : Type 0 where
  pub kind : entry.kind ≡ CallEntry
  pub depth : entry.depth ≡ 0
  pub frames : entry.frames ≡ 1
  pub frame_locals : entry.frame_locals ≡ entry.locals_end - entry.locals_at

abbrev pub AreStacked : Entry → List Entry → Type 0
AreStacked child [] = IsOutermost child
AreStacked child (parent ∷ parents) = IsKindIn child.kind child parent × (parent.height ≤ child.base) × HasRoom parent × AreStacked parent parents

pub record IsStacked (s : StackParts) : Type 0 where
  pub within : s.top.height ≤ length s.values
  pub room : HasRoom s.top
  pub stacked : AreStacked s.top s.outer
  pub few : s.top.frames ≤ 2 ^ 32
  pub small : s.top.frame_locals ≤ 2 ^ 32

-- ---- a call from outside

-- the locals of a function with this body
abbrev pub call_locals : BodyParts → List Value → List Value
call_locals body arguments = starting_locals (locals_of_runs body.locals) arguments

-- a function's outermost entry, with so many results
abbrev pub outermost : BodyParts → ℕ → ℕ → Entry
outermost body results locals = record {
  kind = CallEntry;
  body = body;
  rest = block_at body.blocks 0;
  arity = results;
  base = 0;
  locals_at = 0;
  locals_end = locals;
  height = locals;
  depth = 0;
  frames = 1;
  frame_locals = locals;
}

abbrev pub started : BodyParts → ℕ → List Value → StackParts
started body results arguments = record {
  top = outermost body results (length (call_locals body arguments));
  outer = [];
  values = call_locals body arguments;
}

-- the term of a call from outside; arguments stand in the order of pushing
abbrev pub IsStartOf : Term → BodyParts → ℕ → List Value → Type 0
IsStartOf term body results arguments =
    term ≡ Frame results (starting_locals (locals_of_runs body.locals) arguments) (Innermost [] (tree_of body 0))

-- ---- values on top

-- the last so many values, in the order of pushing, and what is below them
abbrev pub last_values : ℕ → List Value → List Value
last_values count values = drop (length values - count) values

abbrev pub first_values : ℕ → List Value → List Value
first_values count values = take (length values - count) values

-- without so many of the last values
abbrev pub without : ℕ → StackParts → StackParts
without count s = record s { values = first_values count s.values }

-- with these values on top, in the order of pushing
abbrev pub with_values : List Value → StackParts → StackParts
with_values more s = record s { values = s.values ++ more }
