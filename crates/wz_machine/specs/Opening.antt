-- How the machine's stacks change where a block or a call is entered or left (sections 4.4.8 to 4.4.10 of the Core Specification).
use Rattle.std.specs.Prelude.{ℕ, suc, ◌-◌, List, ◌∷◌, take}
use Rattle.wz_code.specs.declared.instr.Instr.{Instr}
use Rattle.wz_machine.specs.Stacks.{EntryKind, CallEntry, BlockEntry, LoopEntry, Entry, StackParts}

-- ---- a block is entered

abbrev pub IsBlockKind : EntryKind → Type 0
IsBlockKind CallEntry = ⊥
IsBlockKind BlockEntry = Unit {0}
IsBlockKind (LoopEntry again) = Unit {0}

-- a block with this code in a block of the same function, whose own values begin here
abbrev pub block_in : Entry → EntryKind → List Instr → ℕ → ℕ → Entry
block_in around kind code arity base = record {
  kind = kind;
  body = around.body;
  rest = code;
  arity = arity;
  base = base;
  locals_at = around.locals_at;
  locals_end = around.locals_end;
  height = base;
  depth = suc around.depth;
  frames = around.frames;
  frame_locals = around.frame_locals;
}

-- This is left of the block around it, so many values stay, and the new block takes so many of them.
abbrev pub with_block_opened : StackParts → List Instr → EntryKind → List Instr → ℕ → ℕ → ℕ → StackParts
with_block_opened s rest kind code have params arity = record {
  top = block_in s.top kind code arity (have - params);
  outer = record s.top { rest = rest } ∷ s.outer;
  values = take have s.values;
}

-- ---- an instruction is left behind

-- this is left of the innermost block, and so many values stay
abbrev pub stepped : StackParts → List Instr → ℕ → StackParts
stepped s rest have = record { top = record s.top { rest = rest }; outer = s.outer; values = take have s.values }
