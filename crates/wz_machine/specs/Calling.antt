-- How the machine's stacks change where a function of the instance's own is called (section 4.4.10 of the Core Specification).
use Rattle.std.specs.Prelude.{ℕ, suc, ◌+◌, ◌-◌, List, ◌∷◌, ◌++◌, length, take}
use Rattle.wz_types.specs.declared.value.Value.{Value}
use Rattle.wz_types.specs.Zeros.{zeros_of}
use Rattle.wz_code.specs.declared.instr.Instr.{Instr}
use Rattle.wz_code.specs.BodyParts.{BodyParts, block_at}
use Rattle.wz_valid_code.specs.Context.{locals_of_runs}
use Rattle.wz_machine.specs.Stacks.{CallEntry, Entry, StackParts}

-- the locals that are no parameters
abbrev pub zeroed_locals : BodyParts → List Value
zeroed_locals body = zeros_of (locals_of_runs body.locals)

-- a call within a frame, with so many results, whose locals stand between these places
abbrev pub call_in : Entry → BodyParts → ℕ → ℕ → ℕ → Entry
call_in around body results base end = record {
  kind = CallEntry;
  body = body;
  rest = block_at body.blocks 0;
  arity = results;
  base = base;
  locals_at = base;
  locals_end = end;
  height = end;
  depth = 0;
  frames = suc around.frames;
  frame_locals = around.frame_locals + (end - base);
}

-- This is left of the block around it, so many values stay, and the last of them are so many arguments.
abbrev pub with_call : StackParts → List Instr → BodyParts → ℕ → ℕ → ℕ → StackParts
with_call s rest body have params results = record {
  top = call_in s.top body results (have - params) (have + length (zeroed_locals body));
  outer = record s.top { rest = rest } ∷ s.outer;
  values = take have s.values ++ zeroed_locals body;
}
