-- What the fields of the machine's stacks stand for.
use Rattle.std.specs.Prelude.{◌≤◌, ℕ, List, length, map, reverse, take}
use Rattle.wz_types.specs.declared.value.Value.{Value}
use Rattle.wz_machine.specs.declared.stacks.Kind.{Kind}
use Rattle.wz_machine.specs.declared.stacks.Kind.TheVariants as kind
use Rattle.wz_machine.specs.declared.stacks.Opened.{Opened}
use Rattle.wz_machine.specs.Stacks.{EntryKind, CallEntry, BlockEntry, LoopEntry, Entry, StackParts, IsStacked}

abbrev pub entry_kind : Kind → EntryKind
entry_kind kind.Call = CallEntry
entry_kind kind.Block = BlockEntry
entry_kind (kind.Loop again) = LoopEntry again.now

abbrev pub entry_of : Opened → Entry
entry_of opened = record {
  kind = entry_kind opened.kind;
  body = opened.body.now;
  rest = opened.rest.now;
  arity = opened.arity;
  base = opened.base;
  locals_at = opened.locals_at;
  locals_end = opened.locals_end;
  height = opened.height;
  depth = opened.depth;
  frames = opened.frames;
  frame_locals = opened.frame_locals;
}

-- the stacks, where the outermost entry of a list stands first, and so many of the values are used
abbrev pub stack_parts : Opened → List Opened → List Value → ℕ → StackParts
stack_parts top outer values have = record {
  top = entry_of top;
  outer = reverse (map entry_of outer);
  values = take have values;
}

pub record AreKept (top : Opened) (outer : List Opened) (values : List Value) (have : ℕ) : Type 0 where
  pub used : have ≤ length values
  pub stacked : IsStacked (stack_parts top outer values have)
