-- Which parts of a state instructions look at, and which segments they name.
use Rattle.std.specs.Prelude.{◌≡◌, ℕ, ◌<◌, List, ◌++◌, length, slice_get}
use Rattle.wz_code.specs.declared.instr.Instr.{Instr}
use Rattle.wz_code.specs.declared.instr.Instr.TheVariants.{CallIndirect, GlobalGet, GlobalSet, TableGet, TableSet, TableInit, ElemDrop, TableCopy, TableGrow, TableSize, TableFill, Access, MemorySize, MemoryGrow, MemoryInit, DataDrop, MemoryCopy, MemoryFill}
use Rattle.wz_code.specs.Trees.{Leaf, Plain, TableBranch, TypedSelect}
use Rattle.wz_store.specs.State.{Global, Table, Memory, Element}
use Rattle.wz_machine.specs.State.{State}
use Rattle.wz_machine.specs.Leaves.{FunctionsHave}

-- ---- what an instruction looks at

-- a state of the same types and functions, and all else its own
abbrev pub with_parts : State → List Global → List Table → List Memory → List Element → List (List ℕ) → State
with_parts s globals tables memories elements datas =
    record s { globals = globals; tables = tables; memories = memories; elements = elements; datas = datas }

abbrev pub SameGlobal : State → State → ℕ → Type 0
SameGlobal one other index = slice_get one.globals index ≡ slice_get other.globals index

abbrev pub SameTable : State → State → ℕ → Type 0
SameTable one other index = slice_get one.tables index ≡ slice_get other.tables index

abbrev pub SameMemory : State → State → ℕ → Type 0
SameMemory one other index = slice_get one.memories index ≡ slice_get other.memories index

abbrev pub SameElement : State → State → ℕ → Type 0
SameElement one other index = slice_get one.elements index ≡ slice_get other.elements index

abbrev pub SameData : State → State → ℕ → Type 0
SameData one other index = slice_get one.datas index ≡ slice_get other.datas index

-- The two states agree where the instruction looks, beside types and functions: at what it names, and nowhere else.
abbrev pub LooksAlike : State → State → Instr → Type 0
LooksAlike one other (GlobalGet index) = SameGlobal one other index
LooksAlike one other (GlobalSet index) = SameGlobal one other index
LooksAlike one other (TableGet table) = SameTable one other table
LooksAlike one other (TableSet table) = SameTable one other table
LooksAlike one other (TableSize table) = SameTable one other table
LooksAlike one other (TableGrow table) = SameTable one other table
LooksAlike one other (TableFill table) = SameTable one other table
LooksAlike one other (TableCopy to from) = SameTable one other to × SameTable one other from
LooksAlike one other (TableInit segment table) = SameTable one other table × SameElement one other segment
LooksAlike one other (ElemDrop segment) = SameElement one other segment
LooksAlike one other (Access op align offset memory) = SameMemory one other memory
LooksAlike one other (MemorySize memory) = SameMemory one other memory
LooksAlike one other (MemoryGrow memory) = SameMemory one other memory
LooksAlike one other (MemoryFill memory) = SameMemory one other memory
LooksAlike one other (MemoryCopy to from) = SameMemory one other to × SameMemory one other from
LooksAlike one other (MemoryInit segment memory) = SameMemory one other memory × SameData one other segment
LooksAlike one other (DataDrop segment) = SameData one other segment
LooksAlike one other (CallIndirect signature table) = SameTable one other table
LooksAlike one other instr = Unit {0}

abbrev pub LeafLooksAlike : State → State → Leaf → Type 0
LeafLooksAlike one other (Plain instr) = LooksAlike one other instr
LeafLooksAlike one other (TableBranch labels last) = Unit {0}
LeafLooksAlike one other (TypedSelect types) = Unit {0}

-- ---- segments

-- each segment that the instruction names is one of so many element segments and so many data segments
abbrev pub InstrWithin : ℕ → ℕ → Instr → Type 0
InstrWithin elements datas (TableInit segment table) = segment < elements
InstrWithin elements datas (ElemDrop segment) = segment < elements
InstrWithin elements datas (MemoryInit segment memory) = segment < datas
InstrWithin elements datas (DataDrop segment) = segment < datas
InstrWithin elements datas instr = Unit {0}

abbrev pub LeafWithin : ℕ → ℕ → Leaf → Type 0
LeafWithin elements datas (Plain instr) = InstrWithin elements datas instr
LeafWithin elements datas (TableBranch labels last) = Unit {0}
LeafWithin elements datas (TypedSelect types) = Unit {0}

-- segments of this state alone
abbrev pub NamesIn : State → Leaf → Type 0
NamesIn s leaf = LeafWithin (length s.elements) (length s.datas) leaf

-- no function body names a segment that isn't there
abbrev pub NamesWithin : State → Type 0
NamesWithin s = FunctionsHave (NamesIn s) s.functions

-- the state with more segments behind those that are there
abbrev pub with_more : State → List Element → List (List ℕ) → State
with_more s elements datas = record s { elements = s.elements ++ elements; datas = s.datas ++ datas }
