-- Section 5.5.16 of the Core Specification: the rules between sections.
use Rattle.std.specs.Prelude.{◌≡◌, Bool, true, false, ◌||◌, length, IfSome, IsSome, IsTrue}
use Rattle.std.specs.List.{list_any}
use Rattle.wz_code.specs.declared.instr.Instr.{Instr}
use Rattle.wz_code.specs.declared.instr.Instr.TheVariants.{MemoryInit, DataDrop}
use Rattle.wz_code.specs.Trees.{Leaf, Plain, TableBranch, TypedSelect, Code, End, Then, InBlock, InLoop, InIf}
use Rattle.wz_module.specs.Module.{Module}

-- each own function has a body, and each body is a function's
abbrev pub BodiesOfFunctions : Module → Type 0
BodiesOfFunctions m = length m.functions ≡ length m.bodies

-- a data count is the number of data segments
abbrev pub CountOfDatas : Module → Type 0
CountOfDatas m = IfSome m.data_count (λ n. n ≡ length m.datas)

-- the instructions that name a data segment
abbrev pub names_data : Instr → Bool
names_data (MemoryInit segment memory) = true
names_data (DataDrop segment) = true
names_data instr = false

abbrev pub leaf_names_data : Leaf → Bool
leaf_names_data (Plain instr) = names_data instr
leaf_names_data (TableBranch labels last) = false
leaf_names_data (TypedSelect types) = false

-- whether one of them stands in code
abbrev pub code_names_data : Code → Bool
code_names_data End = false
code_names_data (Then leaf more) = leaf_names_data leaf || code_names_data more
code_names_data (InBlock shape inner more) = code_names_data inner || code_names_data more
code_names_data (InLoop shape inner more) = code_names_data inner || code_names_data more
code_names_data (InIf shape first second more) = code_names_data first || (code_names_data second || code_names_data more)

-- a data count is there where a body names a data segment
abbrev pub CountForBodies : Module → Type 0
CountForBodies m = IsTrue (list_any (λ body. code_names_data body.1) m.bodies) → IsSome m.data_count

pub record CountsAgree (m : Module) : Type 0 where
  pub bodies : BodiesOfFunctions m
  pub datas : CountOfDatas m
  pub needed : CountForBodies m
