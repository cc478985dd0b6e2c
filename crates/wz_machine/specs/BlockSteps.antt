-- Section 4.4.8 of the Core Specification, the rules of block, loop, if, br and return; section 4.4.9 (blocks); and of section 4.4.10
-- returning from a function. They read the types that blocks name.
use Rattle.std.specs.Prelude.{ℕ, zero, suc, nat_le, ◌==◌, List, [], ◌∷◌, ◌++◌, Option, Some, None, if◌then◌else◌, length, take, drop, slice_get}
use Rattle.wz_types.specs.declared.types.ValType.{ValType}
use Rattle.wz_types.specs.declared.value.Value.{Value}
use Rattle.wz_types.specs.declared.value.Value.TheVariants.{I32}
use Rattle.wz_types.specs.FunctionType.{FunctionType}
use Rattle.wz_code.specs.declared.instr.Shape.{Shape}
use Rattle.wz_code.specs.declared.instr.Shape.TheVariants.{Empty, One, Index}
use Rattle.wz_code.specs.Trees.{Code}
use Rattle.wz_store.specs.Changes.{Nothing}
use Rattle.wz_machine.specs.Terms.{Inside, Innermost, InLabel, InFrame}
use Rattle.wz_machine.specs.Outcomes.{Reduct, Goes, Finishes, Branches, Returns, Pauses, Traps, Sticks}

-- ---- entering blocks

-- expand_F(blocktype): a block's type
abbrev pub block_type : List FunctionType → Shape → Option FunctionType
block_type types Empty = Some (record { params = []; results = [] })
block_type types (One type) = Some (record { params = []; results = type ∷ [] })
block_type types (Index number) = slice_get types number

-- what a branch to the label takes along: a loop's parameters, since it begins anew, or else the results
abbrev pub label_types : FunctionType → Option Code → List ValType
label_types type None = type.results
label_types type (Some again) = type.params

-- block bt instr* end, and loop bt instr* end, whose instructions are then its label's: the parameters go into the label
abbrev pub block_entry : List Value → Option FunctionType → Option Code → Code → List Value → Code → Reduct
block_entry locals None again inner values rest = Sticks
block_entry locals (Some type) again inner values rest =
    if nat_le (length type.params) (length values)
    then Goes Nothing locals (InLabel (drop (length type.params) values) (length (label_types type again)) again (Innermost (take (length type.params) values) inner) rest)
    else Sticks

-- if bt instr1* else instr2* end, where c isn't 0, and where it is: the block of that arm is entered in the same step
abbrev pub if_entry : List Value → Option FunctionType → Code → Code → List Value → Code → Reduct
if_entry locals type first second (I32 (suc c) ∷ values) rest = block_entry locals type None first values rest
if_entry locals type first second (I32 zero ∷ values) rest = block_entry locals type None second values rest
if_entry locals type first second values rest = Sticks

-- ---- labels

-- where a branch arrives, with the values that it takes along: in a loop's instructions anew, within its label; or behind the block
abbrev pub arrival : List Value → ℕ → Option Code → Code → List Value → Inside
arrival below count (Some again) rest carried = InLabel below count (Some again) (Innermost carried again) rest
arrival below count None rest carried = Innermost (carried ++ below) rest

-- what a step within a label comes to, in a frame with these locals
abbrev pub label_reduct : List Value → List Value → ℕ → Option Code → Code → Reduct → Reduct
label_reduct locals below count again rest (Goes change new inside) = Goes change new (InLabel below count again inside rest)
-- exiting instr* with label L: all values stay
label_reduct locals below count again rest (Finishes values) = Goes Nothing locals (Innermost (values ++ below) rest)
-- br 0, with at least so many values in the label; br (l + 1) goes to the next label outwards
label_reduct locals below count again rest (Branches zero values) =
    if nat_le count (length values) then Goes Nothing locals (arrival below count again rest (take count values)) else Sticks
label_reduct locals below count again rest (Branches (suc label) values) = Branches label values
label_reduct locals below count again rest (Returns values) = Returns values
label_reduct locals below count again rest (Pauses question inside) = Pauses question (InLabel below count again inside rest)
label_reduct locals below count again rest (Traps kind) = Traps kind
label_reduct locals below count again rest Sticks = Sticks

-- ---- frames

-- return, and a branch to the function's own label: its results go below, and all other values of the frame are gone
abbrev pub frame_left : List Value → List Value → ℕ → Code → List Value → Reduct
frame_left locals below count rest values =
    if nat_le count (length values) then Goes Nothing locals (Innermost (take count values ++ below) rest) else Sticks

-- what a step within a frame with locals of its own comes to, in the frame around it, which has these locals
abbrev pub frame_reduct : List Value → List Value → ℕ → List Value → Code → Reduct → Reduct
frame_reduct locals below count own rest (Goes change new inside) = Goes change locals (InFrame below count new inside rest)
-- returning from a function at its end: exactly its results are there
frame_reduct locals below count own rest (Finishes values) =
    if length values == count then Goes Nothing locals (Innermost (values ++ below) rest) else Sticks
frame_reduct locals below count own rest (Branches zero values) = frame_left locals below count rest values
frame_reduct locals below count own rest (Branches (suc label) values) = Sticks
frame_reduct locals below count own rest (Returns values) = frame_left locals below count rest values
frame_reduct locals below count own rest (Pauses question inside) = Pauses question (InFrame below count own inside rest)
frame_reduct locals below count own rest (Traps kind) = Traps kind
frame_reduct locals below count own rest Sticks = Sticks
