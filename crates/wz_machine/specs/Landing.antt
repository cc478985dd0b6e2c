-- Where a branch, a return and the end of a block lead on the machine's stacks (sections 4.4.8 to 4.4.10 of the Core Specification).
use Rattle.std.specs.Prelude.{◌≡◌, ℕ, zero, suc, ◌-◌, nat_le, ◌==◌, List, [], ◌∷◌, ◌++◌, Some, if◌then◌else◌, length, take, drop, reverse, slice_get}
use Rattle.wz_types.specs.declared.value.Value.{Value}
use Rattle.wz_code.specs.declared.instr.Instr.{Instr}
use Rattle.wz_store.specs.Changes.{Nothing, range_of}
use Rattle.wz_machine.specs.Outcomes.{Answer, Next, Done, Stuck}
use Rattle.wz_machine.specs.Step.{results_answer}
use Rattle.wz_machine.specs.Stacks.{EntryKind, CallEntry, BlockEntry, LoopEntry, Entry, StackParts, stacks_term}

-- What stands where a branch goes to an entry with these values below it, in this parent: behind it, or in a loop's instructions anew.
-- The values that it takes along are in the order of pushing.
abbrev pub arrived : EntryKind → Entry → Entry → List Entry → List Value → List Value → StackParts
arrived CallEntry child parent parents below carried = record { top = parent; outer = parents; values = below ++ carried }
arrived BlockEntry child parent parents below carried = record { top = parent; outer = parents; values = below ++ carried }
arrived (LoopEntry again) child parent parents below carried = record { top = record child { rest = again }; outer = parent ∷ parents; values = below ++ carried }

-- a branch with these values found, the last pushed first; the label counts from the child outwards
abbrev pub landing : ℕ → Entry → List Entry → List Value → List Value → Answer
landing zero child [] values found = results_answer child.arity found
landing zero child (parent ∷ parents) values found =
    if nat_le child.arity (length found)
    then Next Nothing (stacks_term (arrived child.kind child parent parents (take child.base values) (reverse (take child.arity found))))
    else Stuck
landing (suc label) child [] values found = Stuck
landing (suc label) child (parent ∷ parents) values found = landing label parent parents values found

-- the end of what is innermost; of a call, exactly its results are there
abbrev pub ending_in : EntryKind → Entry → Entry → List Entry → List Value → Answer
ending_in CallEntry child parent parents values =
    if length (drop child.height values) == child.arity
    then Next Nothing (stacks_term (record { top = parent; outer = parents; values = take child.base values ++ drop child.height values }))
    else Stuck
ending_in BlockEntry child parent parents values =
    Next Nothing (stacks_term (record { top = parent; outer = parents; values = take child.base values ++ drop child.height values }))
ending_in (LoopEntry again) child parent parents values =
    Next Nothing (stacks_term (record { top = parent; outer = parents; values = take child.base values ++ drop child.height values }))

abbrev pub ending : Entry → List Entry → List Value → Answer
ending child [] values = if length (drop child.height values) == child.arity then Done (drop child.height values) else Stuck
ending child (parent ∷ parents) values = ending_in child.kind child parent parents values

-- ---- the same of the machine's stacks, by places

-- The entries up to that of this label are left; `count` values go along, which end at a place.
pub record IsLeft (s : StackParts) (label base have count : ℕ) (now : StackParts) : Type 0 where
  pub parent : slice_get s.outer label ≡ Some now.top
  pub outer : now.outer ≡ drop (suc label) s.outer
  pub values : now.values ≡ take base s.values ++ range_of s.values (have - count) count

-- the loop of this label begins anew
pub record IsAgain (s : StackParts) (label : ℕ) (loop : Entry) (again : List Instr) (have count : ℕ) (now : StackParts) : Type 0 where
  pub top : now.top ≡ record loop { rest = again }
  pub outer : now.outer ≡ drop label s.outer
  pub values : now.values ≡ take loop.base s.values ++ range_of s.values (have - count) count
