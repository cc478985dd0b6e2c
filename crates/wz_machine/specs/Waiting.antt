-- A stack of terms whose topmost waits: what it waits for, and what an answer makes of it.
use Rattle.std.specs.Prelude.{ℕ, List, [], ◌∷◌, ◌-◌, ◌^◌, Option, Some, None, Bool, true, false, slice_get}
use Rattle.wz_types.specs.declared.value.Value.{Value}
use Rattle.wz_types.specs.FunctionType.{FunctionType}
use Rattle.wz_code.specs.declared.numeric.NumOp.{NumOp}
use Rattle.wz_store.specs.State.{Table, Memory}
use Rattle.wz_store.specs.Changes.{Change, Nothing, GrowTable, GrowMemory}
use Rattle.wz_machine.specs.Terms.{Standing, Runs, Waits}
use Rattle.wz_machine.specs.Replies.{put}
use Rattle.wz_machine.specs.Growths.{growing_pages, growing_entries}
use Rattle.wz_machine.specs.Standings.{Asking, AskingFloat, AskingMemory, AskingTable, AskingHost}

-- these values, the last pushed first, are put into the topmost term, which goes on
abbrev pub answered_stack : List Value → List Standing → List Standing
answered_stack values [] = []
answered_stack values (Runs term ∷ below) = Runs term ∷ below
answered_stack values (Waits question rest ∷ below) = Runs (put values rest) ∷ below

-- the topmost term is gone
abbrev pub below_top : List Standing → List Standing
below_top [] = []
below_top (top ∷ below) = below

-- ---- which question it is

abbrev pub float_in : Option Asking → Option NumOp
float_in None = None
float_in (Some (AskingFloat op)) = Some op
float_in (Some (AskingMemory index by)) = None
float_in (Some (AskingTable index by reference)) = None
float_in (Some (AskingHost target type)) = None

abbrev pub host_in : Option Asking → Option FunctionType
host_in None = None
host_in (Some (AskingFloat op)) = None
host_in (Some (AskingMemory index by)) = None
host_in (Some (AskingTable index by reference)) = None
host_in (Some (AskingHost target type)) = Some type

-- whether a function may be entered, where the stack is empty or not
abbrev pub may_enter_asking : Bool → Option Asking → Bool
may_enter_asking empty None = empty
may_enter_asking empty (Some (AskingFloat op)) = false
may_enter_asking empty (Some (AskingMemory index by)) = false
may_enter_asking empty (Some (AskingTable index by reference)) = false
may_enter_asking empty (Some (AskingHost target type)) = true

-- what growth finds, in these memories and tables, if the answer to it fits
abbrev pub size_found : List Memory → List Table → Option Asking → Bool → Option ℕ
size_found memories tables None granted = None
size_found memories tables (Some (AskingFloat op)) granted = None
size_found memories tables (Some (AskingMemory index by)) true = growing_pages (slice_get memories index) by
size_found memories tables (Some (AskingMemory index by)) false = Some (2 ^ 32 - 1)
size_found memories tables (Some (AskingTable index by reference)) true = growing_entries (slice_get tables index) by
size_found memories tables (Some (AskingTable index by reference)) false = Some (2 ^ 32 - 1)
size_found memories tables (Some (AskingHost target type)) granted = None

abbrev pub growth_change : Option Asking → Bool → Change
growth_change None granted = Nothing
growth_change (Some (AskingFloat op)) granted = Nothing
growth_change (Some (AskingMemory index by)) true = GrowMemory index by
growth_change (Some (AskingMemory index by)) false = Nothing
growth_change (Some (AskingTable index by reference)) true = GrowTable index by reference
growth_change (Some (AskingTable index by reference)) false = Nothing
growth_change (Some (AskingHost target type)) granted = Nothing
