-- A session: moves from outside, one after another, and what is seen of them.
use Rattle.std.specs.Prelude.{List, [], ◌∷◌}
use Rattle.wz_store.specs.Changes.{applied}
use Rattle.wz_machine.specs.State.{State}
use Rattle.wz_machine.specs.Terms.{Standing}
use Rattle.wz_machine.specs.Exports.{ExportInstance, exported}
use Rattle.wz_machine.specs.Moves.{Move, CallMove, TickMove, FloatAnswer, GrowAnswer, ReturnMove, AbortMove, ReadMove, WriteMove, SizeMove, EnlargeMove, GetMove, SetMove, Event}
use Rattle.wz_machine.specs.Replies.{Reply, change_reply, call_reply, tick_reply, float_reply, grow_reply, return_reply, abort_reply}
use Rattle.wz_machine.specs.Accesses.{AccessReply, read_access, write_access, size_access, enlarge_access, get_access, set_access}

-- an access may come whatever terms stand
abbrev pub access_reply : List Standing → AccessReply → Reply
access_reply stack access = change_reply access.event access.change stack

-- what a move comes to in this state, where these terms stand
abbrev pub move_reply : List ExportInstance → State → List Standing → Move → Reply
move_reply exports s stack (CallMove name values) = call_reply s stack (exported exports name) values
move_reply exports s stack TickMove = tick_reply s stack
move_reply exports s stack (FloatAnswer answer) = float_reply s stack answer
move_reply exports s stack (GrowAnswer granted) = grow_reply s stack granted
move_reply exports s stack (ReturnMove values) = return_reply s stack values
move_reply exports s stack AbortMove = abort_reply stack
move_reply exports s stack (ReadMove name at count) = access_reply stack (read_access s (exported exports name) at count)
move_reply exports s stack (WriteMove name at bytes) = access_reply stack (write_access s (exported exports name) at bytes)
move_reply exports s stack (SizeMove name) = access_reply stack (size_access s (exported exports name))
move_reply exports s stack (EnlargeMove name by value) = access_reply stack (enlarge_access s (exported exports name) by value)
move_reply exports s stack (GetMove name at) = access_reply stack (get_access s (exported exports name) at)
move_reply exports s stack (SetMove name at value) = access_reply stack (set_access s (exported exports name) at value)

-- the events of these moves, each in the state and with the terms that the moves before it left
abbrev pub observe_from : List ExportInstance → State → List Standing → List Move → List Event
observe_from exports s stack [] = []
observe_from exports s stack (move ∷ moves) =
    (move_reply exports s stack move).event
    ∷ observe_from exports (applied (move_reply exports s stack move).change s) (move_reply exports s stack move).stack moves

-- where no term stands yet
abbrev pub observe : State → List ExportInstance → List Move → List Event
observe s exports moves = observe_from exports s [] moves
