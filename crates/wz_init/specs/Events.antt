-- What is seen of a machine's ticks, as a run asks for it. This is the tool's own.
use Rattle.std.specs.Prelude.{Option, Some, None}
use Rattle.wz_store.specs.declared.function.Function.{Function}
use Rattle.wz_store.specs.declared.function.Function.TheVariants as stored
use Rattle.wz_machine.specs.declared.questions.HostTarget.TheVariants as target
use Rattle.wz_machine.specs.declared.questions.Growth.TheVariants as growth
use Rattle.wz_machine.specs.Moves.{Event, Refused, Went, DoneEvent, Trapped, HostCall, FloatAsked, GrowAsked, BytesRead, HeldSize, HeldValue}
use Rattle.wz_init.specs.declared.turn.Turned.{Turned}
use Rattle.wz_init.specs.declared.turn.Turned.TheVariants as turned
use Rattle.wz_init.specs.declared.turn.Entered.{Entered}
use Rattle.wz_init.specs.declared.turn.Entered.TheVariants as entry

-- a tick of a typed term that stands shows no other event than these
abbrev pub turned_by : Event → Option Turned
turned_by Went = Some turned.Went
turned_by (DoneEvent values) = Some turned.Ended
turned_by (Trapped kind) = Some (turned.Trapped kind)
turned_by (FloatAsked op operands) = Some (turned.Float op)
turned_by (GrowAsked (growth.Memory index by)) = Some (turned.Memory index by)
turned_by (GrowAsked (growth.Table index by)) = Some turned.Table
turned_by (HostCall (target.Import number) arguments) = Some (turned.Import number)
turned_by (HostCall (target.Foreign id) arguments) = Some (turned.Foreign id)
turned_by Refused = None
turned_by (BytesRead bytes) = None
turned_by (HeldSize size) = None
turned_by (HeldValue value) = None

-- what entering a function comes to
abbrev pub entered_as : Function → Entered
entered_as (stored.Own signature body) = entry.Own
entered_as (stored.Import signature import) = entry.Import import
