use Rattle.std.proofs.Common.{◌≡◌, false, refl, subst}
use Rattle.wz_machine.specs.Next.{next}
use Rattle.wz_init.specs.declared.turn.Turned.{Turned}
use Rattle.wz_init.specs.declared.turn.Turned.TheVariants as turned
use Rattle.wz_machine.specs.Advance.{head_changes_table}
use Rattle.wz_init.specs.Turns.{top_term, IsTicked}
use Rattle.wz_init.proofs.RunLemmas.{run_refused}
use Rattle.wz_init.proofs.TurnLemmas.{went_run, went_beyond, went_running, ended_run, asked_here, grown_run, grown_running, trapped_run, float_run, table_run, import_run, foreign_never}
use Rattle.wz_init.proofs.run.turn.Goals as goal

pub returns-then-would_change_table-clause-stopped : goal.returns-then-would_change_table-clause-stopped
returns-then-would_change_table-clause-stopped g c =
    let s = g.S.Steps.state c.args.machine.now in
    let term = top_term (g.S.Steps.stack c.args.machine.now) in
    λ fuel ticks. run_refused fuel ticks s term (cc (c.would_change_table.ensures, c.if-would_change_table.true))

pub returns-in-Ok-clause-running : goal.returns-in-Ok-clause-running
returns-in-Ok-clause-running g c =
    let s = g.S.Steps.state c.args.machine.now in
    let term = top_term (g.S.Steps.stack c.args.machine.now) in
    let after = g.S.Steps.state c.tick.new.self in
    let stack = g.S.Steps.stack c.tick.new.self in
    let spares : head_changes_table (next term) ≡ false = cc (c.would_change_table.ensures, c.if-would_change_table.false) in
    let ticked : IsTicked s term (turned.Went) after stack = subst (λ (t : Turned). IsTicked s term t after stack) c.in-Went.is c.in_ok-tick.ensures.ticked in
    went_running s after stack term spares ticked c.in_ok-tick.ensures.typed c.in-Ok.ensures.within c.requires.own c.requires.holds

pub returns-in-Ok-clause-turned : goal.returns-in-Ok-clause-turned
returns-in-Ok-clause-turned g c =
    let s = g.S.Steps.state c.args.machine.now in
    let term = top_term (g.S.Steps.stack c.args.machine.now) in
    let after = g.S.Steps.state c.tick.new.self in
    let stack = g.S.Steps.stack c.tick.new.self in
    let spares : head_changes_table (next term) ≡ false = cc (c.would_change_table.ensures, c.if-would_change_table.false) in
    let ticked : IsTicked s term (turned.Went) after stack = subst (λ (t : Turned). IsTicked s term t after stack) c.in-Went.is c.in_ok-tick.ensures.ticked in
    λ fuel ticks. went_run s after stack term spares ticked c.in-Ok.ensures.within fuel ticks

pub returns-in-Err-clause-stopped : goal.returns-in-Err-clause-stopped
returns-in-Err-clause-stopped g c =
    let s = g.S.Steps.state c.args.machine.now in
    let term = top_term (g.S.Steps.stack c.args.machine.now) in
    let after = g.S.Steps.state c.tick.new.self in
    let stack = g.S.Steps.stack c.tick.new.self in
    let spares : head_changes_table (next term) ≡ false = cc (c.would_change_table.ensures, c.if-would_change_table.false) in
    let ticked : IsTicked s term (turned.Went) after stack = subst (λ (t : Turned). IsTicked s term t after stack) c.in-Went.is c.in_ok-tick.ensures.ticked in
    λ fuel ticks. went_beyond s after stack term spares ticked c.args.phase c.in-Err.fault c.in-Err.ensures.beyond fuel ticks

pub returns-in-Ended-clause-turned : goal.returns-in-Ended-clause-turned
returns-in-Ended-clause-turned g c =
    let s = g.S.Steps.state c.args.machine.now in
    let term = top_term (g.S.Steps.stack c.args.machine.now) in
    let after = g.S.Steps.state c.tick.new.self in
    let stack = g.S.Steps.stack c.tick.new.self in
    let spares : head_changes_table (next term) ≡ false = cc (c.would_change_table.ensures, c.if-would_change_table.false) in
    let ticked : IsTicked s term (turned.Ended) after stack = subst (λ (t : Turned). IsTicked s term t after stack) c.in-Ended.is c.in_ok-tick.ensures.ticked in
    λ fuel ticks. ended_run s after stack term spares ticked fuel ticks

pub grow-requires-clause-asked : goal.grow-requires-clause-asked
grow-requires-clause-asked g c =
    let s = g.S.Steps.state c.args.machine.now in
    let term = top_term (g.S.Steps.stack c.args.machine.now) in
    let after = g.S.Steps.state c.tick.new.self in
    let stack = g.S.Steps.stack c.tick.new.self in
    let spares : head_changes_table (next term) ≡ false = cc (c.would_change_table.ensures, c.if-would_change_table.false) in
    let ticked : IsTicked s term (turned.Memory c.in-Memory.index c.in-Memory.by) after stack = subst (λ (t : Turned). IsTicked s term t after stack) c.in-Memory.is c.in_ok-tick.ensures.ticked in
    asked_here s after stack term spares c.in-Memory.index c.in-Memory.by ticked c.requires.own c.requires.holds

pub returns-in_ok-grow-in-Memory-clause-running : goal.returns-in_ok-grow-in-Memory-clause-running
returns-in_ok-grow-in-Memory-clause-running g c =
    let s = g.S.Steps.state c.args.machine.now in
    let term = top_term (g.S.Steps.stack c.args.machine.now) in
    let after = g.S.Steps.state c.tick.new.self in
    let stack = g.S.Steps.stack c.tick.new.self in
    let spares : head_changes_table (next term) ≡ false = cc (c.would_change_table.ensures, c.if-would_change_table.false) in
    let ticked : IsTicked s term (turned.Memory c.in-Memory.index c.in-Memory.by) after stack = subst (λ (t : Turned). IsTicked s term t after stack) c.in-Memory.is c.in_ok-tick.ensures.ticked in
    grown_running s after stack term spares c.in-Memory.index c.in-Memory.by (g.S.Steps.state c.grow.new.machine) (g.S.Steps.stack c.grow.new.machine) ticked
    c.in_ok-grow-in-Memory.ensures.state c.in_ok-grow-in-Memory.ensures.stack c.in_ok-grow-in-Memory.ensures.typed c.requires.within c.requires.own c.requires.holds

pub returns-in_ok-grow-in-Memory-clause-turned : goal.returns-in_ok-grow-in-Memory-clause-turned
returns-in_ok-grow-in-Memory-clause-turned g c =
    let s = g.S.Steps.state c.args.machine.now in
    let term = top_term (g.S.Steps.stack c.args.machine.now) in
    let after = g.S.Steps.state c.tick.new.self in
    let stack = g.S.Steps.stack c.tick.new.self in
    let spares : head_changes_table (next term) ≡ false = cc (c.would_change_table.ensures, c.if-would_change_table.false) in
    let ticked : IsTicked s term (turned.Memory c.in-Memory.index c.in-Memory.by) after stack = subst (λ (t : Turned). IsTicked s term t after stack) c.in-Memory.is c.in_ok-tick.ensures.ticked in
    λ fuel ticks.
    grown_run s after stack term spares c.in-Memory.index c.in-Memory.by (g.S.Steps.state c.grow.new.machine) (g.S.Steps.stack c.grow.new.machine) ticked
    c.in_ok-grow-in-Memory.ensures.state c.in_ok-grow-in-Memory.ensures.stack fuel ticks

pub returns-in-Trapped-clause-stopped : goal.returns-in-Trapped-clause-stopped
returns-in-Trapped-clause-stopped g c =
    let s = g.S.Steps.state c.args.machine.now in
    let term = top_term (g.S.Steps.stack c.args.machine.now) in
    let after = g.S.Steps.state c.tick.new.self in
    let stack = g.S.Steps.stack c.tick.new.self in
    let spares : head_changes_table (next term) ≡ false = cc (c.would_change_table.ensures, c.if-would_change_table.false) in
    let ticked : IsTicked s term (turned.Trapped c.in-Trapped.kind) after stack = subst (λ (t : Turned). IsTicked s term t after stack) c.in-Trapped.is c.in_ok-tick.ensures.ticked in
    λ fuel ticks. (refl, trapped_run s after stack term spares c.in-Trapped.kind ticked fuel ticks)

pub returns-in-Float-clause-stopped : goal.returns-in-Float-clause-stopped
returns-in-Float-clause-stopped g c =
    let s = g.S.Steps.state c.args.machine.now in
    let term = top_term (g.S.Steps.stack c.args.machine.now) in
    let after = g.S.Steps.state c.tick.new.self in
    let stack = g.S.Steps.stack c.tick.new.self in
    let spares : head_changes_table (next term) ≡ false = cc (c.would_change_table.ensures, c.if-would_change_table.false) in
    let ticked : IsTicked s term (turned.Float c.in-Float.op) after stack = subst (λ (t : Turned). IsTicked s term t after stack) c.in-Float.is c.in_ok-tick.ensures.ticked in
    λ fuel ticks. float_run s after stack term spares c.in-Float.op ticked fuel ticks

pub returns-in-Table-clause-stopped : goal.returns-in-Table-clause-stopped
returns-in-Table-clause-stopped g c =
    let s = g.S.Steps.state c.args.machine.now in
    let term = top_term (g.S.Steps.stack c.args.machine.now) in
    let after = g.S.Steps.state c.tick.new.self in
    let stack = g.S.Steps.stack c.tick.new.self in
    let spares : head_changes_table (next term) ≡ false = cc (c.would_change_table.ensures, c.if-would_change_table.false) in
    let ticked : IsTicked s term (turned.Table) after stack = subst (λ (t : Turned). IsTicked s term t after stack) c.in-Table.is c.in_ok-tick.ensures.ticked in
    λ fuel ticks. table_run s after stack term spares ticked fuel ticks

pub returns-in-Import-clause-stopped : goal.returns-in-Import-clause-stopped
returns-in-Import-clause-stopped g c =
    let s = g.S.Steps.state c.args.machine.now in
    let term = top_term (g.S.Steps.stack c.args.machine.now) in
    let after = g.S.Steps.state c.tick.new.self in
    let stack = g.S.Steps.stack c.tick.new.self in
    let spares : head_changes_table (next term) ≡ false = cc (c.would_change_table.ensures, c.if-would_change_table.false) in
    let ticked : IsTicked s term (turned.Import c.in-Import.import) after stack = subst (λ (t : Turned). IsTicked s term t after stack) c.in-Import.is c.in_ok-tick.ensures.ticked in
    λ fuel ticks. import_run s after stack term spares c.in-Import.import ticked fuel ticks

pub unreachable-requires : goal.unreachable-requires
unreachable-requires g c =
    let s = g.S.Steps.state c.args.machine.now in
    let term = top_term (g.S.Steps.stack c.args.machine.now) in
    let after = g.S.Steps.state c.tick.new.self in
    let stack = g.S.Steps.stack c.tick.new.self in
    let spares : head_changes_table (next term) ≡ false = cc (c.would_change_table.ensures, c.if-would_change_table.false) in
    let ticked : IsTicked s term (turned.Foreign c.in-Foreign.field-0) after stack = subst (λ (t : Turned). IsTicked s term t after stack) c.in-Foreign.is c.in_ok-tick.ensures.ticked in
    foreign_never s after stack term spares c.in-Foreign.field-0 ticked c.requires.own c.requires.holds
