use Rattle.std.proofs.Common.{◌≡◌, subst}
use Rattle.wz_module.specs.Meaning.{module_of}
use Rattle.wz_words.specs.Settings.{settings_of}
use Rattle.wz_init.specs.declared.order.RunOrder.{RunOrder}
use Rattle.wz_init.specs.Orders.{IsRunnable}
use Rattle.wz_init.specs.States.{state_in}
use Rattle.wz_top.specs.Verdict.{order_of}
use Rattle.wz_top.proofs.HeadlineLaws.{data_bytes}
use Rattle.wz_top.proofs.OutsideLaws.{names_differ}
use Rattle.wz_top.proofs.RunnableLemmas.{kept_run}
use Rattle.wz_top.proofs.tests.sessions.initialised.Goals as goal

pub keep-requires-clause-names : goal.keep-requires-clause-names
keep-requires-clause-names c = names_differ (module_of c.args.accepted.now) c.requires.1.valid

pub initialise-requires-clause-runnable : goal.initialise-requires-clause-runnable
initialise-requires-clause-runnable c =
    let s = settings_of c.in_ok-settings.settings in
    let m = module_of c.args.accepted.now in
    let order : RunOrder = record { reactor = c.reactor.result; function = c.function.result; fuel = c.in_ok-settings.settings.fuel } in
    let reactor = c.reactor.ensures in
    let function = c.function.ensures in
    let same : order_of s c.in-Ok.kept ≡ order = cc in
    subst (λ (o : RunOrder). IsRunnable m o) same (kept_run m s c.in-Ok.kept c.in-Ok.ensures.kept)

pub returns-in-Ok-initialise : goal.returns-in-Ok-initialise
returns-in-Ok-initialise c =
    let s = settings_of c.in_ok-settings.settings in
    let m = module_of c.args.accepted.now in
    let order : RunOrder = record { reactor = c.reactor.result; function = c.function.result; fuel = c.in_ok-settings.settings.fuel } in
    let reactor = c.reactor.ensures in
    let function = c.function.ensures in
    let same : order_of s c.in-Ok.kept ≡ order = cc in
    let runnable = subst (λ (o : RunOrder). IsRunnable m o) same (kept_run m s c.in-Ok.kept c.in-Ok.ensures.kept) in
    let input = c.requires.1 in
    c.states_are_typed.ensures.run m order (state_in m c.in-Ok-initialise.reached.store) c.in-Ok-initialise.reached.ticks input.valid input.inside
    (data_bytes c.requires.0 m input.spelled) runnable c.in-Ok-initialise.ensures.reached
