use Rattle.std.proofs.Common.{◌≡◌, subst, sym}
use Rattle.wz_module.specs.Meaning.{module_of}
use Rattle.wz_words.specs.Settings.{settings_of}
use Rattle.wz_init.specs.declared.order.RunOrder.{RunOrder}
use Rattle.wz_init.specs.Ready.{IsRefused}
use Rattle.wz_top.specs.Verdict.{IsRefusedBy, order_of}
use Rattle.wz_top.specs.declared.outcome.Outcome.{Outcome}
use Rattle.wz_top.proofs.OutsideLaws.{names_differ}
use Rattle.wz_init.specs.Orders.{IsRunnable}
use Rattle.wz_top.proofs.RunnableLemmas.{kept_run}
use Rattle.wz_top.proofs.TurnLemmas.{export_refused, run_refused}
use Rattle.wz_top.proofs.MakingLemmas.{refused_made}
use Rattle.wz_top.proofs.making.make.Goals as goal

pub keep-requires-clause-names : goal.keep-requires-clause-names
keep-requires-clause-names g c = names_differ (module_of c.args.accepted.now) c.requires.accepted.1.valid

pub returns-in-Err-clause-made : goal.returns-in-Err-clause-made
returns-in-Err-clause-made g c = λ bytes a.
    let s = settings_of c.args.settings.now in
    refused_made s bytes c.export_outcome.result (g.F.Files.world c.args.files.now)
    (subst (λ (o : Outcome). IsRefusedBy s bytes o) (sym c.export_outcome.ensures)
    (export_refused s bytes (module_of c.args.accepted.now) c.in-Err.fault a c.in-Err.ensures.fault))

pub initialise-requires-clause-runnable : goal.initialise-requires-clause-runnable
initialise-requires-clause-runnable g c =
    let s = settings_of c.args.settings.now in
    let m = module_of c.args.accepted.now in
    let order : RunOrder = record { reactor = c.reactor.result; function = c.function.result; fuel = c.args.settings.now.fuel } in
    let reactor = c.reactor.ensures in
    let function = c.function.ensures in
    let same : order_of s c.in-Ok.kept ≡ order = cc in
    subst (λ (o : RunOrder). IsRunnable m o) same (kept_run m s c.in-Ok.kept c.in-Ok.ensures.kept)

pub returns-in-Err-initialise-clause-made : goal.returns-in-Err-initialise-clause-made
returns-in-Err-initialise-clause-made g c = λ bytes a.
    let s = settings_of c.args.settings.now in
    let m = module_of c.args.accepted.now in
    let k = c.in-Ok.kept in
    let order : RunOrder = record { reactor = c.reactor.result; function = c.function.result; fuel = c.args.settings.now.fuel } in
    let reactor = c.reactor.ensures in
    let function = c.function.ensures in
    let same : order ≡ order_of s k = cc in
    refused_made s bytes c.init_outcome.result (g.F.Files.world c.args.files.now)
    (subst (λ (o : Outcome). IsRefusedBy s bytes o) (sym c.init_outcome.ensures)
    (run_refused s bytes m k c.in-Err-initialise.fault a c.in-Ok.ensures.kept
    (subst (λ (o : RunOrder). IsRefused m o c.in-Err-initialise.fault) same c.in-Err-initialise.ensures.refused)))
