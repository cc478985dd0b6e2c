use Rattle.std.proofs.Common.{◌-◌, ◌≡◌, set, length, arith, ap, ◌∙◌}
use Rattle.std.specs.List.{slice_get}
use Rattle.std.proofs.lemmas.Grind.{common_steps}
use Rattle.wz_plan.proofs.AddLemmas.{read_by_get}
use Rattle.wz_plan.proofs.ScanLemmas.{restored, on_err}
use Rattle.wz_plan.proofs.scan.push_runs.Goals as goal

pub returns-in-Some-clause-refused : goal.returns-in-Some-clause-refused
returns-in-Some-clause-refused c =
    let size : c.len-kept.result ≡ length c.args.runs.now.items = grind (arith, common_steps) in
    let read = read_by_get c.args.runs.now.items (length c.args.runs.now.items - 1) c.in-Some.run'
    (c.in-Some.ensures ∙ c.last.ensures.value ∙ ap (λ l. slice_get l (length l - 1)) c.deref.ensures.value) in
    on_err c.add_runs-added.result _
    (ap (λ l. set l (c.len-kept.result - 1) c.in-Some.run') c.truncate.ensures.items
    ∙ rw size (restored c.args.runs.now.items c.add_runs-added.new.runs.items c.in-Some.run' c.add_runs-added.ensures.front (omega arith) read.1))
