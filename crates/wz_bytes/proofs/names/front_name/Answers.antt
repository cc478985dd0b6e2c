use Rattle.std.proofs.Common.{ap, ◌∙◌, List, ℕ, Some}
use Rattle.wz_bytes.proofs.NameLaws.{name_some, name_none}
use Rattle.wz_bytes.proofs.names.front_name.Goals as goal

pub returns-in-Ok : goal.returns-in-Ok
returns-in-Ok c =
    let text = c.in-Ok.ensures.cases in
    ap (λ (t : List ℕ). Some (t, c.in_ok-name.rest.now)) text.0 ∙ name_some c.args.bytes.now c.in_ok-name.name.now c.in_ok-name.rest.now c.in_ok-name.ensures text.1

pub returns-in-Err : goal.returns-in-Err
returns-in-Err c = name_none c.args.bytes.now c.in_ok-name.name.now c.in_ok-name.rest.now c.in_ok-name.ensures c.in-Err.ensures.cases.0
