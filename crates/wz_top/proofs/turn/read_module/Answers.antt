use Rattle.std.proofs.Common.{subst, sym}
use Rattle.wz_top.specs.Verdict.{IsRefusedBy}
use Rattle.wz_top.specs.declared.outcome.Outcome.{Outcome}
use Rattle.wz_top.proofs.TurnLemmas.{decode_refused}
use Rattle.wz_top.proofs.turn.read_module.Goals as goal

pub returns-in-Err-clause-refused : goal.returns-in-Err-clause-refused
returns-in-Err-clause-refused c = λ s.
    subst (λ (o : Outcome). IsRefusedBy s c.args.bytes.now o) (sym c.decode_outcome.ensures)
    (decode_refused s c.args.bytes.now c.in-Err.fault c.in-Err.ensures.not_wasm c.in-Err.ensures.bad_section c.in-Err.ensures.bad_counts)
