use Rattle.std.proofs.Common.{subst, sym}
use Rattle.wz_module.specs.Meaning.{module_of}
use Rattle.wz_top.specs.Verdict.{IsRefusedBy}
use Rattle.wz_top.specs.declared.outcome.Outcome.{Outcome}
use Rattle.wz_top.proofs.TurnLemmas.{valid_refused, profile_refused}
use Rattle.wz_top.proofs.turn.accept.Goals as goal

pub returns-in-Err-validate-clause-refused : goal.returns-in-Err-validate-clause-refused
returns-in-Err-validate-clause-refused c = λ s.
    subst (λ (o : Outcome). IsRefusedBy s c.args.bytes.now o) (sym c.valid_outcome.ensures)
    (valid_refused s c.args.bytes.now (module_of c.in-Ok.accepted) c.in-Err-validate.fault c.in-Ok.ensures.spelled c.in-Err-validate.ensures.invalid)

pub returns-in-Err-profile-clause-refused : goal.returns-in-Err-profile-clause-refused
returns-in-Err-profile-clause-refused c = λ s.
    profile_refused s c.args.bytes.now (module_of c.in-Ok.accepted) c.in-Err-profile.cause c.in-Ok.ensures.spelled c.in_default.ensures.valid
    c.in-Err-profile.ensures.outside
