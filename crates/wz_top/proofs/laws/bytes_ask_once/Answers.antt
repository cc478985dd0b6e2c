use Rattle.wz_top.proofs.VerdictLaws.{one_verdict}
use Rattle.wz_top.proofs.laws.bytes_ask_once.Goals as goal

pub returns : goal.returns
returns c =
    one_verdict c.at_most_one.ensures c.one_cause.ensures.one c.one_cause.ensures.spelled
    c.one_cause-2.ensures.first c.one_cause-2.ensures.valid c.one_cause-2.ensures.profile
