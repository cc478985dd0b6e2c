use Rattle.std.proofs.Common.{arith, sym}
use Rattle.std.proofs.lemmas.Result.{err_from_is_err_and}
use Rattle.wz_decode_code.proofs.ItemLemmas.{u32_shorter}
use Rattle.wz_decode_code.proofs.LocalsLemmas.{no_run_count, no_runs, too_many, locals_read}
use Rattle.wz_decode_code.proofs.entry.read_locals.Goals as goal

pub returns-in_default-clause-bad : goal.returns-in_default-clause-bad
returns-in_default-clause-bad c = λ bad. no_run_count _ (sym c.in_default.ensures.exact.0)

pub add_runs-requires : goal.add_runs-requires
add_runs-requires c = omega (arith, c.requires, u32_shorter _ _ _ c.in-Some.ensures.exact.0)

pub returns-in_err-total-clause-bad : goal.returns-in_err-total-clause-bad
returns-in_err-total-clause-bad c =
    let p = err_from_is_err_and c.from_residual.result c.from_residual.ensures.1 in
    λ bad. no_runs _ _ _ (sym c.in-Some.ensures.exact.0) (c.in_err-total.ensures.bad (cc (p.1, p.2)))

pub returns-then-total-clause-bad : goal.returns-then-total-clause-bad
returns-then-total-clause-bad c = λ bad. too_many _ _ _ _ _ _ _ (sym c.in-Some.ensures.exact.0) c.in_ok-total.ensures.ok c.in_ok-total.ensures.total c.if-total.true

pub returns-clause-ok : goal.returns-clause-ok
returns-clause-ok c = locals_read _ _ _ _ _ _ _ (sym c.in-Some.ensures.exact.0) c.in_ok-total.ensures.ok c.in_ok-total.ensures.total c.if-total.false
