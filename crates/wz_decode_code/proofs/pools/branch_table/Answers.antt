use Rattle.std.proofs.Common.{arith, sym}
use Rattle.std.proofs.lemmas.Result.{err_from_is_err_and}
use Rattle.wz_decode_code.proofs.ItemLemmas.{u32_shorter}
use Rattle.wz_decode_code.proofs.PoolLemmas.{no_count, no_labels, no_last, table_read}
use Rattle.wz_decode_code.proofs.pools.branch_table.Goals as goal

pub returns-in_default-clause-bad : goal.returns-in_default-clause-bad
returns-in_default-clause-bad c = λ bad. no_count _ (sym c.in_default.ensures.exact.0)

pub add_labels-requires : goal.add_labels-requires
add_labels-requires c = record { room = omega (arith, c.requires.room, u32_shorter _ _ _ c.in-Some.ensures.exact.0) }

pub returns-in_err-first-clause-bad : goal.returns-in_err-first-clause-bad
returns-in_err-first-clause-bad c =
    let p = err_from_is_err_and c.from_residual.result c.from_residual.ensures.1 in
    λ bad. no_labels _ _ _ (sym c.in-Some.ensures.exact.0) (c.in_err-first.ensures.bad (cc (p.1, p.2)))

pub returns-in_default-number-clause-bad : goal.returns-in_default-number-clause-bad
returns-in_default-number-clause-bad c = λ bad. no_last _ _ _ _ _ _ (sym c.in-Some.ensures.exact.0) c.in_ok-first.ensures.ok (sym c.in_default-number.ensures.exact.0)

pub returns-clause-ok : goal.returns-clause-ok
returns-clause-ok c = table_read _ _ _ _ _ _ _ _ _ (sym c.in-Some.ensures.exact.0) c.in_ok-first.ensures.ok c.in_ok-first.ensures.place (sym c.in-Some-number.ensures.exact.0)
