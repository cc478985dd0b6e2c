use Rattle.std.proofs.Common.{arith, sym}
use Rattle.std.proofs.lemmas.Result.{err_from_is_err_and}
use Rattle.wz_decode_code.proofs.ItemLemmas.{u32_shorter}
use Rattle.wz_decode_code.proofs.PoolLemmas.{no_type_count, no_types, select_read}
use Rattle.wz_decode_code.proofs.pools.typed_select.Goals as goal

pub returns-in_default-clause-bad : goal.returns-in_default-clause-bad
returns-in_default-clause-bad c = λ bad. no_type_count _ (sym c.in_default.ensures.exact.0)

pub add_types-requires : goal.add_types-requires
add_types-requires c = record { room = omega (arith, c.requires.room, u32_shorter _ _ _ c.in-Some.ensures.exact.0) }

pub returns-in_err-first-clause-bad : goal.returns-in_err-first-clause-bad
returns-in_err-first-clause-bad c =
    let p = err_from_is_err_and c.from_residual.result c.from_residual.ensures.1 in
    λ bad. no_types _ _ _ (sym c.in-Some.ensures.exact.0) (c.in_err-first.ensures.bad (cc (p.1, p.2)))

pub returns-clause-ok : goal.returns-clause-ok
returns-clause-ok c = select_read _ _ _ _ _ _ _ (sym c.in-Some.ensures.exact.0) c.in_ok-first.ensures.ok c.in_ok-first.ensures.place
