use Rattle.std.proofs.Common.{◌∙◌, arith}
use Rattle.std.proofs.lemmas.Result.{err_from_is_err_and}
use Rattle.wz_code.proofs.LawLemmas.{short_by_count}
use Rattle.wz_decode_code.proofs.LoopLemmas.{stepping, goes_on, is_done, is_refused, no_symbol, symbol_locals}
use Rattle.wz_decode_code.proofs.expr.read_code.Goals as goal

pub returns-in_err-token-clause-bad : goal.returns-in_err-token-clause-bad
returns-in_err-token-clause-bad c =
    let p = err_from_is_err_and c.from_residual.result c.from_residual.ensures.1 in
    λ bad. no_symbol _ _ _ _ (c.in_err-token.ensures.bad (cc (p.1, p.2))) c.symbols.invariant.so_far

pub step-requires-clause-reading : goal.step-requires-clause-reading
step-requires-clause-reading c = (stepping _ _ _ _ _ _ _ _ c.in_ok-token.ensures.ok c.symbols.invariant.reading c.symbols.invariant.so_far).reading

pub returns-in_err-inner-clause-bad : goal.returns-in_err-inner-clause-bad
returns-in_err-inner-clause-bad c =
    let p = err_from_is_err_and c.from_residual-in_err-inner.result c.from_residual-in_err-inner.ensures.1 in
    let s = stepping _ _ _ _ _ _ _ _ c.in_ok-token.ensures.ok c.symbols.invariant.reading c.symbols.invariant.so_far in
    λ bad. is_refused _ _ _ _ _ _ s (c.in_err-inner.ensures.bad (cc (p.1, p.2)))

pub symbols-preserved : goal.symbols-preserved
symbols-preserved c =
    let i = c.symbols.invariant in
    let e = c.in_ok-inner.ensures in
    let f = rw c.in-Some.is at e.ok in
    let room = rw c.in-Some.is at e.room in
    let s = stepping _ _ _ _ _ _ _ _ c.in_ok-token.ensures.ok i.reading i.so_far in
    record {
      reading = f.0;
      room = omega (arith, i.room, room, c.in_ok-token.ensures.ok.room);
      so_far = goes_on _ _ _ _ _ _ _ _ s f.1;
      locals = e.locals ∙ symbol_locals _ _ _ _ _ c.in_ok-token.ensures.ok ∙ i.locals;
    }

pub finish-requires-clause-short : goal.finish-requires-clause-short
finish-requires-clause-short c =
    let room = rw c.in-None.is at c.in_ok-inner.ensures.room in
    short_by_count c.step.new.builder (omega (arith, c.requires.room, c.symbols.invariant.room, room, c.in_ok-token.ensures.ok.room))

pub returns-in-None-clause-ok : goal.returns-in-None-clause-ok
returns-in-None-clause-ok c =
    let f = rw c.in-None.is at c.in_ok-inner.ensures.ok in
    let s = stepping _ _ _ _ _ _ _ _ c.in_ok-token.ensures.ok c.symbols.invariant.reading c.symbols.invariant.so_far in
    rw c.finish.ensures (is_done _ _ _ _ _ _ _ s f.1)
