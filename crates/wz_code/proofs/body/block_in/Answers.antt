use Rattle.std.proofs.Common.{sym, arith}
use Rattle.wz_code.proofs.LayoutLemmas.{cut-get, cut-none}
use Rattle.wz_code.proofs.body.block_in.Goals as goal

pub returns-then-number-starts : goal.returns-then-number-starts
returns-then-number-starts c = sym (cut-none c.args.code.now c.args.starts.now 0 c.args.number (omega arith))

pub returns : goal.returns
returns c =
    let e = cut-get c.args.code.now c.args.starts.now 0 c.args.number (omega arith) in
    rw (c.begin_of-from.ensures, c.end_of-to.ensures) (sym e)
