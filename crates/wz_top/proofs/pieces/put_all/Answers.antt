use Rattle.std.proofs.lemmas.List.{take_rest}
use Rattle.wz_top.proofs.SayingLemmas.{puts_more}
use Rattle.wz_top.proofs.pieces.put_all.Goals as goal

pub loop-at-preserved : goal.loop-at-preserved
loop-at-preserved g c =
    puts_more _ _ _ _ _ _ _ c.loop-at.invariant (take_rest c.args.bytes.now c.loop-at.at) c.in_ok-at.ensures.did
