use Rattle.std.proofs.lemmas.List.{take_rest}
use Rattle.wz_io.proofs.WritingLemmas.{comes_on}
use Rattle.wz_io.proofs.writing.write_all.Goals as goal

pub loop-at-preserved : goal.loop-at-preserved
loop-at-preserved g c =
    comes_on _ _ _ _ _ _ _ c.loop-at.invariant (take_rest c.args.bytes.now c.loop-at.at) c.in_ok-at.ensures.did
