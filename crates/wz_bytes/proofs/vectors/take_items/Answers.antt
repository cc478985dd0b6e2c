use Rattle.std.proofs.Common.{arith}
use Rattle.std.proofs.lemmas.List.{length-append}
use Rattle.wz_bytes.proofs.VectorLaws.{read_push}
use Rattle.wz_bytes.proofs.vectors.take_items.Goals as goal

pub loop-preserved : goal.loop-preserved
loop-preserved g c =
    let p = c.in_ok-push.ensures.items in
    let i = c.loop.invariant in
    record {
      many = rw (p, length-append _ _, i.many) (omega arith);
      left = omega (arith, i.left, c.in_ok-item.ensures.left);
      read = rw p (read_push g.R.Item.reads _ _ _ c.loop.items.items _ i.read c.in_ok-item.ensures.ok);
    }
