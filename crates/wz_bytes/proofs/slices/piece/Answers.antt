use Rattle.std.proofs.Common.{refl}
use Rattle.std.proofs.Common.{length, arith}
use Rattle.std.proofs.lemmas.Bool.{le-ltb}
use Rattle.wz_bytes.proofs.ByteLemmas.{slice_passes}
use Rattle.wz_bytes.proofs.slices.piece.Goals as goal

pub returns-clause-exact : goal.returns-clause-exact
returns-clause-exact c =
    let e = c.split_at.ensures in
    let long = le-ltb (length c.args.bytes.now) c.args.n (omega arith) in
    let bytes = slice_passes c.args.n c.args.bytes.now c.type_inv.bytes in
    rw (long, bytes, e.front, e.back) refl
