use Rattle.std.proofs.Common.{arith}
use Rattle.std.proofs.lemmas.Int.{ints}
use Rattle.wz_bytes.proofs.SignedLaws.{signed_within}
use Rattle.wz_decode_code.proofs.types.take_shape.Goals as goal

pub overflow_cast-result : goal.overflow_cast-result
overflow_cast-result c =
    let within = signed_within 33 _ _ (omega arith) c.in_ok-number.ensures.found.0.spelled in
    grind (arith, ints, within, c.if-number-lt0.false)
