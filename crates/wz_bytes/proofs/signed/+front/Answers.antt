use Rattle.std.proofs.Common.{◌<◌, ◌-◌, arith, get_or, ap, ◌∙◌, List, ℕ}
use Rattle.std.proofs.lemmas.Int.{ints}
use Rattle.std.proofs.lemmas.List.{take_rest}
use Rattle.wz_bytes.specs.Signed.{signed_at}
use Rattle.wz_bytes.proofs.SignedLemmas.{half_scaled, half_at_most, within_more, joined, signed_at_more}
use Rattle.wz_bytes.proofs.signed.+front.Goals as goal

pub overflow_mul-result : goal.overflow_mul-result
overflow_mul-result t c =
    let many : 7 < c.args.bits = omega arith in
    let e = half_scaled c.args.bits many in
    let most = half_at_most c.args.bits c.requires.most in
    omega (arith, ints, e, most, c.in_ok-high.ensures.below.0, c.in_ok-high.ensures.below.1)

pub returns-clause-below : goal.returns-clause-below
returns-clause-below t c =
    let many : 7 < c.args.bits = omega arith in
    let byte : get_or c.args.bytes.now 0 0 < 256 = (c.type_inv.bytes 0).fits in
    let low : get_or c.args.bytes.now 0 0 - 128 < 128 = omega arith in
    rw (joined c.args.bits c.in_ok-high.high c.from.result _ many c.requires.most c.in_ok-high.ensures.below c.from.ensures low)
    (within_more c.args.bits c.in_ok-high.high _ many low c.in_ok-high.ensures.below)

pub returns-clause-exact : goal.returns-clause-exact
returns-clause-exact t c =
    let many : 7 < c.args.bits = omega arith in
    let byte : get_or c.args.bytes.now 0 0 < 256 = (c.type_inv.bytes 0).fits in
    let low : get_or c.args.bytes.now 0 0 - 128 < 128 = omega arith in
    rw (joined c.args.bits c.in_ok-high.high c.from.result _ many c.requires.most c.in_ok-high.ensures.below c.from.ensures low)
    (signed_at_more c.args.bits c.args.bytes.now c.in_ok-high.high c.in_ok-high.rest.now c.in-len1-up.len_at_least many c.if-byte-lt128.false byte
    (c.in_ok-high.ensures.exact ∙ ap (λ (t : List ℕ). signed_at (c.args.bits - 7) t) (take_rest c.args.bytes.now 1)))
