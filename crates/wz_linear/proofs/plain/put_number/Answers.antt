use Rattle.std.proofs.Common.{◌≡◌, arith}
use Rattle.wz_linear.proofs.BytesLemmas.{sets_low, put_2, put_4, put_8}
use Rattle.wz_linear.proofs.plain.put_number.Goals as goal

pub returns-in-1 : goal.returns-in-1
returns-in-1 c = rw (c.to_le_bytes-all.ensures, c.in-1.is) (sets_low c.args.bytes.now c.args.at 1 7 c.args.value (omega arith) (omega arith))

pub returns-in-2 : goal.returns-in-2
returns-in-2 c =
    rw (c.to_le_bytes-all.ensures, c.in-2.is, put_2) (sets_low c.args.bytes.now c.args.at 2 6 c.args.value (omega arith) (omega arith))

pub returns-in-4 : goal.returns-in-4
returns-in-4 c =
    rw (c.to_le_bytes-all.ensures, c.in-4.is, put_4) (sets_low c.args.bytes.now c.args.at 4 4 c.args.value (omega arith) (omega arith))

pub returns-in_default : goal.returns-in_default
returns-in_default c =
    let e : c.args.width ≡ 8 = grind arith in
    rw (c.to_le_bytes-all.ensures, e, put_8) (sets_low c.args.bytes.now c.args.at 8 0 c.args.value (omega arith) (omega arith))
