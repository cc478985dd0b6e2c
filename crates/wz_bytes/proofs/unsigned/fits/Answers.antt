use Rattle.std.proofs.Common.{◌≤◌, ◌^◌, sym, ◌∙◌, arith}
use Rattle.std.proofs.lemmas.Bool.{lt-ltb, le-leb}
use Rattle.wz_bytes.proofs.Widths.{at_least_7}
use Rattle.wz_bytes.proofs.unsigned.fits.Goals as goal

pub returns-then-bits-ge7 : goal.returns-then-bits-ge7
returns-then-bits-ge7 c =
    let enough : 7 ≤ c.args.bits = omega arith in
    le-leb 7 c.args.bits enough ∙ sym (lt-ltb c.args.byte (2 ^ c.args.bits) (omega (arith, at_least_7 c.args.bits enough)))
