use Rattle.std.proofs.Common.{rules, ◌≡◌, ℕ, ◌<◌, ◌%◌, ◌∙◌, arith}
use Rattle.wz_num.specs.Integers.{irotl, irotr}
use Rattle.wz_num.specs.Number.{number}
use Rattle.wz_num.proofs.PatternLemmas.{left, right}
use Rattle.wz_num.proofs.patterns.two_i64.Goals as goal

below : (b : ℕ) → b % 64 < 64
below b = omega arith

pub returns-in-I64Rotl : goal.returns-in-I64Rotl
unfolding number
returns-in-I64Rotl c =
    let is : c.rotate_left.result ≡ irotl 64 c.args.a c.args.b = c.rotate_left.ensures ∙ left 64 c.args.a (c.args.b % 64) (below c.args.b) c.ranges.a.fits in
    search (rules, is)

pub returns-in-I64Rotr : goal.returns-in-I64Rotr
unfolding number
returns-in-I64Rotr c =
    let is : c.rotate_right.result ≡ irotr 64 c.args.a c.args.b = c.rotate_right.ensures ∙ right 64 c.args.a (c.args.b % 64) (below c.args.b) c.ranges.a.fits in
    search (rules, is)
