use Rattle.std.proofs.Common.{rules, ◌≡◌, ℕ, ◌<◌, ◌%◌, ◌∙◌, arith}
use Rattle.wz_num.specs.Integers.{irotl, irotr}
use Rattle.wz_num.specs.Number.{number}
use Rattle.wz_num.proofs.PatternLemmas.{left_at, right_at}
use Rattle.wz_num.proofs.patterns.two_i32.Goals as goal

below : (b : ℕ) → b % 32 < 32
below b = omega arith

pub returns-in-I32Rotl : goal.returns-in-I32Rotl
unfolding number
returns-in-I32Rotl c =
    let is : c.rotate_left.result ≡ irotl 32 c.args.a c.args.b = c.rotate_left.ensures ∙ left_at 32 c.args.a (c.args.b % 32) (below c.args.b) c.ranges.a.fits in
    search (rules, is)

pub returns-in-I32Rotr : goal.returns-in-I32Rotr
unfolding number
returns-in-I32Rotr c =
    let is : c.rotate_right.result ≡ irotr 32 c.args.a c.args.b = c.rotate_right.ensures ∙ right_at 32 c.args.a (c.args.b % 32) (below c.args.b) c.ranges.a.fits in
    search (rules, is)
