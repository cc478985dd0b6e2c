use Rattle.std.proofs.Common.{◌≡◌, ◌+◌, ◌-◌, take, drop, ap, arith}
use Rattle.wz_linear.specs.Bytes.{part}
use Rattle.wz_bulk.proofs.memories.range.Goals as goal

pub returns-clause-value : goal.returns-clause-value
unfolding part
returns-clause-value c =
    let count : c.args.from + c.args.len - c.args.from ≡ c.args.len = omega arith in
    ap (λ n. take n (drop c.args.from c.args.source.now)) count
