use Rattle.std.proofs.Common.{◌≡◌, drop, reverse}
use Rattle.wz_valid_code.specs.Checking.{each_offered}
use Rattle.wz_valid_code.proofs.control.all_offered.Given as goal

abbrev pub invariant-loop-number : goal.invariant-loop-number
invariant-loop-number l = each_offered (reverse l.labels) l.numbers l.count l.stack.items l.stack.dead
    ≡ each_offered (reverse l.labels) (drop l.number-index l.numbers) l.count l.stack.items l.stack.dead
