use Rattle.std.proofs.Common.{◌≡◌, ◌++◌, map, drop}
use Rattle.wz_module.specs.Views.{elem_of}
use Rattle.wz_rewrite.specs.Dropped.{dropped_from}
use Rattle.wz_rewrite.proofs.dropped.dropped_numbers.Given as goal

abbrev pub invariant-loop-number : goal.invariant-loop-number
invariant-loop-number l =
    dropped_from l.marks 0 (map elem_of l.segments) ≡ l.dropped.items ++ dropped_from l.marks l.number (map elem_of (drop l.number l.segments))
