use Rattle.std.proofs.Common.{◌≡◌, ◌≤◌, ◌*◌, length, drop}
use Rattle.wz_decode_code.specs.Entry.{locals_count, run_at}
use Rattle.wz_decode_code.specs.Pools.{with_runs, Adding}
use Rattle.wz_decode_code.proofs.entry.add_runs.Given as goal

abbrev pub invariant-loop : goal.invariant-loop
invariant-loop l = record {
  adding : Adding (λ b. run_at b) (λ body runs. with_runs body runs) l.count l.counter l.initial.cursor.left l.initial.builder l.builder l.cursor.left;
  sum : l.total ≡ locals_count (drop (length l.initial.builder.locals) l.builder.locals);
  most : l.total ≤ 4294967295 * l.counter;
}
