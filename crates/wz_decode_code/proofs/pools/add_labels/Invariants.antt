use Rattle.std.proofs.Common.{length}
use Rattle.wz_decode_code.specs.InstrReading.{u32_at}
use Rattle.wz_decode_code.specs.Pools.{with_labels, Adding, EndsBehind}
use Rattle.wz_decode_code.proofs.pools.add_labels.Given as goal

abbrev pub invariant-loop : goal.invariant-loop
invariant-loop l = record {
  adding : Adding (λ b. u32_at b) (λ body labels. with_labels body labels) l.count l.counter l.initial.cursor.left l.initial.builder l.builder l.cursor.left;
  end : EndsBehind l.counter l.end (length l.builder.labels);
}
