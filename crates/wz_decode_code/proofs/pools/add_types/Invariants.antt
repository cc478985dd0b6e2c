use Rattle.std.proofs.Common.{length}
use Rattle.wz_decode_code.specs.Types.{type_at}
use Rattle.wz_decode_code.specs.Pools.{with_types, Adding, EndsBehind}
use Rattle.wz_decode_code.proofs.pools.add_types.Given as goal

abbrev pub invariant-loop : goal.invariant-loop
invariant-loop l = record {
  adding : Adding (λ b. type_at b) (λ body types. with_types body types) l.count l.counter l.initial.cursor.left l.initial.builder l.builder l.cursor.left;
  end : EndsBehind l.counter l.end (length l.builder.types);
}
