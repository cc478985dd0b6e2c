-- The stores so far, and the number drawn last.
use Rattle.std.proofs.Common.{◌≡◌, ◌<◌, ◌^◌, ◌++◌}
use Rattle.wz_gen.specs.Sample.{draw_at, sample_stores}
use Rattle.wz_gen.proofs.sample_module.put_stores.Given as goal

abbrev pub invariant-loop-stored : goal.invariant-loop-stored
invariant-loop-stored l = record {
  stored : l.out.items ≡ l.initial.out.items ++ sample_stores l.number l.stored;
  drawn : l.draw ≡ draw_at l.number l.stored;
  below : l.draw < 2 ^ 31;
}
