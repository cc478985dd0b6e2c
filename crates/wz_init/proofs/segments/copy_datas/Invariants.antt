use Rattle.std.proofs.Common.{◌≡◌, drop, length}
use Rattle.wz_init.specs.Plain.{plain_datas_run}
use Rattle.wz_init.proofs.segments.copy_datas.Given as goal

abbrev pub invariant-loop-index : goal.invariant-loop-index
invariant-loop-index g l = record {
  goes_on : plain_datas_run l.index (drop l.index l.segments) l.store ≡ plain_datas_run 0 l.segments l.initial.store;
  memories : length l.store.memories ≡ length l.initial.store.memories;
  datas : length l.store.datas ≡ length l.initial.store.datas;
}
