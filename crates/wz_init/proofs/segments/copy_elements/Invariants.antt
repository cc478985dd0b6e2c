use Rattle.std.proofs.Common.{◌≡◌, drop}
use Rattle.wz_init.specs.Plain.{plain_elements_run, table_kinds, element_kinds}
use Rattle.wz_init.proofs.segments.copy_elements.Given as goal

abbrev pub invariant-loop-index : goal.invariant-loop-index
invariant-loop-index g l = record {
  goes_on : plain_elements_run l.index (drop l.index l.elements) l.store ≡ plain_elements_run 0 l.elements l.initial.store;
  tables : table_kinds l.store ≡ table_kinds l.initial.store;
  elements : element_kinds l.store ≡ element_kinds l.initial.store;
}
