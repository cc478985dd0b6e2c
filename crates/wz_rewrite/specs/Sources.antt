-- What the contents of the output's sections are made from, and what was found out before they are made.
use Rattle.std.specs.Prelude.{◌≡◌, [], map}
use Rattle.wz_module.specs.Meaning.{module_of}
use Rattle.wz_module.specs.Module.{Module}
use Rattle.wz_encode.specs.Views.{slot_of}
use Rattle.wz_exports.specs.Undeclared.{undeclared_functions}
use Rattle.wz_rewrite.specs.OutputState.{OutputState, output_state}
use Rattle.wz_rewrite.specs.Dropped.{dropped_elements}
use Rattle.wz_rewrite.specs.Slots.{output_slots}
use Rattle.wz_rewrite.specs.Sections.{lacks, elements_before}
use Rattle.wz_rewrite.specs.declared.sources.Sources.{Sources}

abbrev pub source_module : Sources → Module
source_module s = module_of s.input.now

-- pieces don't depend on what the memories hold
abbrev pub source_state : Sources → OutputState
source_state s = output_state (source_module s) s.snapshot.now [] s.kept.now

-- what was found out is so
pub record AreFound (s : Sources) : Type 0 where
  pub undeclared : s.undeclared.items ≡ undeclared_functions (source_module s) s.snapshot.now s.kept.now
  pub dropped : s.dropped.items ≡ dropped_elements (source_module s) (source_state s)
  pub slots : map slot_of s.slots.items ≡ output_slots (source_module s) (source_state s)
  pub before : s.elements_before ≡ elements_before (source_module s).sections
  pub lacks_elements : s.lacks_elements ≡ lacks 9 (source_module s).sections
  pub lacks_datas : s.lacks_datas ≡ lacks 11 (source_module s).sections
