use Rattle.std.proofs.Common.{ℕ, ◌<◌, map, take}
use Rattle.wz_module.specs.Views.{export_of}
use Rattle.wz_module.specs.Meaning.{module_of}
use Rattle.wz_valid.specs.Checking.{IsNameNew}
use Rattle.wz_valid.proofs.NameLemmas.{HasSeen}
use Rattle.wz_valid.proofs.names.new_names.Given as goal

abbrev pub invariant-loop-index : goal.invariant-loop-index
invariant-loop-index l = record { seen : HasSeen l.names (take l.index (map export_of l.exports)); new : (k : ℕ) → k < l.index → IsNameNew (module_of l.«module») k }
