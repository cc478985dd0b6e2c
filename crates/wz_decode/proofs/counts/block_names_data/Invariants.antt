use Rattle.std.proofs.Common.{◌≡◌, take}
use Rattle.std.specs.List.{list_any}
use Rattle.wz_decode.specs.CountRules.{names_data}
use Rattle.wz_decode.proofs.counts.block_names_data.Given as goal

abbrev pub invariant-loop-instr : goal.invariant-loop-instr
invariant-loop-instr l = l.found ≡ list_any names_data (take l.instr-index l.block)
