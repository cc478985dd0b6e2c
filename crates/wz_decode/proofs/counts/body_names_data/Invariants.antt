use Rattle.std.proofs.Common.{◌≡◌, take}
use Rattle.std.specs.List.{list_any}
use Rattle.wz_decode.specs.CountRules.{names_data}
use Rattle.wz_decode.proofs.counts.body_names_data.Given as goal

abbrev pub invariant-loop-number : goal.invariant-loop-number
invariant-loop-number l = l.found ≡ list_any (λ block. list_any names_data block) (take l.number l.body.blocks)
