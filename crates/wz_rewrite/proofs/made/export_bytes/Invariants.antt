use Rattle.std.proofs.Common.{◌≡◌, ◌++◌, length, take}
use Rattle.std.specs.List.{flat_map}
use Rattle.wz_bytes.specs.Shortest.{shortest_unsigned}
use Rattle.wz_encode.specs.Exports.{export_text}
use Rattle.wz_rewrite.proofs.made.export_bytes.Given as goal

abbrev pub invariant-loop-at : goal.invariant-loop-at
invariant-loop-at l = l.bytes.items ≡ shortest_unsigned (length l.kept.entries) ++ flat_map (λ e. export_text e.name e.target) (take l.at l.kept.entries)
