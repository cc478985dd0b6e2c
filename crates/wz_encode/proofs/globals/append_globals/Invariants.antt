use Rattle.std.proofs.Common.{◌≡◌, ◌++◌, length, take}
use Rattle.std.specs.List.{flat_map, zip}
use Rattle.wz_bytes.specs.Shortest.{shortest_unsigned}
use Rattle.wz_encode.specs.Globals.{global_text}
use Rattle.wz_encode.proofs.globals.append_globals.Given as goal

abbrev pub invariant-loop-kind : goal.invariant-loop-kind
invariant-loop-kind l = l.out.items ≡ l.fn.out.items ++ (shortest_unsigned (length l.kinds) ++ flat_map global_text (take (length l.yielded) (zip l.kinds l.values)))
