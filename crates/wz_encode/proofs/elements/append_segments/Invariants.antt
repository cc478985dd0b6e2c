use Rattle.std.proofs.Common.{◌≡◌, ◌++◌, take}
use Rattle.wz_encode.specs.Elements.{all_covered, kept_segments_text}
use Rattle.wz_encode.proofs.elements.append_segments.Given as goal

abbrev pub invariant-loop-number : goal.invariant-loop-number
invariant-loop-number l = l.out.items ≡ l.fn.out.items ++ kept_segments_text l.dropped 0 (all_covered l.payload (take l.number l.spans))
