use Rattle.std.proofs.Common.{All, ◌<◌, take}
use Rattle.wz_init.proofs.bytes.segments_hold_bytes.Given as given

abbrev pub invariant-loop-segment : given.invariant-loop-segment
invariant-loop-segment l = All (λ segment. All (λ byte. byte < 256) segment.bytes.now) (take l.segment-index l.segments)
