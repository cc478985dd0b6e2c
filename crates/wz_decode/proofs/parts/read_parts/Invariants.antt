use Rattle.std.proofs.Common.{◌≤◌, ◌+◌, length, map}
use Rattle.std.specs.List.{All}
use Rattle.wz_module.specs.Views.{section_of, module_with}
use Rattle.wz_decode.specs.Contents.{IsInGrammar}
use Rattle.wz_decode.specs.Front.{HasFront, AreBefore}
use Rattle.wz_decode.proofs.parts.read_parts.Given as goal

abbrev pub invariant-sections : goal.invariant-sections
invariant-sections l = record {
  so_far : AreBefore l.bytes (map section_of l.parts.sections.items) l.cursor.left;
  front : HasFront (module_with l.parts) l.last;
  contents : All IsInGrammar (map section_of l.parts.sections.items);
  room : length l.parts.sections.items + length l.cursor.left ≤ length l.bytes;
}

abbrev pub decreases-sections : goal.decreases-sections
decreases-sections l = length l.cursor.left
