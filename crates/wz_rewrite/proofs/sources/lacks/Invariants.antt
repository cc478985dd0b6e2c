use Rattle.std.proofs.Common.{◌≡◌, map, drop}
use Rattle.wz_module.specs.Views.{section_of}
use Rattle.wz_rewrite.specs.Sections.{lacks}
use Rattle.wz_rewrite.proofs.sources.lacks.Given as goal

abbrev pub invariant-loop-section : goal.invariant-loop-section
invariant-loop-section l = lacks l.id (map section_of l.sections) ≡ lacks l.id (map section_of (drop l.section-index l.sections))
