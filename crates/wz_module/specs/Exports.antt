-- Section 2.5.10 of the Core Specification: exports.
use Rattle.std.specs.Prelude.{ℕ, List}
use Rattle.wz_module.specs.declared.items.ExportTarget.{ExportTarget}

-- a name, as its bytes in UTF-8, and what it gives out
pub record Export : Type 0 where
  pub name : List ℕ
  pub target : ExportTarget
