-- Section 2.5.11 of the Core Specification: imports.
use Rattle.std.specs.Prelude.{ℕ, List}
use Rattle.wz_module.specs.declared.items.ImportKind.{ImportKind}

-- the names of a module and of what it has, as their bytes in UTF-8, and what that has to be
pub record Import : Type 0 where
  pub from_module : List ℕ
  pub name : List ℕ
  pub kind : ImportKind
