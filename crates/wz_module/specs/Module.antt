-- Section 2.5 of the Core Specification: what a module is made of, with its sections as they stand in the binary (section 5.5.2).
use Rattle.std.specs.Prelude.{ℕ, List, Option}
use Rattle.wz_types.specs.declared.types.TableType.{TableType}
use Rattle.wz_types.specs.declared.types.MemType.{MemType}
use Rattle.wz_types.specs.FunctionType.{FunctionType}
use Rattle.wz_module.specs.Sections.{Section}
use Rattle.wz_module.specs.Imports.{Import}
use Rattle.wz_module.specs.Exports.{Export}
use Rattle.wz_module.specs.Functions.{BodyTree}
use Rattle.wz_module.specs.Globals.{GlobalDef}
use Rattle.wz_module.specs.Elements.{Elem}
use Rattle.wz_module.specs.Datas.{DataSegment}

-- the sections, and what they hold; a function of the module's own has its type's number in `functions`, and the rest of it in `bodies`
pub record Module : Type 0 where
  pub sections : List Section
  pub types : List FunctionType
  pub imports : List Import
  pub functions : List ℕ
  pub tables : List TableType
  pub memories : List MemType
  pub globals : List GlobalDef
  pub exports : List Export
  pub start : Option ℕ
  pub elements : List Elem
  pub data_count : Option ℕ
  pub bodies : List BodyTree
  pub datas : List DataSegment
