-- Section 5.5.2 of the Core Specification: which section an id stands for, and what its contents are in the grammar of.
use Rattle.std.specs.Prelude.{◌≡◌, ◌≢◌, ◌+◌, ℕ, List, [], ◌++◌, length, Option, Some, None, if◌then◌else◌, ◌==◌}
use Rattle.std.specs.List.{All}
use Rattle.wz_types.specs.declared.types.TableType.{TableType}
use Rattle.wz_types.specs.declared.types.MemType.{MemType}
use Rattle.wz_types.specs.FunctionType.{FunctionType}
use Rattle.wz_module.specs.Sections.{Section, ranks_of, Rises}
use Rattle.wz_module.specs.Imports.{Import}
use Rattle.wz_module.specs.Exports.{Export}
use Rattle.wz_module.specs.Functions.{BodyTree}
use Rattle.wz_module.specs.Globals.{GlobalDef}
use Rattle.wz_module.specs.Elements.{Elem}
use Rattle.wz_module.specs.Datas.{DataSegment}
use Rattle.wz_decode_sections.specs.CustomSection.{IsCustomSection}
use Rattle.wz_decode_sections.specs.TypeSection.{IsTypeSection}
use Rattle.wz_decode_sections.specs.ImportSection.{IsImportSection}
use Rattle.wz_decode_sections.specs.FunctionSection.{IsFunctionSection}
use Rattle.wz_decode_sections.specs.TableSection.{IsTableSection}
use Rattle.wz_decode_sections.specs.MemorySection.{IsMemorySection}
use Rattle.wz_decode_sections.specs.GlobalSection.{IsGlobalSection}
use Rattle.wz_decode_sections.specs.ExportSection.{IsExportSection}
use Rattle.wz_decode_sections.specs.StartSection.{IsStartSection}
use Rattle.wz_decode_sections.specs.ElementSection.{IsElementSection}
use Rattle.wz_decode_sections.specs.CodeSection.{IsCodeSection}
use Rattle.wz_decode_sections.specs.DataSection.{IsDataSection}
use Rattle.wz_decode_sections.specs.DataCountSection.{IsDataCountSection}
use Rattle.wz_decode.specs.Header.{header}
use Rattle.wz_decode.specs.SectionForm.{AreSections}

pub data SectionKind : Type 0 where
  Custom : SectionKind
  Types : SectionKind
  Imports : SectionKind
  Functions : SectionKind
  Tables : SectionKind
  Memories : SectionKind
  Globals : SectionKind
  Exports : SectionKind
  Start : SectionKind
  Elements : SectionKind
  Bodies : SectionKind
  Datas : SectionKind
  DataCount : SectionKind

abbrev pub kind_of_id : ℕ → Option SectionKind
kind_of_id id =
    if id == 0 then Some Custom
    else (if id == 1 then Some Types
    else (if id == 2 then Some Imports
    else (if id == 3 then Some Functions
    else (if id == 4 then Some Tables
    else (if id == 5 then Some Memories
    else (if id == 6 then Some Globals
    else (if id == 7 then Some Exports
    else (if id == 8 then Some Start
    else (if id == 9 then Some Elements
    else (if id == 10 then Some Bodies
    else (if id == 11 then Some Datas
    else (if id == 12 then Some DataCount
    else None))))))))))))

abbrev pub IsPayloadOf : Option SectionKind → List ℕ → Type 0
IsPayloadOf None payload = ⊥
IsPayloadOf (Some Custom) payload = IsCustomSection payload
IsPayloadOf (Some Types) payload = (types : List FunctionType) × IsTypeSection payload types
IsPayloadOf (Some Imports) payload = (imports : List Import) × IsImportSection payload imports
IsPayloadOf (Some Functions) payload = (functions : List ℕ) × IsFunctionSection payload functions
IsPayloadOf (Some Tables) payload = (tables : List TableType) × IsTableSection payload tables
IsPayloadOf (Some Memories) payload = (memories : List MemType) × IsMemorySection payload memories
IsPayloadOf (Some Globals) payload = (globals : List GlobalDef) × IsGlobalSection payload globals
IsPayloadOf (Some Exports) payload = (exports : List Export) × IsExportSection payload exports
IsPayloadOf (Some Start) payload = (function : ℕ) × IsStartSection payload function
IsPayloadOf (Some Elements) payload = (elements : List Elem) × IsElementSection payload elements
IsPayloadOf (Some Bodies) payload = (bodies : List BodyTree) × IsCodeSection payload bodies
IsPayloadOf (Some Datas) payload = (datas : List DataSegment) × IsDataSection payload datas
IsPayloadOf (Some DataCount) payload = (count : ℕ) × IsDataCountSection payload count

-- the contents of a section are in the grammar of its id
abbrev pub IsInGrammar : Section → Type 0
IsInGrammar s = IsPayloadOf (kind_of_id s.id) s.payload

-- a front of n sections: the header and n sections, each in the grammar and in order, and the rest behind them
pub record IsFrontOf (n : ℕ) (bytes rest : List ℕ) : Type 0 where
  pub text : List ℕ
  pub sections : List Section
  pub many : length sections ≡ n
  pub parts : bytes ≡ header ++ (text ++ rest)
  pub spelled : AreSections text sections
  pub order : Rises 0 (ranks_of sections)
  pub contents : All IsInGrammar sections

-- so many sections are a front, which isn't the whole, and no more sections are one
pub record IsBadSection (bytes : List ℕ) (at : ℕ) : Type 0 where
  pub rest : List ℕ
  pub front : IsFrontOf at bytes rest
  pub more : rest ≢ []
  pub none : (behind : List ℕ) → IsFrontOf (at + 1) bytes behind → ⊥
