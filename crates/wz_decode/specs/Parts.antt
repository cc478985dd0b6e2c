-- Section 5.5.16 of the Core Specification: the sections of a module are in order, and hold what the module has.
use Rattle.std.specs.Prelude.{◌≡◌, ℕ, List, [], Option, Some, None}
use Rattle.std.specs.List.{All}
use Rattle.wz_bytes.specs.Reading.{Form}
use Rattle.wz_module.specs.Sections.{Section, ranks_of, Rises, payload_of}
use Rattle.wz_module.specs.Module.{Module}
use Rattle.wz_decode_sections.specs.CustomSection.{IsCustomSection}
use Rattle.wz_decode_sections.specs.TypeSection.{IsTypeSection}
use Rattle.wz_decode_sections.specs.ImportSection.{IsImportSection}
use Rattle.wz_decode_sections.specs.FunctionSection.{IsFunctionSection}
use Rattle.wz_decode_sections.specs.TableSection.{IsTableSection}
use Rattle.wz_decode_sections.specs.MemorySection.{IsMemorySection}
use Rattle.wz_decode_sections.specs.GlobalSection.{IsGlobalSection}
use Rattle.wz_decode_sections.specs.ExportSection.{IsExportSection}
use Rattle.wz_decode_sections.specs.StartSection.{IsStartSection}
use Rattle.wz_decode_sections.specs.ElementSection.{IsElementSection}
use Rattle.wz_decode_sections.specs.CodeSection.{IsCodeSection}
use Rattle.wz_decode_sections.specs.DataSection.{IsDataSection}
use Rattle.wz_decode_sections.specs.DataCountSection.{IsDataCountSection}

-- what the section with this payload holds; where there is none, nothing
abbrev pub HoldsList : {X : Type 0} → Form (List X) → Option (List ℕ) → List X → Type 0
HoldsList Spells None xs = xs ≡ []
HoldsList Spells (Some payload) xs = Spells payload xs

abbrev pub HoldsNumber : Form ℕ → Option (List ℕ) → Option ℕ → Type 0
HoldsNumber Spells None n = n ≡ None
HoldsNumber Spells (Some payload) None = ⊥
HoldsNumber Spells (Some payload) (Some n) = Spells payload n

-- a custom section begins with a name
abbrev pub IsNamedIfCustom : Section → Type 0
IsNamedIfCustom s = s.id ≡ 0 → IsCustomSection s.payload

-- The sections that aren't custom come in their order, each at most once, and custom ones anywhere. Each part is what the
-- section with its id holds.
pub record HasParts (m : Module) : Type 0 where
  pub order : Rises 0 (ranks_of m.sections)
  pub customs : All IsNamedIfCustom m.sections
  pub types : HoldsList (λ t x. IsTypeSection t x) (payload_of 1 m.sections) m.types
  pub imports : HoldsList (λ t x. IsImportSection t x) (payload_of 2 m.sections) m.imports
  pub functions : HoldsList (λ t x. IsFunctionSection t x) (payload_of 3 m.sections) m.functions
  pub tables : HoldsList (λ t x. IsTableSection t x) (payload_of 4 m.sections) m.tables
  pub memories : HoldsList (λ t x. IsMemorySection t x) (payload_of 5 m.sections) m.memories
  pub globals : HoldsList (λ t x. IsGlobalSection t x) (payload_of 6 m.sections) m.globals
  pub exports : HoldsList (λ t x. IsExportSection t x) (payload_of 7 m.sections) m.exports
  pub start : HoldsNumber (λ t n. IsStartSection t n) (payload_of 8 m.sections) m.start
  pub elements : HoldsList (λ t x. IsElementSection t x) (payload_of 9 m.sections) m.elements
  pub data_count : HoldsNumber (λ t n. IsDataCountSection t n) (payload_of 12 m.sections) m.data_count
  pub bodies : HoldsList (λ t x. IsCodeSection t x) (payload_of 10 m.sections) m.bodies
  pub datas : HoldsList (λ t x. IsDataSection t x) (payload_of 11 m.sections) m.datas
