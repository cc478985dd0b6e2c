-- Section 5.5.16 of the Core Specification: which bytes spell which module.
use Rattle.std.specs.Prelude.{◌≡◌, ℕ, List, ◌++◌}
use Rattle.wz_module.specs.Module.{Module}
use Rattle.wz_decode.specs.Header.{header}
use Rattle.wz_decode.specs.SectionForm.{AreSections}
use Rattle.wz_decode.specs.Parts.{HasParts}
use Rattle.wz_decode.specs.CountRules.{CountsAgree}

-- the header, and the sections up to the end, which hold the module's parts
pub record Spells (bytes : List ℕ) (m : Module) : Type 0 where
  pub text : List ℕ
  pub whole : bytes ≡ header ++ text
  pub sections : AreSections text m.sections
  pub parts : HasParts m
  pub counts : CountsAgree m
