-- The first sections of a module while it is read.
use Rattle.std.specs.Prelude.{◌≡◌, ◌⊎◌, ℕ, ◌<◌, List, [], ◌∷◌, ◌++◌, Option, IfSome, IsSome, IsTrue}
use Rattle.std.specs.List.{list_any}
use Rattle.wz_module.specs.Functions.{BodyTree}
use Rattle.wz_module.specs.Sections.{Section, section_rank, ranks_of}
use Rattle.wz_module.specs.Module.{Module}
use Rattle.wz_decode.specs.Header.{header}
use Rattle.wz_decode.specs.SectionForm.{AreSections}
use Rattle.wz_decode.specs.Parts.{HasParts}
use Rattle.wz_decode.specs.CountRules.{CountsAgree, code_names_data}
use Rattle.wz_decode.specs.Contents.{IsInGrammar}

-- the last of the numbers, or the one before them
abbrev pub last_of : ℕ → List ℕ → ℕ
last_of low [] = low
last_of low (n ∷ ns) = last_of n ns

-- the module has what its sections so far hold, the last of which has this rank
abbrev pub HasFront : Module → ℕ → Type 0
HasFront m last = (last ≡ last_of 0 (ranks_of m.sections)) × HasParts m

-- a section may follow one of this rank
abbrev pub MayFollow : ℕ → Section → Type 0
MayFollow last s = ((s.id ≡ 0) ⊎ (last < section_rank s.id)) × IsInGrammar s

-- the header and these sections stand in front, and the rest is behind them
abbrev pub AreBefore : List ℕ → List Section → List ℕ → Type 0
AreBefore bytes sections rest = (text : List ℕ) × (bytes ≡ header ++ (text ++ rest)) × AreSections text sections

-- all of the bytes are the header and sections that hold the module's parts
pub record IsWhole (bytes : List ℕ) (m : Module) : Type 0 where
  pub text : List ℕ
  pub whole : bytes ≡ header ++ text
  pub sections : AreSections text m.sections
  pub parts : HasParts m

-- and the counts of these parts don't agree
abbrev pub HasBadCounts : List ℕ → Type 0
HasBadCounts bytes = (m : Module) × IsWhole bytes m × (CountsAgree m → ⊥)

-- a data count is this number, and one is there if the bodies want it
abbrev pub HasCount : Option ℕ → ℕ → Type 0
HasCount data_count datas = IfSome data_count (λ n. n ≡ datas)

abbrev pub HasCountFor : Option ℕ → List BodyTree → Type 0
HasCountFor data_count bodies = IsTrue (list_any (λ body. code_names_data body.1) bodies) → IsSome data_count
