-- What holds of the spellings of modules, whatever reads or writes them.
use Rattle.std.specs.Prelude.{◌≡◌, ℕ, List, [], length}
use Rattle.wz_bytes.specs.Reading.{OneFront}
use Rattle.wz_module.specs.Module.{Module}
use Rattle.wz_decode.specs.declared.fault.DecodeFault.{DecodeFault}
use Rattle.wz_decode.specs.SectionForm.{AreSections}
use Rattle.wz_decode.specs.Spelling.{Spells}
use Rattle.wz_decode.specs.Contents.{IsFrontOf}
use Rattle.wz_decode.specs.Front.{IsWhole}
use Rattle.wz_decode.specs.Causes.{IsCause}

-- bytes spell at most one module
abbrev pub OneModule : Type 0
OneModule = (bytes : List ℕ) (m n : Module) → Spells bytes m → Spells bytes n → m ≡ n

-- bytes have at most one front of so many sections
abbrev pub OneFrontOfSections : Type 0
OneFrontOfSections = (n : ℕ) → OneFront (λ text sections. AreSections text sections × (length sections ≡ n))

-- bytes have at most one cause why they spell no module, at one place
abbrev pub CauseIsOne : Type 0
CauseIsOne = (bytes : List ℕ) (one other : DecodeFault) → IsCause bytes one → IsCause bytes other → one ≡ other

-- and where they spell one, there is none
abbrev pub SpelledHasNone : Type 0
SpelledHasNone = (bytes : List ℕ) (m : Module) (fault : DecodeFault) → Spells bytes m → IsCause bytes fault → ⊥

-- all of the bytes are a front of sections where they are a module's sections
abbrev pub WholeIsFront : Type 0
WholeIsFront = (bytes : List ℕ) (m : Module) → IsWhole bytes m → IsFrontOf (length m.sections) bytes []

-- and only there
abbrev pub FrontIsWhole : Type 0
FrontIsWhole = (bytes : List ℕ) (n : ℕ) → IsFrontOf n bytes [] → (m : Module) × (length m.sections ≡ n) × IsWhole bytes m
