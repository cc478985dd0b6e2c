-- What holds of valid modules and of the profile (section 3.4 of the Core Specification), for the crates above.
use Rattle.std.specs.Prelude.{◌≡◌, ℕ, ◌<◌, [], length, slice_get, IsTrue, IsSomeAnd, Some}
use Rattle.std.specs.List.{All}
use Rattle.wz_code.specs.References.{has_number}
use Rattle.wz_module.specs.Module.{Module}
use Rattle.wz_valid_code.specs.Context.{HasTypes, function_type}
use Rattle.wz_valid.specs.declared.faults.Part.{Part}
use Rattle.wz_valid.specs.declared.faults.OutOfProfile.{OutOfProfile}
use Rattle.wz_valid.specs.Indices.{all_functions}
use Rattle.wz_valid.specs.Contexts.{context_of}
use Rattle.wz_valid.specs.DeclaredFunctions.{declared_in}
use Rattle.wz_valid.specs.Items.{IsGlobalOk, IsTarget, IsElemOk, IsDataModeOk, IsTreeTyped}
use Rattle.wz_valid.specs.Validity.{IsValid, IsFirstInvalid}
use Rattle.wz_valid.specs.Profile.{IsInProfile, IsOutside}

-- ---- the items of a valid module

-- the start is a function without parameters and results
abbrev pub StartTakesNothing : Type 0
StartTakesNothing = (m : Module) (function : ℕ) → IsValid m → m.start ≡ Some function → function_type (context_of m) function ≡ Some (record { params = []; results = [] })

abbrev pub ExportsAreThere : Type 0
ExportsAreThere = (m : Module) → IsValid m → All (λ e. IsTarget m e.target) m.exports

abbrev pub GlobalsAreOk : Type 0
GlobalsAreOk = (m : Module) → IsValid m → All (λ g. IsGlobalOk m g) m.globals

-- an element segment's references are constant expressions of its kind, and where it is active its table is there and has its kind
abbrev pub ElementsAreOk : Type 0
ElementsAreOk = (m : Module) → IsValid m → All (λ e. IsElemOk m e) m.elements

abbrev pub DatasAreOk : Type 0
DatasAreOk = (m : Module) → IsValid m → All (λ d. IsDataModeOk m d.mode) m.datas

-- every function's type is there
abbrev pub TypesAreThere : Type 0
TypesAreThere = (m : Module) → IsValid m → HasTypes (context_of m)

-- an own function has a body, which is typed by the function's type
abbrev pub BodiesAreTyped : Type 0
BodiesAreTyped = (m : Module) (number type : ℕ) → IsValid m → slice_get m.functions number ≡ Some type
    → IsSomeAnd (slice_get m.types type) (λ signature. IsSomeAnd (slice_get m.bodies number) (λ body. IsTreeTyped (context_of m) signature body))

-- each function that globals, element segments and exports name is there
abbrev pub DeclaredAreThere : Type 0
DeclaredAreThere = (m : Module) (function : ℕ) → IsValid m → IsTrue (has_number function (declared_in m)) → function < length (all_functions m)

-- ---- refusals

-- a module has one first item at most that isn't ok
abbrev pub FirstIsOne : Type 0
FirstIsOne = (m : Module) (one other : Part) (i j : ℕ) → IsFirstInvalid m one i → IsFirstInvalid m other j → (one ≡ other) × (i ≡ j)

-- and a valid one has none
abbrev pub ValidHasNone : Type 0
ValidHasNone = (m : Module) (part : Part) (i : ℕ) → IsValid m → IsFirstInvalid m part i → ⊥

-- a module within the profile isn't outside
abbrev pub InsideIsNotOutside : Type 0
InsideIsNotOutside = (m : Module) (cause : OutOfProfile) → IsInProfile m → IsOutside m cause → ⊥
