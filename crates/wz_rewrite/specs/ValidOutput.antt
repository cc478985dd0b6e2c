-- When the output is a valid module (section 3.4.10 of the WebAssembly Core Specification 2.0) within the tool's profile: said of modules
-- and of what was recorded of a state, without bytes.
use Rattle.std.specs.Prelude.{◌≡◌, ◌≢◌, ℕ, ◌≤◌, List, length, map, slice_get, Ok, Some, None, IfSome, AllPairs}
use Rattle.std.specs.List.{All, AllZip, sum, sum_by}
use Rattle.wz_types.specs.declared.types.MemType.{MemType}
use Rattle.wz_types.specs.declared.value.Reference.TheVariants.{Foreign}
use Rattle.wz_types.specs.declared.value.Value.{Value}
use Rattle.wz_types.specs.declared.value.Value.TheVariants.{Ref}
use Rattle.wz_types.specs.Fits.{Fits}
use Rattle.wz_module.specs.Globals.{GlobalDef}
use Rattle.wz_module.specs.Module.{Module}
use Rattle.wz_valid.specs.Indices.{all_functions}
use Rattle.wz_valid.specs.Validity.{IsValid}
use Rattle.wz_valid.specs.Profile.{pages_limit, IsInProfile}
use Rattle.wz_store.specs.State.{Global, Memory, pages_of}
use Rattle.wz_words.specs.Settings.{Settings}
use Rattle.wz_snapshot.specs.Recorded.{RecordedState}
use Rattle.wz_exports.specs.Kept.{KeptExports, kept}
use Rattle.wz_rewrite.specs.OutputState.{OutputState, HasRanges, output_state}
use Rattle.wz_rewrite.specs.Sections.{output_sections}
use Rattle.wz_rewrite.specs.Output.{output_module}

-- ---- what a run keeps of the types of a module's globals and memories

-- a constant instruction gives the value: it isn't something of the host
abbrev pub IsNotForeign : Value → Type 0
IsNotForeign (Ref (Foreign id sort)) = ⊥
IsNotForeign value = Unit {0}

-- the value fits the type of the module's global
abbrev pub FitsGlobal : Module → GlobalDef → Value → Type 0
FitsGlobal m global value = Fits value global.kind.value (length (all_functions m)) (length m.types)

-- the pages are within the memory's maximum
abbrev pub AllowsPages : MemType → ℕ → Type 0
AllowsPages memory pages = IfSome memory.limits.max (λ max. pages ≤ max)

-- One value for each global and one size for each memory, which their types allow, and memories within the profile.
pub record HasTypesOf (m : Module) (r : RecordedState) (memories : List Memory) : Type 0 where
  pub globals : AllZip (λ global value. FitsGlobal m global value) m.globals r.globals
  pub own : All IsNotForeign r.globals
  pub sizes : AllZip (λ memory pages. AllowsPages memory pages) m.memories r.pages
  pub pages : r.pages ≡ map pages_of memories
  pub together : sum r.pages ≤ pages_limit

-- What a state has of these types: its globals' and memories' own, values that fit them, and sizes within the maxima.
pub record AreOfTypes (m : Module) (globals : List Global) (memories : List Memory) : Type 0 where
  pub kinds : map (λ global. global.type) globals ≡ map (λ global. global.kind) m.globals
  pub fitting : (index : ℕ) (global : Global) → slice_get globals index ≡ Some global
      → Fits global.content global.type.value (length (all_functions m)) (length m.types)
  pub own : (index : ℕ) (global : Global) → slice_get globals index ≡ Some global → IsNotForeign global.content
  pub maxima : map (λ memory. memory.maximum) memories ≡ map (λ memory. memory.limits.max) m.memories
  pub sizes : (index : ℕ) (memory : Memory) → slice_get memories index ≡ Some memory → IfSome memory.maximum (λ max. pages_of memory ≤ max)
  pub together : sum_by pages_of memories ≤ pages_limit

-- ---- the laws

-- what is recorded of such globals and memories has the module's types
abbrev pub StateHasTypes : Type 0
StateHasTypes = (m : Module) (r : RecordedState) (globals : List Global) (memories : List Memory)
    → r.globals ≡ map (λ global. global.content) globals → r.pages ≡ map pages_of memories → AreOfTypes m globals memories → HasTypesOf m r memories

-- the renames differ in the names that they give
abbrev pub GivesNamesOnce : Settings → Type 0
GivesNamesOnce s = AllPairs (λ x y. x.dst ≢ y.dst) s.renames

-- A valid module within the profile. It has these exports, and nothing runs when it starts.
pub record IsValidWith (m : Module) (k : KeptExports) : Type 0 where
  pub valid : IsValid m
  pub profile : IsInProfile m
  pub start : m.start ≡ None
  pub exports : m.exports ≡ k.entries

abbrev pub OutputIsValid : Type 0
OutputIsValid = (m : Module) (s : Settings) (k : KeptExports) (r : RecordedState) (memories : List Memory)
    → IsValid m → IsInProfile m → GivesNamesOnce s → kept m s ≡ Ok k → HasTypesOf m r memories → HasRanges memories r.segments
    → IsValidWith (output_module m (output_state m r memories k)) k

-- the output has no start section, whose id is 8
abbrev pub HasNoStartSection : Type 0
HasNoStartSection = (m : Module) (o : OutputState) → All (λ s. s.id ≢ 8) (output_sections m o)
