-- What the run of a module's functions keeps of its fresh instance. This is the tool's own: a run changes no table, and its memories are
-- limited together.
use Rattle.std.specs.Prelude.{◌≡◌, ℕ, ◌≤◌, ◌⊎◌, List, [], ◌∷◌, Some, length, map, slice_get, IfSome}
use Rattle.wz_types.specs.declared.value.Reference.{Reference}
use Rattle.wz_types.specs.declared.value.Reference.TheVariants.{Null, Fn, Foreign}
use Rattle.wz_types.specs.declared.value.Value.{Value}
use Rattle.wz_types.specs.declared.value.Value.TheVariants.{I32, I64, F32, F64, Ref}
use Rattle.wz_types.specs.Fits.{Fits}
use Rattle.wz_valid.specs.Profile.{pages_limit}
use Rattle.wz_store.specs.State.{Global, Table, Memory, Element, pages_of, pages_together}
use Rattle.wz_machine.specs.State.{State, LastingParts, lasting_parts}
use Rattle.wz_machine.specs.Terms.{Inside, Innermost, InLabel, InFrame, Term, Frame, BareValues}
use Rattle.wz_module.specs.Module.{Module}
use Rattle.wz_init.specs.Functions.{functions_in}
use Rattle.wz_init.specs.Allocation.{allocated}
use Rattle.wz_init.specs.Instances.{Instance}
use Rattle.wz_init.specs.Instantiation.{fresh}

-- ---- references of the instance's own: null, and its functions

abbrev pub IsOwnReference : Reference → Type 0
IsOwnReference (Null kind) = Unit {0}
IsOwnReference (Fn index) = Unit {0}
IsOwnReference (Foreign id sort) = ⊥

-- a number, or such a reference
abbrev pub IsOwn : Value → Type 0
IsOwn (I32 bits) = Unit {0}
IsOwn (I64 bits) = Unit {0}
IsOwn (F32 bits) = Unit {0}
IsOwn (F64 bits) = Unit {0}
IsOwn (Ref reference) = IsOwnReference reference

abbrev pub AreOwn : List Value → Type 0
AreOwn [] = Unit {0}
AreOwn (value ∷ values) = IsOwn value × AreOwn values

abbrev pub AreOwnReferences : List Reference → Type 0
AreOwnReferences [] = Unit {0}
AreOwnReferences (reference ∷ references) = IsOwnReference reference × AreOwnReferences references

-- no global and no table holds a reference to something of the host
pub record HoldsOwn (s : State) : Type 0 where
  pub globals : (index : ℕ) (global : Global) → slice_get s.globals index ≡ Some global → IsOwn global.content
  pub tables : (index : ℕ) (table : Table) → slice_get s.tables index ≡ Some table → AreOwnReferences table.entries

-- ---- terms, whose values are such

abbrev pub InsideOwn : Inside → Type 0
InsideOwn (Innermost values code) = AreOwn values
InsideOwn (InLabel below count again inside rest) = AreOwn below × InsideOwn inside
InsideOwn (InFrame below count own inside rest) = AreOwn below × AreOwn own × InsideOwn inside

abbrev pub TermOwn : Term → Type 0
TermOwn (Frame count locals inside) = AreOwn locals × InsideOwn inside
TermOwn (BareValues values) = AreOwn values

-- each global's value fits its type
abbrev pub GlobalsFit : State → Type 0
GlobalsFit s = (index : ℕ) (global : Global) → slice_get s.globals index ≡ Some global
    → Fits global.content global.type.value (length s.functions) (length s.types)

-- a memory has no more pages than its maximum
abbrev pub IsWithinMaximum : Memory → Type 0
IsWithinMaximum memory = IfSome memory.maximum (λ max. pages_of memory ≤ max)

abbrev pub AreWithinMaxima : List Memory → Type 0
AreWithinMaxima memories = (index : ℕ) (memory : Memory) → slice_get memories index ≡ Some memory → IsWithinMaximum memory

-- ---- what a run keeps

-- each segment is as it was written, or empty
pub record HasSegmentsOf (written now : State) : Type 0 where
  pub elements : (index : ℕ) (element : Element) → slice_get now.elements index ≡ Some element → (slice_get written.elements index ≡ Some element) ⊎ (element.items ≡ [])
  pub datas : (index : ℕ) (bytes : List ℕ) → slice_get now.datas index ≡ Some bytes → (slice_get written.datas index ≡ Some bytes) ⊎ (bytes ≡ [])

-- A state that comes of a fresh one, whose segments were written so before the active ones were copied.
pub record IsLeftOf (written first now : State) : Type 0 where
  -- types, functions, kinds, maxima, and how many of each there are
  pub lasting : lasting_parts now ≡ lasting_parts first
  pub tables : now.tables ≡ first.tables
  pub segments : HasSegmentsOf written now
  pub pages : pages_together now.memories ≤ pages_limit
  pub sizes : AreWithinMaxima now.memories
  pub fitting : GlobalsFit now
  pub own : HoldsOwn now

-- what it takes for a state to be left of itself
pub record IsSound (s : State) : Type 0 where
  pub pages : pages_together s.memories ≤ pages_limit
  pub sizes : AreWithinMaxima s.memories
  pub fitting : GlobalsFit s
  pub own : HoldsOwn s

-- ---- of a module

-- what lasts of the module's instance
abbrev pub lasting_of : Module → LastingParts
lasting_of m = record {
  types = m.types;
  functions = functions_in m;
  globals = map (λ global. global.kind) m.globals;
  table_kinds = map (λ table. table.kind) m.tables;
  table_maxima = map (λ table. table.limits.max) m.tables;
  memory_maxima = map (λ memory. memory.limits.max) m.memories;
  element_kinds = map (λ e. e.kind) m.elements;
  datas = length m.datas;
}

-- the fresh instance of which it is left
pub record IsReachedOf (m : Module) (now : State) : Type 0 where
  pub written : State
  pub first : State
  pub allocation : allocated m (functions_in m) ≡ Some written
  pub made : fresh m ≡ Instance first
  pub module_parts : lasting_parts now ≡ lasting_of m
  pub left : IsLeftOf written first now
