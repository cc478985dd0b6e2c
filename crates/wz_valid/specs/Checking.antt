-- What a check of validity goes by: a context in place of those of section 3.4.10 of the Core Specification, and what its answers say.
use Rattle.std.specs.Prelude.{◌≡◌, ℕ, ◌<◌, List, length, take, slice_get, Bool, MatchBool, IsSomeAnd}
use Rattle.std.specs.List.{All}
use Rattle.wz_types.specs.declared.types.RefKind.{RefKind}
use Rattle.wz_types.specs.Fits.{type_of_kind}
use Rattle.wz_code.specs.Trees.{Code}
use Rattle.wz_module.specs.Module.{Module}
use Rattle.wz_valid_code.specs.Typing.{IsConstant}
use Rattle.wz_valid_code.specs.Context.{TypingContext}
use Rattle.wz_valid.specs.declared.faults.Part.{Part}
use Rattle.wz_valid.specs.DeclaredFunctions.{HaveSameNumbers}
use Rattle.wz_valid.specs.Contexts.{context_of}
use Rattle.wz_valid.specs.Validity.{IsItemOk, IsPartOk, part_rank, part_length, StandsBefore}

-- A context says the same as another: that is, the functions of which references may be made are the same, in whatever order.
pub record SaysSame (context other : TypingContext) : Type 0 where
  pub types : context.types ≡ other.types
  pub functions : context.functions ≡ other.functions
  pub tables : context.tables ≡ other.tables
  pub memories : context.memories ≡ other.memories
  pub globals : context.globals ≡ other.globals
  pub imported_globals : context.imported_globals ≡ other.imported_globals
  pub elements : context.elements ≡ other.elements
  pub datas : context.datas ≡ other.datas
  pub declared : HaveSameNumbers context.declared other.declared

-- the context says what the module's C does
abbrev pub IsContextOf : Module → TypingContext → Type 0
IsContextOf m context = SaysSame context (context_of m)

-- these expressions are constant and give references of this kind
abbrev pub AreConstant : Module → RefKind → List Code → Type 0
AreConstant m kind inits = All (λ init. IsConstant (context_of m) init (type_of_kind kind)) inits

-- the answer says whether the item is ok
abbrev pub TellsItem : Module → Part → ℕ → Bool → Type 0
TellsItem m part index answer = MatchBool answer (IsItemOk m part index) (IsItemOk m part index → ⊥)

-- no earlier export has this one's name
abbrev pub IsNameNew : Module → ℕ → Type 0
IsNameNew m index = IsSomeAnd (slice_get m.exports index) (λ e. All (λ earlier. earlier.name ≡ e.name → ⊥) (take index m.exports))

-- the names of so many exports are new, and that of the next one, if there is one, isn't
pub record AreNamesNew (m : Module) (count : ℕ) : Type 0 where
  pub new : (index : ℕ) → index < count → IsNameNew m index
  pub again : count < length m.exports → IsNameNew m count → ⊥

-- every item that stands before this one is ok
abbrev pub AreItemsBeforeOk : Module → Part → ℕ → Type 0
AreItemsBeforeOk m part index = (one : Part) (other : ℕ) → other < part_length m one → StandsBefore one other part index → IsItemOk m one other

-- every item of the parts before this place in their order is ok
abbrev pub ArePartsBeforeOk : Module → ℕ → Type 0
ArePartsBeforeOk m rank = (one : Part) → part_rank one < rank → IsPartOk m one
