-- The code's own values as what the definitions speak of.
use Rattle.std.specs.Prelude.{◌≡◌, ◌⊎◌, ℕ, ◌+◌, ◌≤◌, List, [], ◌++◌, length, Bool, true, not, if◌then◌else◌, Some, None, Result, Ok, Err}
use Rattle.std.specs.Borrow.{Bor}
use Rattle.std.specs.BTreeMap.{is_at}
use Rattle.std.specs.BTreeSet.{BTreeSet, contains}
use Rattle.std.specs.Cmp.Lexicographic.{slice_cmp}
use Rattle.std.specs.List.{list_any}
use Rattle.std.specs.Ordering.{nat_cmp}
use Rattle.std.specs.declared.cmp.Ordering.{Ordering}
use Rattle.wz_words.specs.declared.renames.RenamesSoFar.{RenamesSoFar}
use Rattle.wz_words.specs.declared.settings.Rename.{Rename}
use Rattle.wz_words.specs.declared.settings.Usage.{Usage}
use Rattle.wz_words.specs.declared.settings.Usage.TheVariants.{NoMemory}
use Rattle.wz_words.specs.declared.options.FlagName.{FlagName}
use Rattle.wz_words.specs.declared.options.FlagName.TheVariants as flag_name
use Rattle.wz_words.specs.declared.options.ValuedName.{ValuedName}
use Rattle.wz_words.specs.declared.options.ValuedName.TheVariants as valued_name
use Rattle.wz_words.specs.declared.options.WordForm.{WordForm}
use Rattle.wz_words.specs.declared.options.WordForm.TheVariants as form
use Rattle.wz_words.specs.Options.{Flag, KeepInit, Reactor, Report, Valued, Output, Function, RenameFunction, Fuel, SampleNumber, same_text}
use Rattle.wz_words.specs.Settings.{with_halves}
use Rattle.wz_words.specs.Faults.{renames_limit}
use Rattle.wz_words.specs.Draft.{rename_fault_in}
use Rattle.wz_words.specs.Parts.{Halves, halves_of, WordKind, IsOperand, EndsOptions, IsFlag, TakesNext, HasValue, IsUnknown}

abbrev pub flag_view : FlagName → Flag
flag_view flag_name.KeepInit = KeepInit
flag_view flag_name.Reactor = Reactor
flag_view flag_name.Report = Report

abbrev pub valued_view : ValuedName → Valued
valued_view valued_name.Output = Output
valued_view valued_name.Function = Function
valued_view valued_name.RenameFunction = RenameFunction
valued_view valued_name.Fuel = Fuel
valued_view valued_name.SampleNumber = SampleNumber

abbrev pub halves_view : Bor (List ℕ) × Bor (List ℕ) → Halves
halves_view halves = record { front = halves.0.now; back = halves.1.now }

abbrev pub kind_view : WordForm → WordKind
kind_view form.Operand = IsOperand
kind_view form.EndsOptions = EndsOptions
kind_view (form.Flag flag) = IsFlag (flag_view flag)
kind_view (form.TakesNext option) = TakesNext (valued_view option)
kind_view (form.HasValue option value) = HasValue (valued_view option) value.now
kind_view form.Unknown = IsUnknown

-- ---- the names that were renamed to, or from

abbrev pub text_cmp : Bor (List ℕ) → Bor (List ℕ) → Ordering
text_cmp x y = slice_cmp nat_cmp x.now y.now

-- the set has just these names of the renames
abbrev pub HasNames : BTreeSet (Bor (List ℕ)) → (Rename → List ℕ) → List Rename → Type 0
HasNames names name_of renames = (q : Bor (List ℕ)) → contains text_cmp names q ≡ list_any (λ rename. same_text (name_of rename) q.now) renames

pub record AreSound (renames : RenamesSoFar) : Type 0 where
  pub to : HasNames renames.names_to (λ rename. rename.dst) renames.list.items
  pub from : HasNames renames.names_from (λ rename. rename.src) renames.list.items
  pub within : renames.bytes ≤ renames_limit

-- the value of a rename was added, or it is at fault, unless the memory didn't suffice
abbrev pub AddsRename : {X : Type 0} → RenamesSoFar → ℕ → List ℕ → Result X Usage → RenamesSoFar → Type 0
AddsRename renames at value (Ok done) now =
    (rename_fault_in renames.list.items renames.bytes at value (halves_of value) ≡ None)
    × (now.list.items ≡ renames.list.items ++ with_halves (halves_of value) [])
    × (now.bytes ≡ renames.bytes + length value)
AddsRename renames at value (Err usage) now =
    (usage ≡ NoMemory) ⊎ (rename_fault_in renames.list.items renames.bytes at value (halves_of value) ≡ Some usage)

-- a name is in the set now, and the answer says whether it wasn't before
abbrev pub AddsName : BTreeSet (Bor (List ℕ)) → Bor (List ℕ) → Bool → BTreeSet (Bor (List ℕ)) → Type 0
AddsName names name added now =
    (added ≡ not (contains text_cmp names name))
    × ((q : Bor (List ℕ)) → contains text_cmp now q ≡ (if is_at (text_cmp name) q then true else contains text_cmp names q))
