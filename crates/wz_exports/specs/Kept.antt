-- Which of a module's exports the output has, and under which names; or why it can have none. This is the tool's own rule: the exports
-- by which the functions that ran were named leave, a rename overwrites what had its new name, and all other exports stay.
use Rattle.std.specs.Prelude.{ℕ, List, [], ◌∷◌, Bool, not, ◌&&◌, ◌||◌, Option, Some, None, Result, Ok, Err, if◌then◌else◌, codes}
use Rattle.std.specs.List.{flat_map}
use Rattle.std.specs.Str.{bytes_eq}
use Rattle.wz_module.specs.declared.items.ExportTarget.{ExportTarget}
use Rattle.wz_module.specs.declared.items.ExportTarget.TheVariants as target
use Rattle.wz_module.specs.Exports.{Export}
use Rattle.wz_module.specs.Module.{Module}
use Rattle.wz_words.specs.declared.settings.Rename.{Rename}
use Rattle.wz_words.specs.Settings.{Settings}
use Rattle.wz_words.specs.Faults.{renames_to}
use Rattle.wz_exports.specs.declared.fault.ExportFault.{ExportFault}
use Rattle.wz_exports.specs.declared.fault.ExportFault.TheVariants.{NoInit, InitNotFunction, InitType, RenameMissing, RenameNotFunction, RenameInit}
use Rattle.wz_exports.specs.Names.{target_named, renamed_to}
use Rattle.wz_exports.specs.Functions.{takes_nothing}

-- ---- one export

-- the function that a reactor runs first
abbrev pub reactor_name : List ℕ
reactor_name = codes "_initialize"

-- the export of this name is that of the initialisation, or of a reactor, and such exports leave
abbrev pub leaves : Settings → List ℕ → Bool
leaves s name = not s.keep_init && (bytes_eq name s.function || (s.reactor && bytes_eq name reactor_name))

-- a renamed export has its new name; any other stays unless a rename takes its name
abbrev pub name_beside : List Rename → List ℕ → Option (List ℕ) → Option (List ℕ)
name_beside renames name (Some dst) = Some dst
name_beside renames name None = if renames_to name renames then None else Some name

-- the name that the export of a name has in the output, if it stays
abbrev pub kept_name : Settings → List ℕ → Option (List ℕ)
kept_name s name = if leaves s name then None else name_beside s.renames name (renamed_to name s.renames)

abbrev pub under_name : ExportTarget → Option (List ℕ) → List Export
under_name target None = []
under_name target (Some name) = record { name = name; target = target } ∷ []

-- the exports that stay, each in its place
abbrev pub kept_exports : Settings → List Export → List Export
kept_exports s exports = flat_map (λ e. under_name e.target (kept_name s e.name)) exports

-- ---- faults

-- the function that the export of a name gives out, where that may run by itself
abbrev pub function_at : Module → List ℕ → Option ExportTarget → Result ℕ ExportFault
function_at m name None = Err (NoInit name)
function_at m name (Some (target.Func index)) = if takes_nothing m index then Ok index else Err (InitType name)
function_at m name (Some (target.Table index)) = Err (InitNotFunction name)
function_at m name (Some (target.Memory index)) = Err (InitNotFunction name)
function_at m name (Some (target.Global index)) = Err (InitNotFunction name)

abbrev pub function_named : Module → List ℕ → Result ℕ ExportFault
function_named m name = function_at m name (target_named name m.exports)

abbrev pub some_function : Result ℕ ExportFault → Result (Option ℕ) ExportFault
some_function (Ok index) = Ok (Some index)
some_function (Err fault) = Err fault

-- the reactor's function, where it runs
abbrev pub reactor_in : Module → Settings → Result (Option ℕ) ExportFault
reactor_in m s = if s.reactor then some_function (function_named m reactor_name) else Ok None

-- why the export of a name can't be renamed
abbrev pub misnamed_at : Settings → List ℕ → Option ExportTarget → Option ExportFault
misnamed_at s src None = Some (RenameMissing src)
misnamed_at s src (Some (target.Func index)) = if leaves s src then Some (RenameInit src) else None
misnamed_at s src (Some (target.Table index)) = Some (RenameNotFunction src)
misnamed_at s src (Some (target.Memory index)) = Some (RenameNotFunction src)
misnamed_at s src (Some (target.Global index)) = Some (RenameNotFunction src)

abbrev pub or_next : Option ExportFault → Option ExportFault → Option ExportFault
or_next None next = next
or_next (Some fault) next = Some fault

-- the first fault of renames, in the order of the words
abbrev pub first_misnamed : Settings → List Export → List Rename → Option ExportFault
first_misnamed s exports [] = None
first_misnamed s exports (rename ∷ renames) = or_next (misnamed_at s rename.src (target_named rename.src exports)) (first_misnamed s exports renames)

-- ---- the whole

-- the exports of the output, and the functions that run
pub record KeptExports : Type 0 where
  pub entries : List Export
  pub function : ℕ
  pub reactor : Option ℕ

abbrev pub unless_misnamed : Option ExportFault → KeptExports → Result KeptExports ExportFault
unless_misnamed None exports = Ok exports
unless_misnamed (Some fault) exports = Err fault

abbrev pub kept_beside : Module → Settings → Result ℕ ExportFault → Result (Option ℕ) ExportFault → Result KeptExports ExportFault
kept_beside m s (Err fault) reactor = Err fault
kept_beside m s (Ok function) (Err fault) = Err fault
kept_beside m s (Ok function) (Ok reactor) =
    unless_misnamed (first_misnamed s m.exports s.renames) (record { entries = kept_exports s m.exports; function = function; reactor = reactor })

-- the kept exports, or the first fault: the initialisation's, the reactor's, and then those of the renames
unfoldable pub kept : Module → Settings → Result KeptExports ExportFault
kept m s = kept_beside m s (function_named m s.function) (reactor_in m s)
