-- Section 2.5.1 of the WebAssembly Core Specification 2.0: the index space of functions. Imports come first, in their order, and the
-- module's own functions behind them.
use Rattle.std.specs.Prelude.{ℕ, List, [], ◌∷◌, ◌++◌, ◌==◌, ◌&&◌, length, slice_get, Bool, false, Option, Some, None}
use Rattle.std.specs.List.{flat_map}
use Rattle.std.specs.Option.{option_and_then}
use Rattle.wz_types.specs.FunctionType.{FunctionType}
use Rattle.wz_module.specs.declared.items.ImportKind.{ImportKind}
use Rattle.wz_module.specs.declared.items.ImportKind.TheVariants as kind
use Rattle.wz_module.specs.Module.{Module}

-- the type's number of an import that is a function
abbrev pub import_signature : ImportKind → List ℕ
import_signature (kind.Func type) = type ∷ []
import_signature (kind.Table type) = []
import_signature (kind.Memory type) = []
import_signature (kind.Global type) = []

-- the type's number of each function
abbrev pub signatures_of : Module → List ℕ
signatures_of m = flat_map (λ i. import_signature i.kind) m.imports ++ m.functions

-- the type of the function of an index
abbrev pub signature_at : Module → ℕ → Option FunctionType
signature_at m index = option_and_then (λ number. slice_get m.types number) (slice_get (signatures_of m) index)

-- it is there, without parameters and without results
abbrev pub is_empty_type : Option FunctionType → Bool
is_empty_type None = false
is_empty_type (Some type) = (length type.params == 0) && (length type.results == 0)

abbrev pub takes_nothing : Module → ℕ → Bool
takes_nothing m index = is_empty_type (signature_at m index)
