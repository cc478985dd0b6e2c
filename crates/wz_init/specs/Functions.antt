-- Sections 4.5.3.1 and 4.5.3.10 of the Core Specification: the functions of an instance. Those that are imported come first, in the
-- order of their imports, and the module's own behind them.
use Rattle.std.specs.Prelude.{ℕ, ◌+◌, List, [], ◌∷◌, ◌++◌, Option, Some, None, map, slice_get}
use Rattle.wz_module.specs.declared.items.ImportKind.{ImportKind}
use Rattle.wz_module.specs.declared.items.ImportKind.TheVariants as kind
use Rattle.wz_module.specs.Imports.{Import}
use Rattle.wz_module.specs.Functions.{BodyTree}
use Rattle.wz_module.specs.Module.{Module}
use Rattle.wz_valid_code.specs.Context.{locals_of_runs}
use Rattle.wz_store.specs.declared.function.Function.{Function}
use Rattle.wz_store.specs.declared.function.Function.TheVariants as stored
use Rattle.wz_machine.specs.State.{FunctionBody, OwnBody, ImportedBody, NoBody, FunctionInstance}

-- ---- as a store keeps them: the number of the type, and that of the body or of the import

abbrev pub import_function : ℕ → ImportKind → List Function
import_function number (kind.Func type) = stored.Import type number ∷ []
import_function number (kind.Table type) = []
import_function number (kind.Memory type) = []
import_function number (kind.Global type) = []

-- those of imports, the first of which has this number
abbrev pub import_functions : ℕ → List Import → List Function
import_functions number [] = []
import_functions number (i ∷ imports) = import_function number i.kind ++ import_functions (number + 1) imports

-- those of the module's own, by the numbers of their types; the first has the body of this number
abbrev pub own_functions : ℕ → List ℕ → List Function
own_functions number [] = []
own_functions number (type ∷ types) = stored.Own type number ∷ own_functions (number + 1) types

abbrev pub stored_functions : Module → List Function
stored_functions m = import_functions 0 m.imports ++ own_functions 0 m.functions

-- ---- with their instructions

abbrev pub body_of_tree : Option BodyTree → FunctionBody
body_of_tree None = NoBody
body_of_tree (Some body) = OwnBody (locals_of_runs body.0) body.1

abbrev pub function_in : List BodyTree → Function → FunctionInstance
function_in bodies (stored.Own signature body) = record { signature = signature; body = body_of_tree (slice_get bodies body) }
function_in bodies (stored.Import signature import) = record { signature = signature; body = ImportedBody import }

abbrev pub functions_in : Module → List FunctionInstance
functions_in m = map (λ function. function_in m.bodies function) (stored_functions m)
