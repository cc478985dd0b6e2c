-- Section 2.5.1 of the Core Specification: index spaces. Imports come first, in their order, and the module's own definitions behind them.
use Rattle.std.specs.Prelude.{ℕ, List, [], ◌∷◌, ◌++◌, map}
use Rattle.std.specs.List.{flat_map}
use Rattle.wz_types.specs.declared.types.TableType.{TableType}
use Rattle.wz_types.specs.declared.types.MemType.{MemType}
use Rattle.wz_types.specs.declared.types.GlobalType.{GlobalType}
use Rattle.wz_module.specs.declared.items.ImportKind.{ImportKind}
use Rattle.wz_module.specs.declared.items.ImportKind.TheVariants as kind
use Rattle.wz_module.specs.Imports.{Import}
use Rattle.wz_module.specs.Module.{Module}

-- ---- what each kind of import asks for

abbrev pub function_import : ImportKind → List ℕ
function_import (kind.Func type) = type ∷ []
function_import (kind.Table type) = []
function_import (kind.Memory type) = []
function_import (kind.Global type) = []

abbrev pub table_import : ImportKind → List TableType
table_import (kind.Func type) = []
table_import (kind.Table type) = type ∷ []
table_import (kind.Memory type) = []
table_import (kind.Global type) = []

abbrev pub memory_import : ImportKind → List MemType
memory_import (kind.Func type) = []
memory_import (kind.Table type) = []
memory_import (kind.Memory type) = type ∷ []
memory_import (kind.Global type) = []

abbrev pub global_import : ImportKind → List GlobalType
global_import (kind.Func type) = []
global_import (kind.Table type) = []
global_import (kind.Memory type) = []
global_import (kind.Global type) = type ∷ []

-- ---- of all imports

abbrev pub imported_functions : List Import → List ℕ
imported_functions imports = flat_map (λ i. function_import i.kind) imports

abbrev pub imported_tables : List Import → List TableType
imported_tables imports = flat_map (λ i. table_import i.kind) imports

abbrev pub imported_memories : List Import → List MemType
imported_memories imports = flat_map (λ i. memory_import i.kind) imports

abbrev pub imported_globals : List Import → List GlobalType
imported_globals imports = flat_map (λ i. global_import i.kind) imports

-- ---- the index spaces

-- the numbers of the functions' types
abbrev pub all_functions : Module → List ℕ
all_functions m = imported_functions m.imports ++ m.functions

abbrev pub all_tables : Module → List TableType
all_tables m = imported_tables m.imports ++ m.tables

abbrev pub all_memories : Module → List MemType
all_memories m = imported_memories m.imports ++ m.memories

abbrev pub all_globals : Module → List GlobalType
all_globals m = imported_globals m.imports ++ map (λ g. g.kind) m.globals
