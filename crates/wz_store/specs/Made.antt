-- What a store begins as, and what is added to it when an instance is made.
-- WebAssembly Core Specification 2.0, section 4.5.3 (allocation): a new table holds null, a new memory zeros.
use Rattle.std.specs.Prelude.{ℕ, ◌*◌, List, [], ◌∷◌, ◌++◌, replicate}
use Rattle.wz_types.specs.declared.types.RefKind.{RefKind}
use Rattle.wz_types.specs.declared.types.GlobalType.{GlobalType}
use Rattle.wz_types.specs.declared.types.MemType.{MemType}
use Rattle.wz_types.specs.declared.types.TableType.{TableType}
use Rattle.wz_types.specs.declared.value.Reference.{Reference}
use Rattle.wz_types.specs.declared.value.Reference.TheVariants.{Null}
use Rattle.wz_types.specs.declared.value.Value.{Value}
use Rattle.wz_types.specs.FunctionType.{FunctionType}
use Rattle.wz_store.specs.declared.function.Function.{Function}
use Rattle.wz_store.specs.State.{Global, Table, Memory, Element, StateOf, page_size}

-- a function as a store keeps it: its type's number, and the number of its body or of its import
abbrev pub StoredFunction : Type 0
StoredFunction = Function

-- what contracts see of a store
abbrev pub StoreState : Type 0
StoreState = StateOf StoredFunction

-- ---- what is new

abbrev pub new_global : GlobalType → Value → Global
new_global type value = record { type = type; content = value }

abbrev pub new_table : TableType → Table
new_table type = record { kind = type.kind; entries = replicate type.limits.min (Null type.kind); maximum = type.limits.max }

abbrev pub new_memory : MemType → Memory
new_memory type = record { bytes = replicate (type.limits.min * page_size) 0; maximum = type.limits.max }

abbrev pub new_element : RefKind → List Reference → Element
new_element kind items = record { kind = kind; items = items }

abbrev pub empty_store : List FunctionType → StoreState
empty_store types = record { types = types; functions = []; globals = []; tables = []; memories = []; elements = []; datas = [] }

-- ---- one more at the end of its list

abbrev pub with_function : StoreState → StoredFunction → StoreState
with_function s function = record s { functions = s.functions ++ function ∷ [] }

abbrev pub with_global : StoreState → Global → StoreState
with_global s global = record s { globals = s.globals ++ global ∷ [] }

abbrev pub with_table : StoreState → Table → StoreState
with_table s table = record s { tables = s.tables ++ table ∷ [] }

abbrev pub with_memory : StoreState → Memory → StoreState
with_memory s memory = record s { memories = s.memories ++ memory ∷ [] }

abbrev pub with_element : StoreState → Element → StoreState
with_element s element = record s { elements = s.elements ++ element ∷ [] }

abbrev pub with_data : StoreState → List ℕ → StoreState
with_data s bytes = record s { datas = s.datas ++ bytes ∷ [] }
