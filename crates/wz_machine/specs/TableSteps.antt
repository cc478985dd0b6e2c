-- Section 4.4.6 of the Core Specification: table instructions. They read and write the tables that they name, and table.init and
-- elem.drop their element segment. That the kind of what comes into a table is the table's goes before bounds and limits.
use Rattle.std.specs.Prelude.{ℕ, List, ◌∷◌, Option, Some, None, Result, Ok, Err, if◌then◌else◌, length}
use Rattle.wz_types.specs.declared.value.Reference.{Reference}
use Rattle.wz_types.specs.declared.value.Value.{Value}
use Rattle.wz_types.specs.declared.value.Value.TheVariants.{I32, Ref}
use Rattle.wz_types.specs.Fits.{kind_of}
use Rattle.wz_types.specs.SameType.{same_kind}
use Rattle.wz_store.specs.State.{Table, Element}
use Rattle.wz_store.specs.Changes.{Nothing}
use Rattle.wz_store.specs.Growth.{may_extend}
use Rattle.wz_bulk.specs.declared.bulk.Bulk.{Bulk}
use Rattle.wz_bulk.specs.declared.bulk.Bulk.TheVariants as bulk
use Rattle.wz_bulk.specs.TableEffects.{table_get_answer, table_set_effect, table_size_answer, table_fill_effect, table_copy_effect, table_init_effect, elem_drop_effect}
use Rattle.wz_machine.specs.Terms.{AskTable}
use Rattle.wz_machine.specs.Outcomes.{Effect, Yields, Poses, Fails, HasNoRule}
use Rattle.wz_machine.specs.BulkSteps.{bulk_step, minus_one}

-- table.get x, where the entry is there, and where it isn't
abbrev pub entry_effect : Result Reference Bulk → List Value → Effect
entry_effect (Ok reference) values = Yields Nothing (Ref reference ∷ values)
entry_effect (Err (bulk.Trap kind)) values = Fails kind
entry_effect (Err bulk.Stuck) values = HasNoRule
entry_effect (Err bulk.Did) values = HasNoRule

abbrev pub table_get_step : Option Table → List Value → Effect
table_get_step table (I32 at ∷ values) = entry_effect (table_get_answer table at) values
table_get_step table values = HasNoRule

-- table.set x
abbrev pub table_set_step : ℕ → Option Table → List Value → Effect
table_set_step index table (Ref reference ∷ I32 at ∷ values) = bulk_step values (table_set_effect index table at reference)
table_set_step index table values = HasNoRule

-- table.size x
abbrev pub size_effect : Option ℕ → List Value → Effect
size_effect (Some size) values = Yields Nothing (I32 size ∷ values)
size_effect None values = HasNoRule

abbrev pub table_size_step : Option Table → List Value → Effect
table_size_step table values = size_effect (table_size_answer table) values

-- table.grow x, of a table of this size and maximum: within the limits the surroundings choose, past them it fails
abbrev pub table_growth : ℕ → ℕ → Option ℕ → Reference → ℕ → List Value → Effect
table_growth index size maximum reference by values =
    if may_extend size maximum by then Poses (AskTable index by reference) values else Yields Nothing (minus_one ∷ values)

abbrev pub table_grow_step : ℕ → Option Table → List Value → Effect
table_grow_step index (Some table) (I32 by ∷ Ref reference ∷ values) =
    if same_kind (kind_of reference) table.kind then table_growth index (length table.entries) table.maximum reference by values else HasNoRule
table_grow_step index table values = HasNoRule

-- table.fill x
abbrev pub table_fill_step : ℕ → Option Table → List Value → Effect
table_fill_step index table (I32 count ∷ Ref reference ∷ I32 to ∷ values) = bulk_step values (table_fill_effect index table to reference count)
table_fill_step index table values = HasNoRule

-- table.copy x y
abbrev pub table_copy_step : ℕ → Option Table → Option Table → List Value → Effect
table_copy_step index table source (I32 count ∷ I32 from ∷ I32 to ∷ values) = bulk_step values (table_copy_effect index table source to from count)
table_copy_step index table source values = HasNoRule

-- table.init x y
abbrev pub table_init_step : ℕ → Option Table → Option Element → List Value → Effect
table_init_step index table element (I32 count ∷ I32 from ∷ I32 to ∷ values) = bulk_step values (table_init_effect index table element to from count)
table_init_step index table element values = HasNoRule

-- elem.drop x
abbrev pub elem_drop_step : ℕ → Option Element → List Value → Effect
elem_drop_step index element values = bulk_step values (elem_drop_effect index element)
