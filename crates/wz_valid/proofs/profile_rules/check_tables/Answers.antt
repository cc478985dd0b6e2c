use Rattle.std.proofs.Common.{List, subst, ◌+◌, ◌<◌, ◌≤◌, ◌≡◌, take, length, arith, None}
use Rattle.std.proofs.lemmas.List.Sums.{sum_by_more}
use Rattle.wz_types.specs.declared.types.TableType.{TableType}
use Rattle.wz_types.specs.declared.types.RefKind.TheVariants.{Func}
use Rattle.wz_module.specs.Meaning.{module_of}
use Rattle.wz_valid.specs.Profile.{first_entries, entries_limit}
use Rattle.wz_valid.proofs.ProfileLemmas.{large_table, small_tables}
use Rattle.wz_valid.proofs.profile_rules.check_tables.Goals as goal

abbrev none : TableType
none = record { kind = Func; limits = record { min = 0; max = None } }

pub returns-then-entries-gt-ENTRIES_LIMIT-clause-outside :
    goal.returns-then-entries-gt-ENTRIES_LIMIT-clause-outside
returns-then-entries-gt-ENTRIES_LIMIT-clause-outside c =
    let m = module_of c.args.«module».now in
    let i = c.loop-index.index in
    let e = c.tables-tables.ensures in
    let more = sum_by_more (λ (table : TableType). table.limits.min) c.tables-tables.result.now i none c.loop-index-test.true in
    large_table m i (c.loop-index.entries + c.from-entries.result) c.requires.imports c.requires.memories
    (subst (λ (tables : List TableType). i < length tables) e c.loop-index-test.true)
    (subst (λ (tables : List TableType). first_entries (take (i + 1) tables) ≡ c.loop-index.entries + c.from-entries.result) e
    (omega (arith, more, c.loop-index.invariant.0, c.from-entries.ensures)))
    (omega arith)
    (subst (λ (tables : List TableType). first_entries (take i tables) ≤ entries_limit) e (omega (arith, c.loop-index.invariant.0, c.loop-index.invariant.1)))

pub returns-clause-small : goal.returns-clause-small
returns-clause-small c =
    let i = c.loop-index.index in
    let e = c.tables-tables.ensures in
    small_tables (module_of c.args.«module».now) i c.requires.imports
    (subst (λ (tables : List TableType). length tables ≤ i) e (omega arith))
    (subst (λ (tables : List TableType). first_entries (take i tables) ≤ entries_limit) e (omega (arith, c.loop-index.invariant.0, c.loop-index.invariant.1)))
