-- The size of a table that is of a kind: what every write into a table looks at first.
use Rattle.std.specs.Prelude.{ℕ, Option, Some, None, if◌then◌else◌, length}
use Rattle.wz_types.specs.declared.types.RefKind.{RefKind}
use Rattle.wz_types.specs.SameType.{same_kind}
use Rattle.wz_store.specs.State.{Table}

abbrev pub size_if : Option Table → RefKind → Option ℕ
size_if None kind = None
size_if (Some table) kind = if same_kind kind table.kind then Some (length table.entries) else None
