-- Sections 3.2.1, 3.2.4 and 3.2.5 of the Core Specification: limits, and those of tables and memories.
use Rattle.std.specs.Prelude.{ℕ, ◌-◌, ◌^◌, ◌≤◌, Option, Some, None}
use Rattle.wz_types.specs.declared.types.Limits.{Limits}
use Rattle.wz_types.specs.declared.types.TableType.{TableType}
use Rattle.wz_types.specs.declared.types.MemType.{MemType}

abbrev pub IsMaximumOk : Option ℕ → ℕ → ℕ → Type 0
IsMaximumOk None min range = Unit {0}
IsMaximumOk (Some max) min range = (max ≤ range) × (min ≤ max)

-- within a range: the minimum, and a maximum, which isn't below it
abbrev pub AreLimitsOk : Limits → ℕ → Type 0
AreLimitsOk limits range = (limits.min ≤ range) × IsMaximumOk limits.max limits.min range

-- so many entries
abbrev pub IsTableOk : TableType → Type 0
IsTableOk type = AreLimitsOk type.limits (2 ^ 32 - 1)

-- so many pages
abbrev pub IsMemoryOk : MemType → Type 0
IsMemoryOk type = AreLimitsOk type.limits (2 ^ 16)
