use Rattle.std.proofs.Common.{◌≡◌, ◌≤◌, take}
use Rattle.wz_valid.specs.Profile.{first_entries, entries_limit}
use Rattle.wz_valid.proofs.profile_rules.check_tables.Given as goal

abbrev pub invariant-loop-index : goal.invariant-loop-index
invariant-loop-index l = (l.entries ≡ first_entries (take l.index l.tables)) × (l.entries ≤ entries_limit)
