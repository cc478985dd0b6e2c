-- When a table or a memory may grow by so much.
-- WebAssembly Core Specification 2.0, sections 4.5.3.8 (growing tables: the new size is below 2^32) and 4.5.3.9 (growing
-- memories: at most 65,536 pages), both with the new size as the minimum of valid limits (section 3.2.1).
use Rattle.std.specs.Prelude.{ℕ, ◌+◌, ◌^◌, nat_le, nat_lt, Option, Some, None, Bool, true, ◌&&◌}

abbrev pub within_maximum : Option ℕ → ℕ → Bool
within_maximum None size = true
within_maximum (Some maximum) size = nat_le size maximum

-- a table of so many entries by so many more
abbrev pub may_extend : ℕ → Option ℕ → ℕ → Bool
may_extend size maximum by = nat_lt (size + by) (2 ^ 32) && within_maximum maximum (size + by)

-- a memory of so many pages by so many more
abbrev pub may_grow : ℕ → Option ℕ → ℕ → Bool
may_grow size maximum by = nat_le (size + by) 65536 && within_maximum maximum (size + by)
