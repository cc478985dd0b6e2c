-- Where each run of locals ends, and in which run a local lies.
use Rattle.std.specs.Prelude.{ℕ, ◌+◌, ◌≤◌, ◌<◌, nat_le, if◌then◌else◌, List, [], ◌∷◌, length, slice_index_or}
use Rattle.wz_types.specs.declared.types.ValType.{ValType}

-- the number of locals up to the end of each run, where so many stand before
abbrev pub ends_of : ℕ → List (ℕ × ValType) → List ℕ
ends_of before [] = []
ends_of before (run ∷ runs) = (before + run.0) ∷ ends_of (before + run.0) runs

-- the first run that ends behind this place
abbrev pub run_of_place : ℕ → List ℕ → ℕ
run_of_place place [] = 0
run_of_place place (end ∷ ends) = if nat_le end place then run_of_place place ends + 1 else 0

-- no end lies before an earlier one
abbrev pub Rise : List ℕ → Type 0
Rise ends = (i j : ℕ) → i ≤ j → j < length ends → slice_index_or ends i 0 ≤ slice_index_or ends j 0
