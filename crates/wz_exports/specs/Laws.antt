-- What holds of the settings that words ask for, and of undeclared functions. This is the tool's own.
use Rattle.std.specs.Prelude.{◌≡◌, ◌≢◌, ℕ, List, Ok, IsTrue, ◌||◌}
use Rattle.std.specs.List.{AllPairs, flat_map}
use Rattle.wz_code.specs.References.{has_number}
use Rattle.wz_words.specs.Settings.{Settings}
use Rattle.wz_words.specs.Faults.{settings}
use Rattle.wz_module.specs.Module.{Module}
use Rattle.wz_snapshot.specs.Recorded.{RecordedState}
use Rattle.wz_exports.specs.Kept.{KeptExports}
use Rattle.wz_exports.specs.Undeclared.{body_refs, refs_elsewhere, undeclared_functions}

-- no two renames of them are to one name
abbrev pub NewNamesDiffer : Type 0
NewNamesDiffer = (words : List (List ℕ)) (s : Settings) → settings words ≡ Ok s → AllPairs (λ x y. x.dst ≢ y.dst) s.renames

-- and no two are of one export
abbrev pub RenamedDiffer : Type 0
RenamedDiffer = (words : List (List ℕ)) (s : Settings) → settings words ≡ Ok s → AllPairs (λ x y. x.src ≢ y.src) s.renames

-- each function that a body names occurs elsewhere or is among the undeclared ones
abbrev pub RefsAreFound : Type 0
RefsAreFound = (m : Module) (r : RecordedState) (k : KeptExports) (function : ℕ) → IsTrue (has_number function (flat_map body_refs m.bodies))
    → IsTrue (has_number function (refs_elsewhere m r k) || has_number function (undeclared_functions m r k))
