use Rattle.std.proofs.Common.{◌≡◌, ℕ, List, ◌-◌, length, drop}
use Rattle.std.specs.HashSet.{contains_by}
use Rattle.std.specs.Str.{bytes_eq}
use Rattle.wz_words.specs.Faults.{renames_to}
use Rattle.wz_exports.proofs.names.names_given.Given as goal

abbrev pub invariant-loop-done : goal.invariant-loop-done
invariant-loop-done l = (q : List ℕ) → contains_by (λ k. bytes_eq q k.now) l.names ≡ renames_to q (drop (length l.renames - l.done) l.renames)
