-- A loop of reads, as far as it has come.
use Rattle.std.proofs.Common.{◌≡◌, ℕ, ◌+◌, ◌≤◌, List, ◌++◌, length, refl, ap, append_assoc}
use Rattle.std.specs.Prelude.{Option, None, Some}
use Rattle.std.specs.Io.KnownBytes.{prepend_known}
use Rattle.wz_io.specs.World.{World}

pub record HasRead (limit : ℕ) (before now : World) (all : List ℕ) : Type 0 where
  pub current : now.current ≡ before.current
  pub told : now.told ≡ before.told
  pub later : before.faults ≤ now.faults
  pub left : before.left ≡ prepend_known all now.left
  pub small : length all ≤ limit
  pub reads : now.reads ≤ before.reads + length all

-- what was taken first, and what was taken behind it
pub prepend-append : (a b : List ℕ) (x : Option (List ℕ)) →
    prepend_known (a ++ b) x ≡ prepend_known a (prepend_known b x)
prepend-append a b None = refl
prepend-append a b (Some x) = ap (λ (l : List ℕ). Some l) (append_assoc a b x)
