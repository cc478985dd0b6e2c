-- How far a memory was scanned. This is the tool's own.
use Rattle.std.specs.Prelude.{ℕ, ◌≡◌, List, ◌++◌, replicate, take}
use Rattle.wz_plan.specs.Scanned.{Found, found_in}

-- a scan has found what there is before a place of the memory: behind what it was shown are zeros alone
pub record IsScannedTo (memory : List ℕ) (place : ℕ) (found : Found) : Type 0 where
  pub shown : List ℕ
  pub zeros : ℕ
  pub before : take place memory ≡ shown ++ replicate zeros 0
  pub found_there : found ≡ found_in shown
