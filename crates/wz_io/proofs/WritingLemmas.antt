-- A loop of writes, as far as it has come.
use Rattle.std.proofs.Common.{◌≡◌, ℕ, ◌+◌, ◌-◌, ◌≤◌, List, ◌++◌, length, take, drop, sym, ap, subst, ◌∙◌, arith, length-drop}
use Rattle.std.specs.Prelude.{Option, Ok}
use Rattle.std.proofs.Math.Seq.{take-add}
use Rattle.std.proofs.lemmas.List.{length-take-le}
use Rattle.wz_io.specs.World.{World, Current, Told, with_more_output}
use Rattle.wz_io.specs.Calls.{Writes, current_name}
use Rattle.wz_io.specs.Writing.{told_after_writes, WritesAll}
use Rattle.wz_io.proofs.ToldLemmas.{writes-with_more_output}

-- the first `at` of the bytes were written
pub record HasCome (bytes : List ℕ) (at : ℕ) (before now : World) : Type 0 where
  pub later : before.faults ≤ now.faults
  pub current : now.current ≡ before.current
  pub told : WritesAll (take at bytes) before now
  pub reads : now.reads ≡ before.reads
  pub within : at ≤ length bytes

-- one more write
pub comes_on : (bytes : List ℕ) (at n : ℕ) (before now next : World) (piece : List ℕ) →
    HasCome bytes at before now → piece ≡ drop at bytes → Writes now next piece (Ok n) → HasCome bytes (at + n) before next
comes_on bytes at n before now next piece come is done =
    let name = current_name before.current in
    let small : n ≤ length bytes - at = rw length-drop at (subst (λ (xs : List ℕ). n ≤ length xs) is done.bound) in
    let taken : length (take n piece) ≡ n = length-take-le n piece done.bound in
    record {
      later = omega (arith, come.later, done.later);
      current = done.current ∙ come.current;
      told = done.told
          ∙ ap (λ (t : Told). with_more_output t (current_name now.current) (take n piece)) come.told
          ∙ ap (λ (c : Option Current). with_more_output (told_after_writes before.told name (take at bytes)) (current_name c) (take n piece)) come.current
          ∙ writes-with_more_output before.told name (take at bytes) (take n piece) (omega (arith, taken, done.some))
          ∙ ap (λ (xs : List ℕ). told_after_writes before.told name (take at bytes ++ take n xs)) is
          ∙ ap (told_after_writes before.told name) (sym (take-add at n bytes));
      reads = done.reads ∙ come.reads;
      within = omega (arith, come.within);
    }
