-- Which block names another. Proofs of other crates may cite this file.
use Rattle.std.proofs.Common.{◌≡◌, ℕ, zero, suc, ◌+◌, ◌<◌, ◌≤◌, List, [], ◌∷◌, length, Bool, true, false, cond, refl, ap, subst, arith, ◌==◌, All}
use Rattle.std.proofs.lemmas.List.Elements.{All-head, All-tail}
use Rattle.std.proofs.lemmas.Bool.{lt-ltb, eqb-true}
use Rattle.wz_code.specs.declared.instr.Instr.{Instr}
use Rattle.wz_code.specs.BodyParts.{Blocks, block_at}
use Rattle.wz_code.specs.BlockRule.{named, Names, times, namings, all_namings, EachOnce}

pub all-named : (Is : ℕ → Type 0) (k : ℕ) (ks : List ℕ) → All Is ks → 1 ≤ times k ks → Is k
all-named Is k [] every some = absurd (omega (arith, some))
all-named Is k (n ∷ ks) every some = by (n == k) refl some (λ few. all-named Is k ks (All-tail Is n ks every) few) where
  by : (b : Bool) → (n == k) ≡ b → 1 ≤ cond b 1 0 + times k ks → (1 ≤ times k ks → Is k) → Is k
  by true same few later = subst Is (eqb-true n k same) (All-head Is n ks every)
  by false same few later = later (omega (arith, few))

pub names-such : (Is : ℕ → Type 0) (k : ℕ) (code : List Instr) → Names Is code → 1 ≤ namings k code → Is k
names-such Is k [] names some = absurd (omega (arith, some))
names-such Is k (instr ∷ code) names some = by (times k (named instr)) refl (λ few. names-such Is k code (All-tail Such instr code names) few) where
  Such : Instr → Type 0
  Such i = All Is (named i)

  by : (n : ℕ) → times k (named instr) ≡ n → (1 ≤ namings k code → Is k) → Is k
  by zero none later = later (omega (arith, some, none))
  by (suc n) here later = all-named Is k (named instr) (All-head Such instr code names) (omega (arith, here))

-- a block that is named is named in one of the blocks
pub naming-block : (k : ℕ) (blocks : Blocks) → 1 ≤ all_namings k blocks → (j : ℕ) × (1 ≤ namings k (block_at blocks j))
naming-block k [] some = absurd (omega (arith, some))
naming-block k (block ∷ blocks) some = by (namings k block) refl (λ few. naming-block k blocks few) where
  by : (n : ℕ) → namings k block ≡ n → (1 ≤ all_namings k blocks → (j : ℕ) × (1 ≤ namings k (block_at blocks j))) → (j : ℕ) × (1 ≤ namings k (block_at (block ∷ blocks) j))
  by zero none later = let found = later (omega (arith, some, none)) in (suc found.0, found.1)
  by (suc n) here later = (0, omega (arith, here))

other_number : (k : ℕ) → 0 < k → times k (0 ∷ []) ≡ 0
other_number zero more = absurd (omega (arith, more))
other_number (suc k) more = by (0 == suc k) refl where
  by : (b : Bool) → (0 == suc k) ≡ b → cond b 1 0 + 0 ≡ 0
  by true same = let e : 0 ≡ suc k = eqb-true 0 (suc k) same in absurd (omega (arith, e))
  by false same = omega arith

-- of the blocks that are there each but block 0 is named
pub once-named : (blocks : Blocks) (k : ℕ) → EachOnce blocks (0 ∷ []) → 0 < k → k < length blocks → 1 ≤ all_namings k blocks
once-named blocks k once more less =
    let e = once.each k in
    let t = lt-ltb k (length blocks) less in
    let other : times k (0 ∷ []) ≡ 0 = other_number k more in
    let one = ap (λ (b : Bool). cond {A = ℕ} b 1 0) t in
    omega (arith, e, other, one)
