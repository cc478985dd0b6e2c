-- What ranges cost: exactly after a merge, and at least where they cover runs.
use Rattle.std.proofs.Common.{ℕ, zero, suc, ◌+◌, ◌-◌, ◌<◌, ◌≤◌, ◌≡◌, Bool, true, false, cond, List, [], ◌∷◌, refl, ap, ⊎_elim, arith}
use Rattle.std.specs.Bool.{nat_lt}
use Rattle.std.specs.List.{All, sum_by}
use Rattle.std.proofs.lemmas.Bool.Decides.{nat_tests}
use Rattle.std.proofs.lemmas.List.Elements.{All-head, All-tail}
use Rattle.std.proofs.lemmas.List.Sums.{sum_by-cons, sum_by-le-sum_by}
use Rattle.wz_plan.specs.declared.runs.Run.{Run}
use Rattle.wz_plan.specs.Ranges.{end_of, gap_between, hull, RisesFrom, gaps, with_first, with_gaps_merged}
use Rattle.wz_plan.specs.Plan.{Holds, IsInOne, cost}

-- a range in front of others: what is paid for the gap is a segment where it is cut, and else its bytes
cost_first : (cut : Run → Bool) (x y : Run) (ys : List Run) → end_of x ≤ y.at
    → cost (with_first cut x (y ∷ ys)) ≡ x.len + cond (cut (gap_between x y)) 8 (gap_between x y).len + cost (y ∷ ys)
cost_first cut x y ys h = by_gap (cut (gap_between x y)) refl
  where
    by_gap : (b : Bool) → cut (gap_between x y) ≡ b
        → cost (with_first cut x (y ∷ ys)) ≡ x.len + cond (cut (gap_between x y)) 8 (gap_between x y).len + cost (y ∷ ys)
    by_gap true e = rw e (let whole = sum_by-cons (λ (range : Run). range.len + 8) x (y ∷ ys) in omega arith)
    by_gap false e = rw e
        (let one = sum_by-cons (λ (range : Run). range.len + 8) (hull x y) ys in
        let other = sum_by-cons (λ (range : Run). range.len + 8) y ys in
        omega arith)

-- the same in front of two that may be merged, which begin where the first of them begins
cost_second : (cut : Run → Bool) (x y : Run) (ys : List Run) → end_of x ≤ y.at
    → cost (with_first cut x (with_first cut y ys)) ≡ x.len + cond (cut (gap_between x y)) 8 (gap_between x y).len + cost (with_first cut y ys)
cost_second cut x y [] h = cost_first cut x y [] h
cost_second cut x y (z ∷ zs) h = by_gap (cut (gap_between y z)) refl
  where
    by_gap : (b : Bool) → cut (gap_between y z) ≡ b
        → cost (with_first cut x (with_first cut y (z ∷ zs)))
        ≡ x.len + cond (cut (gap_between x y)) 8 (gap_between x y).len + cost (with_first cut y (z ∷ zs))
    by_gap true e = rw e (cost_first cut x y (z ∷ zs) h)
    by_gap false e = rw e (cost_first cut x (hull y z) zs h)

-- what merged ranges cost: the bytes of all, what is paid for each gap, and the first segment
pub cost_merged : (cut : Run → Bool) (low : ℕ) (x : Run) (xs : List Run) → RisesFrom 0 low (x ∷ xs)
    → cost (with_gaps_merged cut (x ∷ xs))
    ≡ sum_by (λ (range : Run). range.len) (x ∷ xs) + sum_by (λ (gap : Run). cond (cut gap) 8 gap.len) (gaps (x ∷ xs)) + 8
cost_merged cut low x [] rises = omega arith
cost_merged cut low x (y ∷ ys) rises =
    let front = cost_second cut x y (with_gaps_merged cut ys) (omega arith) in
    let rest = cost_merged cut (end_of x + 0) y ys rises.1 in
    let lengths = sum_by-cons (λ (range : Run). range.len) x (y ∷ ys) in
    let paid = sum_by-cons (λ (gap : Run). cond (cut gap) 8 gap.len) (gap_between x y) (gaps (y ∷ ys)) in
    omega arith

-- what a range costs from a place on: its bytes there, and a segment of `each` where it begins above
abbrev pub above : ℕ → ℕ → Run → ℕ
above each place range = cond (nat_lt place range.at) (range.len + each) (end_of range - place)

above_falls : (each p q : ℕ) (range : Run) → p ≤ q → above each q range ≤ above each p range
above_falls each p q range h = grind (arith, nat_tests)

above_whole : (each p : ℕ) (range : Run) → above each p range ≤ range.len + each
above_whole each p range = grind (arith, nat_tests)

-- a range that holds a place pays for it
place_gain : (each p q : ℕ) (range : Run) → q ≡ p + 1 → Holds range p → above each q range + 1 ≤ above each p range
place_gain each p q range e here =
    let low = here.0 in
    let high = here.1 in
    grind (arith, nat_tests)

-- a range that holds the place behind a gap pays for the gap or for a segment
gap_gain : (each p q paid : ℕ) (range : Run) → p ≤ q → p + paid ≤ q → paid ≤ each → Holds range q → above each q range + paid ≤ above each p range
gap_gain each p q paid range h size small here =
    let low = here.0 in
    let high = here.1 in
    grind (arith, nat_tests)

whole_gain : (each p : ℕ) (range : Run) → Holds range p → above each p range + each ≤ range.len + each
whole_gain each p range here =
    let low = here.0 in
    let high = here.1 in
    grind (arith, nat_tests)

-- what one of the ranges gains all of them gain
sum_gain : (f g : Run → ℕ) (more high place : ℕ) (ranges : List Run) → ((range : Run) → f range ≤ g range)
    → ((range : Run) → Holds range place → f range + more ≤ g range) → IsInOne high ranges place
    → sum_by f ranges + more ≤ sum_by g ranges
sum_gain f g more high place [] grows gain held = absurd held
sum_gain f g more high place (x ∷ xs) grows gain held =
    let before = sum_by-cons f x xs in
    let after = sum_by-cons g x xs in
    ⊎_elim
    (λ here.
    let one = gain x here.0 in
    let rest = sum_by-le-sum_by f g xs grows in
    omega arith)
    (λ later.
    let one = grows x in
    let rest = sum_gain f g more high place xs grows gain later in
    omega arith)
    held

-- a run whose places all lie in ranges
pub record IsCovered (high : ℕ) (ranges : List Run) (run : Run) : Type 0 where
  pub not_empty : 0 < run.len
  pub each : (place : ℕ) → run.at ≤ place → place < end_of run → IsInOne high ranges place

run_gain : (each at len high : ℕ) (ranges : List Run) → ((place : ℕ) → at ≤ place → place < at + len → IsInOne high ranges place)
    → sum_by (above each (at + len)) ranges + len ≤ sum_by (above each at) ranges
run_gain each at zero high ranges held =
    let e : at + 0 ≡ at = omega arith in
    let same = ap (λ n. sum_by (above each n) ranges) e in
    omega arith
run_gain each at (suc len) high ranges held =
    let last = sum_gain (above each (at + suc len)) (above each (at + len)) 1 high (at + len) ranges
    (λ range. above_falls each (at + len) (at + suc len) range (omega arith))
    (λ range here. place_gain each (at + len) (at + suc len) range (omega arith) here)
    (held (at + len) (omega arith) (omega arith)) in
    let rest = run_gain each at len high ranges (λ place low small. held place low (omega arith)) in
    omega arith

-- ranges that cover runs pay for their bytes, and for each gap no less than its bytes or a segment
covered_gain : (weight : Run → ℕ) (each low high : ℕ) (ranges : List Run) (x : Run) (xs : List Run) → RisesFrom 0 low (x ∷ xs)
    → All (IsCovered high ranges) (x ∷ xs) → All (λ gap. (weight gap ≤ gap.len) × (weight gap ≤ each)) (gaps (x ∷ xs))
    → sum_by (λ (run : Run). run.len) (x ∷ xs) + sum_by weight (gaps (x ∷ xs)) ≤ sum_by (above each x.at) ranges
covered_gain weight each low high ranges x [] rises covered small =
    let first = All-head (IsCovered high ranges) x [] covered in
    let run = run_gain each x.at x.len high ranges first.each in
    omega arith
covered_gain weight each low high ranges x (y ∷ ys) rises covered small =
    let first = All-head (IsCovered high ranges) x (y ∷ ys) covered in
    let behind = All-tail (IsCovered high ranges) x (y ∷ ys) covered in
    let second = All-head (IsCovered high ranges) y ys behind in
    let some = second.not_empty in
    let limits = All-head (λ gap. (weight gap ≤ gap.len) × (weight gap ≤ each)) (gap_between x y) (gaps (y ∷ ys)) small in
    let apart : end_of x ≤ y.at = omega arith in
    let run = run_gain each x.at x.len high ranges first.each in
    let gap = sum_gain (above each y.at) (above each (end_of x)) (weight (gap_between x y)) high y.at ranges
    (λ range. above_falls each (end_of x) y.at range apart)
    (λ range here. gap_gain each (end_of x) y.at (weight (gap_between x y)) range apart (omega arith) (omega arith) here)
    (second.each y.at (omega arith) (omega arith)) in
    let rest = covered_gain weight each (end_of x + 0) high ranges y ys rises.1 behind
    (All-tail (λ gap. (weight gap ≤ gap.len) × (weight gap ≤ each)) (gap_between x y) (gaps (y ∷ ys)) small) in
    let lengths = sum_by-cons (λ (run : Run). run.len) x (y ∷ ys) in
    let weights = sum_by-cons weight (gap_between x y) (gaps (y ∷ ys)) in
    omega arith

pub covered_cost : (weight : Run → ℕ) (each low high : ℕ) (ranges : List Run) (x : Run) (xs : List Run) → RisesFrom 0 low (x ∷ xs)
    → All (IsCovered high ranges) (x ∷ xs) → All (λ gap. (weight gap ≤ gap.len) × (weight gap ≤ each)) (gaps (x ∷ xs))
    → sum_by (λ (run : Run). run.len) (x ∷ xs) + sum_by weight (gaps (x ∷ xs)) + each ≤ sum_by (λ (range : Run). range.len + each) ranges
covered_cost weight each low high ranges x xs rises covered small =
    let first = All-head (IsCovered high ranges) x xs covered in
    let some = first.not_empty in
    let gain = covered_gain weight each low high ranges x xs rises covered small in
    let whole = sum_gain (above each x.at) (λ (range : Run). range.len + each) each high x.at ranges
    (λ range. above_whole each x.at range) (λ range here. whole_gain each x.at range here)
    (first.each x.at (omega arith) (omega arith)) in
    omega arith
