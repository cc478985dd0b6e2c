-- Gaps after a merge, and which of them are cut.
use Rattle.std.proofs.Common.{ℕ, ◌+◌, ◌-◌, ◌≤◌, ◌≡◌, Bool, true, false, cond, ◌&&◌, List, [], ◌∷◌, zero-add, refl, sym, ◌∙◌, ap, arith}
use Rattle.std.specs.List.{filter, count_by}
use Rattle.std.specs.Bool.{nat_lt}
use Rattle.std.proofs.lemmas.Bool.{false≢true}
use Rattle.std.proofs.lemmas.List.Sums.{sum_by-cons}
use Rattle.std.proofs.lemmas.Bool.Decides.{nat_tests}
use Rattle.wz_plan.specs.declared.runs.Run.{Run}
use Rattle.wz_plan.specs.Ranges.{end_of, gap_between, hull, RisesFrom, gaps, with_first, with_gaps_merged}
use Rattle.wz_plan.specs.Plan.{goes_before, is_cut, chosen}
use Rattle.wz_plan.specs.Scanned.{merged}
use Rattle.wz_plan.proofs.JoinLemmas.{gap-hull, rises-joined_alone, joined-joined_alone}

-- a hull has the gaps behind its higher part
gaps-hull : (x y : Run) (ys : List Run) → x.at ≤ end_of y → gaps (hull x y ∷ ys) ≡ gaps (y ∷ ys)
gaps-hull x y [] h = refl
gaps-hull x y (z ∷ zs) h = ap (λ (g : Run). g ∷ gaps (z ∷ zs)) (gap-hull x y z h)

-- a range in front: its gap stays where it is cut
gaps-first : (cut : Run → Bool) (x y : Run) (ys : List Run) → x.at ≤ end_of y
    → gaps (with_first cut x (y ∷ ys)) ≡ cond (cut (gap_between x y)) (gap_between x y ∷ gaps (y ∷ ys)) (gaps (y ∷ ys))
gaps-first cut x y ys h = by_gap (cut (gap_between x y)) refl
  where
    by_gap : (b : Bool) → cut (gap_between x y) ≡ b
        → gaps (with_first cut x (y ∷ ys)) ≡ cond (cut (gap_between x y)) (gap_between x y ∷ gaps (y ∷ ys)) (gaps (y ∷ ys))
    by_gap true e = rw e
    by_gap false e = rw e (gaps-hull x y ys h)

-- the same in front of two that may be merged, which begin where the first of them begins
gaps-second : (cut : Run → Bool) (x y : Run) (ys : List Run) → end_of x ≤ y.at → RisesFrom 0 (end_of y + 0) ys
    → gaps (with_first cut x (with_first cut y ys)) ≡ cond (cut (gap_between x y)) (gap_between x y ∷ gaps (with_first cut y ys)) (gaps (with_first cut y ys))
gaps-second cut x y [] h rest = gaps-first cut x y [] (omega arith)
gaps-second cut x y (z ∷ zs) h rest = by_gap (cut (gap_between y z)) refl
  where
    by_gap : (b : Bool) → cut (gap_between y z) ≡ b
        → gaps (with_first cut x (with_first cut y (z ∷ zs)))
        ≡ cond (cut (gap_between x y)) (gap_between x y ∷ gaps (with_first cut y (z ∷ zs))) (gaps (with_first cut y (z ∷ zs)))
    by_gap true e = rw e (gaps-first cut x y (z ∷ zs) (omega arith))
    by_gap false e = rw e (gaps-first cut x (hull y z) zs (omega arith))

-- of the gaps, a merge leaves those that are cut
pub gaps-joined : (cut : Run → Bool) (low : ℕ) (xs : List Run) → RisesFrom 0 low xs → gaps (with_gaps_merged cut xs) ≡ filter cut (gaps xs)
gaps-joined cut low [] h = refl
gaps-joined cut low (x ∷ []) h = refl
gaps-joined cut low (x ∷ y ∷ ys) h =
    gaps-second cut x y (with_gaps_merged cut ys) (omega arith) (rises-joined_alone 0 (end_of y + 0) cut ys h.1.1)
    ∙ ap (λ g. cond (cut (gap_between x y)) (gap_between x y ∷ g) g) (gaps-joined cut (end_of x + 0) (y ∷ ys) h.1)

-- a count among the elements that pass a test, where what is counted passes it
pub count_by-filter : (counts passes : Run → Bool) (xs : List Run) → ((x : Run) → counts x ≡ true → passes x ≡ true)
    → count_by counts (filter passes xs) ≡ count_by counts xs
count_by-filter counts passes [] implies = refl
count_by-filter counts passes (x ∷ xs) implies = by_test (count_by-filter counts passes xs implies) (passes x) refl (counts x) refl
  where
    by_test : count_by counts (filter passes xs) ≡ count_by counts xs
        → (b : Bool) → passes x ≡ b → (c : Bool) → counts x ≡ c → count_by counts (filter passes (x ∷ xs)) ≡ count_by counts (x ∷ xs)
    by_test same true e c f = rw e
        (sum_by-cons (λ y. cond (counts y) 1 0) x (filter passes xs)
        ∙ ap (λ n. cond (counts x) 1 0 + n) same
        ∙ sym (sum_by-cons (λ y. cond (counts y) 1 0) x xs))
    by_test same false e true f = absurd (false≢true (sym e ∙ implies x f))
    by_test same false e false f =
        let none : cond (counts x) 1 0 ≡ 0 = rw f in
        rw e (same ∙ sym (sum_by-cons (λ y. cond (counts y) 1 0) x xs ∙ ap (λ n. n + count_by counts xs) none ∙ zero-add (count_by counts xs)))

-- what goes before a gap is no shorter
goes_before_longer : (other gap : Run) → goes_before other gap ≡ true → nat_lt 8 gap.len ≡ true → nat_lt 8 other.len ≡ true
goes_before_longer other gap before long = grind (arith, nat_tests)

-- gaps that are merged in any case have no say in which others are cut
is_cut-filter : (limit : ℕ) (all : List Run) (gap : Run) → is_cut limit (filter (λ other. nat_lt 8 other.len) all) gap ≡ is_cut limit all gap
is_cut-filter limit all gap = by_test (nat_lt 8 gap.len) refl
  where
    by_test : (b : Bool) → nat_lt 8 gap.len ≡ b → is_cut limit (filter (λ other. nat_lt 8 other.len) all) gap ≡ is_cut limit all gap
    by_test false e = rw e
    by_test true e =
        ap (λ n. nat_lt 8 gap.len && nat_lt n (limit - 1))
        (count_by-filter (λ other. goes_before other gap) (λ other. nat_lt 8 other.len) all (λ other before. goes_before_longer other gap before e))

pub is_cut_long : (limit : ℕ) (all : List Run) (gap : Run) → is_cut limit all gap ≡ true → nat_lt 8 gap.len ≡ true
is_cut_long limit all gap e = and_first (nat_lt 8 gap.len) _ e
  where
    and_first : (b c : Bool) → (b && c) ≡ true → b ≡ true
    and_first true c h = refl
    and_first false c h = h

pub chosen-merged : (low : ℕ) (ranges : List Run) (limit : ℕ) → RisesFrom 0 low ranges → chosen (merged ranges) limit ≡ chosen ranges limit
unfolding chosen merged
chosen-merged low ranges limit h =
    ap (λ g. with_gaps_merged (is_cut limit g) (merged ranges)) (gaps-joined (λ gap. nat_lt 8 gap.len) low ranges h)
    ∙ (λ i. with_gaps_merged (λ gap. is_cut-filter limit (gaps ranges) gap i) (merged ranges))
    ∙ joined-joined_alone (is_cut limit (gaps ranges)) (λ gap. nat_lt 8 gap.len) low ranges (is_cut_long limit (gaps ranges)) h
