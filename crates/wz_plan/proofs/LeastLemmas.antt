-- The chosen ranges cost least. A gap that is cut is no shorter than some length, and one that isn't is no longer: where each
-- segment cost that length, these cuts would be the best of any number, and so they are among those of at most as many ranges.
use Rattle.std.proofs.Common.{ℕ, zero, suc, ◌+◌, ◌-◌, ◌*◌, ◌<◌, ◌≤◌, ◌≡◌, ◌⊎◌, Bool, true, false, not, cond, ◌&&◌, if◌then◌else◌, List, [], ◌∷◌, length, get_or, refl, sym, ◌∙◌, ap, subst, inl, inr, ⊎_elim, arith, suc-mul, zero-mul, mul-zero, mul-le-mul_right, le_of_mul-le-mul_right}
use Rattle.std.specs.Bool.{nat_lt}
use Rattle.std.specs.List.{All, filter, count_by, sum_by}
use Rattle.std.proofs.lemmas.Bool.{cases_lt, false≢true}
use Rattle.std.proofs.lemmas.Bool.Decides.{nat_tests}
use Rattle.std.proofs.lemmas.List.Elements.{All-nil, All-cons, All-head, All-tail}
use Rattle.std.proofs.lemmas.List.Sums.{sum_by-cons, sum_by-le-sum_by, length-filter}
use Rattle.wz_plan.specs.declared.runs.Run.{Run}
use Rattle.wz_plan.specs.Ranges.{RisesFrom, gaps, with_gaps_merged}
use Rattle.wz_plan.specs.Plan.{Covers, cost, goes_before, rank, is_cut, chosen, plan, runs}
use Rattle.wz_plan.specs.Laws.{PlanIsLeast}
use Rattle.wz_plan.proofs.ChoiceLemmas.{order_is_weak}
use Rattle.wz_plan.proofs.CostLemmas.{IsCovered, cost_merged, covered_cost}
use Rattle.wz_plan.proofs.CoverLemmas.{plan_covers, runs_are_nonzero, runs_rise}
use Rattle.wz_plan.proofs.FewLemmas.{filter_passes, is_cut_first, itself, length-gaps, plan_is_few}
use Rattle.wz_plan.proofs.GapLemmas.{gaps-joined, is_cut_long}
use Rattle.wz_plan.proofs.ScanLemmas.{rises_weaker}

-- the first of gaps in their order
foremost : Run → List Run → Run
foremost x [] = x
foremost x (y ∷ ys) = if goes_before (foremost y ys) x then foremost y ys else x

foremost_keeps : (P : Run → Type 0) (x : Run) (ys : List Run) → All P (x ∷ ys) → P (foremost x ys)
unfolding foremost
foremost_keeps P x [] all = All-head P x [] all
foremost_keeps P x (y ∷ ys) all =
    elim (goes_before (foremost y ys) x) as (λ b. P (if b then foremost y ys else x))
    [ true ↦ foremost_keeps P y ys (All-tail P x (y ∷ ys) all) | false ↦ All-head P x (y ∷ ys) all ]

-- none of them goes before it
foremost_first : (x : Run) (ys : List Run) → All (λ other. goes_before other (foremost x ys) ≡ false) (x ∷ ys)
unfolding foremost
foremost_first x [] = All-cons (λ other. goes_before other x ≡ false) x [] (itself x) (All-nil (λ other. goes_before other x ≡ false))
foremost_first x (y ∷ ys) = by_order (goes_before (foremost y ys) x) refl (foremost_first y ys)
  where
    by_order : (b : Bool) → goes_before (foremost y ys) x ≡ b → All (λ other. goes_before other (foremost y ys) ≡ false) (y ∷ ys)
        → All (λ other. goes_before other (foremost x (y ∷ ys)) ≡ false) (x ∷ y ∷ ys)
    by_order true e first = rw e
        (All-cons (λ other. goes_before other (foremost y ys) ≡ false) x (y ∷ ys) (order_is_weak.one_way (foremost y ys) x e) first)
    by_order false e first = rw e
        (All-cons (λ other. goes_before other x ≡ false) x (y ∷ ys) (itself x)
        (λ k d h. order_is_weak.chain (get_or (y ∷ ys) k d) (foremost y ys) x (first k d h) e))

-- what holds of all that pass a test
all_that_pass : (P : Run → Type 0) (q : Run → Bool) (xs : List Run) → All P (filter q xs) → All (λ x. q x ≡ true → P x) xs
all_that_pass P q [] all = All-nil (λ x. q x ≡ true → P x)
all_that_pass P q (x ∷ xs) all = by_test (q x) refl all (all_that_pass P q xs)
  where
    by_test : (b : Bool) → q x ≡ b → All P (cond b (x ∷ filter q xs) (filter q xs))
        → (All P (filter q xs) → All (λ x. q x ≡ true → P x) xs) → All (λ x. q x ≡ true → P x) (x ∷ xs)
    by_test true e some rest =
        All-cons (λ x. q x ≡ true → P x) x xs (λ passes. All-head P x (filter q xs) some) (rest (All-tail P x (filter q xs) some))
    by_test false e some rest = All-cons (λ x. q x ≡ true → P x) x xs (λ passes. absurd (false≢true (sym e ∙ passes))) (rest some)

count_implied : (p q : Run → Bool) (xs : List Run) → All (λ x. p x ≡ true → q x ≡ true) xs → count_by p xs ≤ count_by q xs
count_implied p q [] all = omega arith
count_implied p q (x ∷ xs) all =
    let one = one_implied (p x) (q x) (All-head (λ x. p x ≡ true → q x ≡ true) x xs all) in
    let rest = count_implied p q xs (All-tail (λ x. p x ≡ true → q x ≡ true) x xs all) in
    let before = sum_by-cons (λ y. cond (p y) 1 0) x xs in
    let after = sum_by-cons (λ y. cond (q y) 1 0) x xs in
    omega arith
  where
    one_implied : (b c : Bool) → (b ≡ true → c ≡ true) → cond b 1 0 ≤ cond c 1 0
    one_implied false c implies = omega arith
    one_implied true true implies = omega arith
    one_implied true false implies = absurd (false≢true (implies refl))

-- the order's chain in the other direction
before_both : (other x y : Run) → goes_before x y ≡ true → cond (goes_before other x) 1 0 ≤ cond (goes_before other y) 1 0
before_both other x y before = grind (arith, nat_tests)

rank_grows : (all : List Run) (x y : Run) → goes_before x y ≡ true → rank all x ≤ rank all y
rank_grows all x y before =
    sum_by-le-sum_by (λ other. cond (goes_before other x) 1 0) (λ other. cond (goes_before other y) 1 0) all (λ other. before_both other x y before)

longer_before : (x y : Run) → y.len < x.len → goes_before x y ≡ true
longer_before x y h = grind (arith, nat_tests)

before_longer : (x y : Run) → goes_before x y ≡ true → y.len ≤ x.len
before_longer x y before = grind (arith, nat_tests)

not_before_longer : (x y : Run) → goes_before x y ≡ false → x.len ≤ y.len
not_before_longer x y before = grind (arith, nat_tests)

is_long : (gap : Run) → 8 < gap.len → nat_lt 8 gap.len ≡ true
is_long gap h = grind (arith, nat_tests)

long_is : (gap : Run) → nat_lt 8 gap.len ≡ true → 8 < gap.len
long_is gap e = grind (arith, nat_tests)

-- a gap that is long enough to be cut, and isn't
abbrev is_spared : ℕ → List Run → Run → Bool
is_spared limit all gap = nat_lt 8 gap.len && not (is_cut limit all gap)

spared : (limit : ℕ) (all : List Run) (gap : Run) → 8 < gap.len → is_cut limit all gap ≡ false → is_spared limit all gap ≡ true
spared limit all gap long e = both (nat_lt 8 gap.len) (is_cut limit all gap) (is_long gap long) e
  where
    both : (b c : Bool) → b ≡ true → c ≡ false → (b && not c) ≡ true
    both b c h e = rw (h, e)

spared_long : (limit : ℕ) (all : List Run) (gap : Run) → is_spared limit all gap ≡ true → 8 < gap.len
spared_long limit all gap e = long_is gap (and_first (nat_lt 8 gap.len) (not (is_cut limit all gap)) e)
  where
    and_first : (b c : Bool) → (b && c) ≡ true → b ≡ true
    and_first true c h = refl
    and_first false c h = h

spared_behind : (limit : ℕ) (all : List Run) (gap : Run) → is_spared limit all gap ≡ true → limit - 1 ≤ rank all gap
spared_behind limit all gap e = grind (arith, nat_tests)

-- a length up to which no gap is cut, and from which on each is: 8 and something more
record IsThreshold (cut : Run → Bool) (all : List Run) (more : ℕ) : Type 0 where
  pub cut_above : All (λ gap. cut gap ≡ true → 8 + more ≤ gap.len) all
  pub rest_below : All (λ gap. cut gap ≡ false → gap.len ≤ 8 + more) all

-- it is more than 8 only where as many gaps are cut as may be
record Threshold (cut : Run → Bool) (limit : ℕ) (all : List Run) : Type 0 where
  pub more : ℕ
  pub is : IsThreshold cut all more
  pub last : (more ≡ 0) ⊎ (limit ≤ suc (count_by cut all))

none_spared : (limit : ℕ) (all : List Run) → filter (is_spared limit all) all ≡ [] → Threshold (is_cut limit all) limit all
none_spared limit all e =
    let none = all_that_pass (λ _. ⊥) (is_spared limit all) all (subst (All (λ _. ⊥)) (sym e) (All-nil (λ _. ⊥))) in
    record {
      more = 0;
      is = record {
        cut_above = λ k d h cut. (let long = long_is (get_or all k d) (is_cut_long limit all (get_or all k d) cut) in omega arith);
        rest_below = λ k d h kept. short (get_or all k d) (none k d h) kept;
      };
      last = inl refl;
    }
  where
    short : (gap : Run) → (is_spared limit all gap ≡ true → ⊥) → is_cut limit all gap ≡ false → gap.len ≤ 8 + 0
    short gap none kept = ⊎_elim
        (λ long. absurd (none (spared limit all gap long kept)))
        (λ small. omega arith)
        (cases_lt 8 gap.len)

first_spared : (limit : ℕ) (all : List Run) (top : Run) → is_spared limit all top ≡ true
    → All (λ gap. is_spared limit all gap ≡ true → goes_before gap top ≡ false) all → Threshold (is_cut limit all) limit all
first_spared limit all top is first =
    let counts = count_implied (λ gap. goes_before gap top) (is_cut limit all) all
    (λ k d h before. cut_before (get_or all k d) (first k d h) (is_cut limit all (get_or all k d)) refl before) in
    let behind = spared_behind limit all top is in
    record {
      more = top.len - 8;
      is = record {
        cut_above = λ k d h cut. long (get_or all k d) cut;
        rest_below = λ k d h kept. short (get_or all k d) (first k d h) kept;
      };
      last = inr (omega arith);
    }
  where
    cut_before : (gap : Run) → (is_spared limit all gap ≡ true → goes_before gap top ≡ false) → (b : Bool) → is_cut limit all gap ≡ b
        → goes_before gap top ≡ true → is_cut limit all gap ≡ true
    cut_before gap first true e before = e
    cut_before gap first false e before =
        let high = spared_long limit all top is in
        let longer = before_longer gap top before in
        absurd (false≢true (sym (first (spared limit all gap (omega arith) e)) ∙ before))

    long : (gap : Run) → is_cut limit all gap ≡ true → 8 + (top.len - 8) ≤ gap.len
    long gap cut = ⊎_elim
        (λ shorter.
        let grows = rank_grows all top gap (longer_before top gap shorter) in
        let low = is_cut_first limit all gap cut in
        let behind = spared_behind limit all top is in
        absurd (omega arith))
        (λ longer. let high = spared_long limit all top is in omega arith)
        (cases_lt gap.len top.len)

    short : (gap : Run) → (is_spared limit all gap ≡ true → goes_before gap top ≡ false) → is_cut limit all gap ≡ false → gap.len ≤ 8 + (top.len - 8)
    short gap first kept = ⊎_elim
        (λ high. let low = not_before_longer gap top (first (spared limit all gap high kept)) in omega arith)
        (λ small. omega arith)
        (cases_lt 8 gap.len)

threshold : (limit : ℕ) (all : List Run) → Threshold (is_cut limit all) limit all
threshold limit all = by_list (filter (is_spared limit all) all) refl (filter_passes (is_spared limit all) all)
  where
    by_list : (xs : List Run) → filter (is_spared limit all) all ≡ xs → All (λ gap. is_spared limit all gap ≡ true) xs → Threshold (is_cut limit all) limit all
    by_list [] e passes = none_spared limit all e
    by_list (x ∷ xs) e passes =
        first_spared limit all (foremost x xs) (foremost_keeps (λ gap. is_spared limit all gap ≡ true) x xs passes)
        (all_that_pass (λ gap. goes_before gap (foremost x xs) ≡ false) (is_spared limit all) all
        (subst (All (λ gap. goes_before gap (foremost x xs) ≡ false)) (sym e) (foremost_first x xs)))

-- what is paid for a gap where a segment costs more
weight_is_small : (cut : Run → Bool) (more : ℕ) (gap : Run) → (cut gap ≡ true → 8 + more ≤ gap.len) → (cut gap ≡ false → gap.len ≤ 8 + more)
    → (cond (cut gap) (8 + more) gap.len ≤ gap.len) × (cond (cut gap) (8 + more) gap.len ≤ 8 + more)
weight_is_small cut more gap long short = by_test (cut gap) long short
  where
    by_test : (b : Bool) → (b ≡ true → 8 + more ≤ gap.len) → (b ≡ false → gap.len ≤ 8 + more)
        → (cond b (8 + more) gap.len ≤ gap.len) × (cond b (8 + more) gap.len ≤ 8 + more)
    by_test true long short = let h = long refl in (omega arith, omega arith)
    by_test false long short = let h = short refl in (omega arith, omega arith)

weights_paid : (cut : Run → Bool) (more : ℕ) (all : List Run)
    → sum_by (λ (gap : Run). cond (cut gap) (8 + more) gap.len) all ≡ sum_by (λ (gap : Run). cond (cut gap) 8 gap.len) all + count_by cut all * more
weights_paid cut more [] = omega (arith, zero-mul more)
weights_paid cut more (x ∷ xs) =
    let rest = weights_paid cut more xs in
    let weights = sum_by-cons (λ (gap : Run). cond (cut gap) (8 + more) gap.len) x xs in
    let paid = sum_by-cons (λ (gap : Run). cond (cut gap) 8 gap.len) x xs in
    let counts = ap (λ n. n * more) (sum_by-cons (λ gap. cond (cut gap) 1 0) x xs) in
    let one = one_paid (cut x) (count_by cut xs) in
    omega arith
  where
    one_paid : (b : Bool) (n : ℕ) → cond b (8 + more) x.len + n * more ≡ cond b 8 x.len + (cond b 1 0 + n) * more
    one_paid true n = let e : 1 + n ≡ suc n = omega arith in omega (arith, suc-mul n more, ap (λ m. m * more) e)
    one_paid false n = let e : 0 + n ≡ n = omega arith in omega (arith, ap (λ m. m * more) e)

cost_more : (more : ℕ) (ranges : List Run) → sum_by (λ (range : Run). range.len + (8 + more)) ranges ≡ cost ranges + length ranges * more
cost_more more [] = omega (arith, zero-mul more)
cost_more more (x ∷ xs) =
    let rest = cost_more more xs in
    let all = sum_by-cons (λ (range : Run). range.len + (8 + more)) x xs in
    let one = sum_by-cons (λ (range : Run). range.len + 8) x xs in
    omega (arith, suc-mul (length xs) more)

-- where a segment costs more by this, no ranges that cover the runs cost less than those that are left of them
weighed : (cut : Run → Bool) (more high : ℕ) (ranges : List Run) (x : Run) (xs : List Run) → RisesFrom 0 0 (x ∷ xs)
    → All (IsCovered high ranges) (x ∷ xs) → IsThreshold cut (gaps (x ∷ xs)) more
    → cost (with_gaps_merged cut (x ∷ xs)) + suc (count_by cut (gaps (x ∷ xs))) * more ≤ cost ranges + length ranges * more
weighed cut more high ranges x xs rises covered is =
    let left = cost_merged cut 0 x xs rises in
    let paid = weights_paid cut more (gaps (x ∷ xs)) in
    let theirs = cost_more more ranges in
    let least = covered_cost (λ (gap : Run). cond (cut gap) (8 + more) gap.len) (8 + more) 0 high ranges x xs rises covered
    (λ k d h. weight_is_small cut more (get_or (gaps (x ∷ xs)) k d) (is.cut_above k d h) (is.rest_below k d h)) in
    omega (arith, suc-mul (count_by cut (gaps (x ∷ xs))) more)

-- what is left of runs is no more than what is cut, and one
length_left : (cut : Run → Bool) (xs : List Run) → RisesFrom 0 0 xs → length (with_gaps_merged cut xs) ≤ suc (count_by cut (gaps xs))
length_left cut xs rises =
    let left = ap length (gaps-joined cut 0 xs rises) in
    omega (arith, length-gaps (with_gaps_merged cut xs), length-filter cut (gaps xs))

-- a threshold above 8: nothing of 9 or less is cut
above_8 : (limit more : ℕ) (all : List Run) → IsThreshold (is_cut limit all) all more → (above : ℕ) × (IsThreshold (is_cut limit all) all (suc above))
above_8 limit (suc more) all is = (more, is)
above_8 limit zero all is = (
  0,
  record {
    cut_above = λ k d h cut. (let long = long_is (get_or all k d) (is_cut_long limit all (get_or all k d) cut) in omega arith);
    rest_below = λ k d h kept. (let small = is.rest_below k d h kept in omega arith);
  },
)

chosen_cheapest : (limit high : ℕ) (ranges : List Run) (x : Run) (xs : List Run) → RisesFrom 0 0 (x ∷ xs) → All (IsCovered high ranges) (x ∷ xs)
    → length ranges ≤ limit → cost (with_gaps_merged (is_cut limit (gaps (x ∷ xs))) (x ∷ xs)) ≤ cost ranges
chosen_cheapest limit high ranges x xs rises covered few =
    let found = threshold limit (gaps (x ∷ xs)) in
    let least = weighed (is_cut limit (gaps (x ∷ xs))) found.more high ranges x xs rises covered found.is in
    ⊎_elim
    (λ none. let nothing = ap (λ n. length ranges * n) none ∙ mul-zero (length ranges) in omega arith)
    (λ full. let more = mul-le-mul_right found.more (as_few full) in omega arith)
    found.last
  where
    as_few : limit ≤ suc (count_by (is_cut limit (gaps (x ∷ xs))) (gaps (x ∷ xs))) → length ranges ≤ suc (count_by (is_cut limit (gaps (x ∷ xs))) (gaps (x ∷ xs)))
    as_few full = omega arith

chosen_fewest : (limit high : ℕ) (ranges : List Run) (x : Run) (xs : List Run) → RisesFrom 0 0 (x ∷ xs) → All (IsCovered high ranges) (x ∷ xs)
    → cost ranges ≡ cost (with_gaps_merged (is_cut limit (gaps (x ∷ xs))) (x ∷ xs))
    → length (with_gaps_merged (is_cut limit (gaps (x ∷ xs))) (x ∷ xs)) ≤ length ranges
chosen_fewest limit high ranges x xs rises covered same =
    let cut = is_cut limit (gaps (x ∷ xs)) in
    let found = above_8 limit (threshold limit (gaps (x ∷ xs))).more (gaps (x ∷ xs)) (threshold limit (gaps (x ∷ xs))).is in
    let least = weighed cut (suc found.0) high ranges x xs rises covered found.1 in
    let left = length_left cut (x ∷ xs) rises in
    let products : suc (count_by cut (gaps (x ∷ xs))) * suc found.0 ≤ length ranges * suc found.0 = omega arith in
    let fewer : suc (count_by cut (gaps (x ∷ xs))) ≤ length ranges = le_of_mul-le-mul_right products (omega arith) in
    omega arith

-- runs are covered by whatever covers the bytes
covered : (bytes : List ℕ) (ranges : List Run) → Covers bytes ranges → All (IsCovered (length bytes) ranges) (runs bytes)
covered bytes ranges covers k d h =
    let run = runs_are_nonzero bytes k d h in
    record { not_empty = run.not_empty; each = λ place low high. covers place (run.each place low high) }

cheapest_of : (limit high : ℕ) (ranges xs : List Run) → RisesFrom 0 0 xs → All (IsCovered high ranges) xs → length ranges ≤ limit
    → cost (chosen xs limit) ≤ cost ranges
unfolding chosen
cheapest_of limit high ranges [] rises covered few = omega arith
cheapest_of limit high ranges (x ∷ xs) rises covered few = chosen_cheapest limit high ranges x xs rises covered few

fewest_of : (limit high : ℕ) (ranges xs : List Run) → RisesFrom 0 0 xs → All (IsCovered high ranges) xs
    → cost ranges ≡ cost (chosen xs limit) → length (chosen xs limit) ≤ length ranges
unfolding chosen
fewest_of limit high ranges [] rises covered same = omega arith
fewest_of limit high ranges (x ∷ xs) rises covered same = chosen_fewest limit high ranges x xs rises covered same

pub plan_is_least : PlanIsLeast
unfolding plan
plan_is_least bytes limit some =
    let rises = rises_weaker 1 0 0 (runs bytes) (omega arith) (runs_rise bytes) in
    record {
      covers = plan_covers bytes limit;
      few = plan_is_few bytes limit some;
      cheapest = λ other covers few. cheapest_of limit (length bytes) other (runs bytes) rises (covered bytes other covers) few;
      fewest = λ other covers few same. fewest_of limit (length bytes) other (runs bytes) rises (covered bytes other covers) same;
    }
