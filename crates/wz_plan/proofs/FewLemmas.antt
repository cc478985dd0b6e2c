-- How many gaps are cut at most.
use Rattle.std.proofs.Common.{ℕ, suc, ◌+◌, ◌-◌, ◌<◌, ◌≤◌, ◌≡◌, Bool, true, false, cond, if◌then◌else◌, List, [], ◌∷◌, length, get_or, refl, ◌∙◌, ap, subst, arith}
use Rattle.std.specs.List.{filter, count_by, All, AllPairs}
use Rattle.std.proofs.lemmas.Bool.Decides.{nat_tests}
use Rattle.std.proofs.lemmas.List.Elements.{All-nil, All-cons, All-head, All-tail}
use Rattle.std.proofs.lemmas.List.Kept.{AllPairs-cons, AllPairs-filter}
use Rattle.std.proofs.lemmas.List.Sums.{sum_by-cons}
use Rattle.wz_plan.specs.declared.runs.Run.{Run}
use Rattle.wz_plan.specs.Ranges.{end_of, gap_between, RisesFrom, gaps, with_gaps_merged}
use Rattle.wz_plan.specs.Plan.{goes_before, rank, is_cut, chosen, plan, runs}
use Rattle.wz_plan.specs.Laws.{PlanIsFew}
use Rattle.wz_plan.proofs.GapLemmas.{gaps-joined}
use Rattle.wz_plan.proofs.ChoiceLemmas.{order_is_weak}
use Rattle.wz_plan.proofs.ScanLemmas.{rises_weaker}
use Rattle.wz_plan.proofs.CoverLemmas.{runs_rise}

-- the last of gaps in their order
greatest : Run → List Run → Run
greatest x [] = x
greatest x (y ∷ ys) = if goes_before x (greatest y ys) then greatest y ys else x

greatest_keeps : (P : Run → Type 0) (x : Run) (ys : List Run) → All P (x ∷ ys) → P (greatest x ys)
unfolding greatest
greatest_keeps P x [] all = All-head P x [] all
greatest_keeps P x (y ∷ ys) all =
    elim (goes_before x (greatest y ys)) as (λ b. P (if b then greatest y ys else x))
    [ true ↦ greatest_keeps P y ys (All-tail P x (y ∷ ys) all) | false ↦ All-head P x (y ∷ ys) all ]

pub itself : (x : Run) → goes_before x x ≡ false
itself x = grind (arith, nat_tests)

-- it goes before none of them
greatest_last : (x : Run) (ys : List Run) → All (λ other. goes_before (greatest x ys) other ≡ false) (x ∷ ys)
unfolding greatest
greatest_last x [] = All-cons (λ other. goes_before x other ≡ false) x [] (itself x) (All-nil (λ other. goes_before x other ≡ false))
greatest_last x (y ∷ ys) = by_order (goes_before x (greatest y ys)) refl (greatest_last y ys)
  where
    by_order : (b : Bool) → goes_before x (greatest y ys) ≡ b → All (λ other. goes_before (greatest y ys) other ≡ false) (y ∷ ys)
        → All (λ other. goes_before (greatest x (y ∷ ys)) other ≡ false) (x ∷ y ∷ ys)
    by_order true e last = rw e
        (All-cons (λ other. goes_before (greatest y ys) other ≡ false) x (y ∷ ys) (order_is_weak.one_way x (greatest y ys) e) last)
    by_order false e last = rw e
        (All-cons (λ other. goes_before x other ≡ false) x (y ∷ ys) (itself x)
        (λ k d h. order_is_weak.chain x (greatest y ys) (get_or (y ∷ ys) k d) e (last k d h)))

before_by_place : (x other : Run) → goes_before x other ≡ false → x.at < other.at → goes_before other x ≡ true
before_by_place x other e h = grind (arith, nat_tests)

count_all : (p : Run → Bool) (xs : List Run) → All (λ x. p x ≡ true) xs → count_by p xs ≡ length xs
count_all p [] all = refl
count_all p (x ∷ xs) all =
    let here : cond (p x) 1 0 ≡ 1 = rw (All-head (λ x. p x ≡ true) x xs all) in
    sum_by-cons (λ y. cond (p y) 1 0) x xs
    ∙ ap (λ n. n + count_by p xs) here
    ∙ ap (λ n. 1 + n) (count_all p xs (All-tail (λ x. p x ≡ true) x xs all)) ∙ omega arith

count_more : (p : Run → Bool) (b : Bool) (x : Run) (xs : List Run) → p x ≡ b → count_by p (x ∷ xs) ≡ cond b 1 0 + count_by p xs
count_more p b x xs e = sum_by-cons (λ y. cond (p y) 1 0) x xs ∙ ap (λ (c : Bool). cond c 1 0 + count_by p xs) e

-- all the others go before it, where each stands at a place of its own
greatest_counts : (x : Run) (ys : List Run) → AllPairs (λ lower upper. lower.at < upper.at) (x ∷ ys)
    → count_by (λ other. goes_before other (greatest x ys)) (x ∷ ys) ≡ length ys
unfolding greatest
greatest_counts x [] apart = count_more (λ other. goes_before other x) false x [] (itself x)
greatest_counts x (y ∷ ys) apart =
    by_order (goes_before x (greatest y ys)) refl (greatest_counts y ys (λ i j d low high. apart (suc i) (suc j) d (omega arith) (omega arith)))
    (greatest_last x (y ∷ ys))
  where
    by_order : (b : Bool) → goes_before x (greatest y ys) ≡ b
        → count_by (λ other. goes_before other (greatest y ys)) (y ∷ ys) ≡ length ys
        → All (λ other. goes_before (greatest x (y ∷ ys)) other ≡ false) (x ∷ y ∷ ys)
        → count_by (λ other. goes_before other (greatest x (y ∷ ys))) (x ∷ y ∷ ys) ≡ suc (length ys)
    by_order true e same last =
        let is : greatest x (y ∷ ys) ≡ greatest y ys = rw e in
        ap (λ (top : Run). count_by (λ other. goes_before other top) (x ∷ y ∷ ys)) is
        ∙ count_more (λ other. goes_before other (greatest y ys)) true x (y ∷ ys) e ∙ ap (λ n. 1 + n) same ∙ omega arith
    by_order false e same last =
        let is : greatest x (y ∷ ys) ≡ x = rw e in
        let behind : All (λ other. goes_before x other ≡ false) (x ∷ y ∷ ys) =
        subst (λ (top : Run). All (λ other. goes_before top other ≡ false) (x ∷ y ∷ ys)) is last in
        ap (λ (top : Run). count_by (λ other. goes_before other top) (x ∷ y ∷ ys)) is
        ∙ count_more (λ other. goes_before other x) false x (y ∷ ys) (itself x)
        ∙ ap (λ n. 0 + n) (count_all (λ other. goes_before other x) (y ∷ ys)
        (λ k d h. before_by_place x (get_or (y ∷ ys) k d) (behind (suc k) d (omega arith)) (apart 0 (suc k) d (omega arith) (omega arith))))
        ∙ omega arith

count_filter_le : (p q : Run → Bool) (xs : List Run) → count_by p (filter q xs) ≤ count_by p xs
count_filter_le p q [] = omega arith
count_filter_le p q (x ∷ xs) = by_test (q x) refl (count_filter_le p q xs)
  where
    by_test : (b : Bool) → q x ≡ b → count_by p (filter q xs) ≤ count_by p xs → count_by p (filter q (x ∷ xs)) ≤ count_by p (x ∷ xs)
    by_test true e rest = rw e
        (let kept = sum_by-cons (λ y. cond (p y) 1 0) x (filter q xs) in
        let whole = sum_by-cons (λ y. cond (p y) 1 0) x xs in omega arith)
    by_test false e rest = rw e (let whole = sum_by-cons (λ y. cond (p y) 1 0) x xs in omega arith)

pub filter_passes : (q : Run → Bool) (xs : List Run) → All (λ x. q x ≡ true) (filter q xs)
filter_passes q [] = All-nil (λ x. q x ≡ true)
filter_passes q (x ∷ xs) = by_test (q x) refl (filter_passes q xs)
  where
    by_test : (b : Bool) → q x ≡ b → All (λ x. q x ≡ true) (filter q xs) → All (λ x. q x ≡ true) (filter q (x ∷ xs))
    by_test true e rest = rw e (All-cons (λ x. q x ≡ true) x (filter q xs) e rest)
    by_test false e rest = rw e rest

-- of gaps at places of their own, at most n have fewer than n before them
few_first : (all : List Run) (q : Run → Bool) (n : ℕ) → AllPairs (λ lower upper. lower.at < upper.at) all
    → ((gap : Run) → q gap ≡ true → rank all gap < n) → length (filter q all) ≤ n
few_first all q n apart first =
    by_list (filter q all) refl (filter_passes q all) (AllPairs-filter (λ lower upper. lower.at < upper.at) q all apart)
  where
    by_list : (xs : List Run) → filter q all ≡ xs → All (λ x. q x ≡ true) xs → AllPairs (λ lower upper. lower.at < upper.at) xs → length xs ≤ n
    by_list [] e passes pairs = omega arith
    by_list (x ∷ xs) e passes pairs =
        let last = greatest_keeps (λ x. q x ≡ true) x xs passes in
        let counts = greatest_counts x xs pairs in
        let fewer = count_filter_le (λ other. goes_before other (greatest x xs)) q all in
        let same = ap (count_by (λ other. goes_before other (greatest x xs))) e in
        let small = first (greatest x xs) last in
        omega arith

-- gaps of ranges that rise apart stand at places of their own
gaps_above : (low : ℕ) (xs : List Run) → RisesFrom 1 low xs → All (λ gap. low ≤ gap.at) (gaps xs)
gaps_above low [] rises = All-nil (λ gap. low ≤ gap.at)
gaps_above low (x ∷ []) rises = All-nil (λ gap. low ≤ gap.at)
gaps_above low (x ∷ y ∷ ys) rises =
    All-cons (λ gap. low ≤ gap.at) (gap_between x y) (gaps (y ∷ ys)) (omega arith)
    (λ k d h. let above = gaps_above (end_of x + 1) (y ∷ ys) rises.1 k d h in omega arith)

gaps_apart : (low : ℕ) (xs : List Run) → RisesFrom 1 low xs → AllPairs (λ lower upper. lower.at < upper.at) (gaps xs)
gaps_apart low [] rises = λ i j d small high. absurd (omega arith)
gaps_apart low (x ∷ []) rises = λ i j d small high. absurd (omega arith)
gaps_apart low (x ∷ y ∷ ys) rises =
    AllPairs-cons (λ lower upper. lower.at < upper.at) (gap_between x y) (gaps (y ∷ ys))
    (λ k d h. let above = gaps_above (end_of x + 1) (y ∷ ys) rises.1 k d h in omega arith)
    (gaps_apart (end_of x + 1) (y ∷ ys) rises.1)

pub length-gaps : (xs : List Run) → length xs ≤ length (gaps xs) + 1
length-gaps [] = omega arith
length-gaps (x ∷ []) = omega arith
length-gaps (x ∷ y ∷ ys) = let rest = length-gaps (y ∷ ys) in omega arith

pub is_cut_first : (limit : ℕ) (all : List Run) (gap : Run) → is_cut limit all gap ≡ true → rank all gap < limit - 1
is_cut_first limit all gap e = grind (arith, nat_tests)

pub chosen_is_few : (xs : List Run) (limit : ℕ) → 1 ≤ limit → RisesFrom 1 0 xs → length (chosen xs limit) ≤ limit
unfolding chosen
chosen_is_few xs limit some rises =
    let cut = gaps-joined (is_cut limit (gaps xs)) 0 xs (rises_weaker 1 0 0 xs (omega arith) rises) in
    let few = few_first (gaps xs) (is_cut limit (gaps xs)) (limit - 1) (gaps_apart 0 xs rises) (is_cut_first limit (gaps xs)) in
    omega (arith, length-gaps (with_gaps_merged (is_cut limit (gaps xs)) xs), ap length cut)

pub plan_is_few : PlanIsFew
unfolding plan
plan_is_few bytes limit some = chosen_is_few (runs bytes) limit some (runs_rise bytes)
