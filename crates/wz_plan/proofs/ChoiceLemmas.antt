-- The order of the gaps, and how many of them go before one.
use Rattle.std.proofs.Common.{ℕ, zero, suc, ◌+◌, ◌-◌, ◌<◌, ◌≤◌, ◌≡◌, Bool, true, false, not, ◌&&◌, List, [], ◌∷◌, ◌++◌, length, take, drop, get_or, refl, sym, ◌∙◌, ap, subst, cond, arith}
use Rattle.std.specs.Bool.{nat_lt}
use Rattle.std.specs.List.{count_by}
use Rattle.std.specs.List.Sorted.{IsSortedBy, IsPermutation}
use Rattle.std.specs.Cmp.{IsStrictWeakOrder}
use Rattle.std.specs.Ordering.{is_lt, ordering_then, nat_cmp}
use Rattle.std.proofs.lemmas.Bool.{false≢true}
use Rattle.std.proofs.lemmas.Bool.Decides.{nat_tests}
use Rattle.std.proofs.lemmas.List.{take_all, drop_more, length-take-le, take-append-drop}
use Rattle.std.proofs.lemmas.List.Sums.{count_by_more_yes, count_by_more_no, count_by-le-length, sum_by-append}
use Rattle.std.proofs.lemmas.List.Elements.{All-cons}
use Rattle.std.proofs.lemmas.List.Sorted.{sorted_far, sum_by-IsPermutation}
use Rattle.wz_plan.specs.declared.runs.Run.{Run}
use Rattle.wz_plan.specs.Ranges.{end_of, gap_between, RisesFrom, EndsBy, gaps, with_first, with_gaps_merged}
use Rattle.wz_plan.specs.Plan.{goes_before, rank, is_cut, chosen}
use Rattle.wz_plan.proofs.JoinLemmas.{rises-joined, rises-joined_alone}

-- the order is one: what isn't before a third by way of a second isn't before it
pub order_is_weak : IsStrictWeakOrder goes_before
order_is_weak = record {
  one_way = λ x y before. grind (arith, nat_tests);
  chain = λ x y z first second. grind (arith, nat_tests);
}

-- the closure's answer is that order
pub compared : (gap other : Run) → is_lt (ordering_then (nat_cmp other.len gap.len) (nat_cmp gap.at other.at)) ≡ goes_before gap other
compared gap other = grind (arith, nat_tests)

-- where the first places pass a test, they are counted; where the later ones fail it, they are not
count_front : (p : Run → Bool) (xs : List Run) (i : ℕ) (d : Run) → i ≤ length xs
    → ((k : ℕ) → k < i → p (get_or xs k d) ≡ true) → count_by p (take i xs) ≡ i
count_front p xs zero d h pass = refl
count_front p xs (suc i) d h pass =
    let e : suc i ≡ i + 1 = omega arith in
    ap (λ n. count_by p (take n xs)) e ∙ count_by_more_yes p xs i d (omega arith) (pass i (omega arith))
    ∙ ap (λ n. n + 1) (count_front p xs i d (omega arith) (λ k small. pass k (omega arith))) ∙ sym e

count_back : (p : Run → Bool) (xs : List Run) (i more : ℕ) (d : Run) → i + more ≤ length xs
    → ((k : ℕ) → i ≤ k → k < i + more → p (get_or xs k d) ≡ false) → count_by p (take (i + more) xs) ≡ count_by p (take i xs)
count_back p xs i zero d h fail = let e : i + 0 ≡ i = omega arith in ap (λ n. count_by p (take n xs)) e
count_back p xs i (suc more) d h fail =
    let e : i + suc more ≡ i + more + 1 = omega arith in
    ap (λ n. count_by p (take n xs)) e ∙ count_by_more_no p xs (i + more) d (omega arith) (fail (i + more) (omega arith) (omega arith))
    ∙ count_back p xs i more d (omega arith) (λ k low high. fail k low (omega arith))

count_take : (p : Run → Bool) (xs : List Run) (i : ℕ) → count_by p (take i xs) ≤ count_by p xs
count_take p xs i =
    let split = sum_by-append (λ x. cond (p x) 1 0) (take i xs) (drop i xs) in
    let whole = ap (count_by p) (take-append-drop i xs) in
    omega arith

-- in a list in that order, at least i + 1 go before a gap that the one at i goes before, and else at most i
before_many : (xs : List Run) (i : ℕ) (gap d : Run) → IsSortedBy goes_before xs → i < length xs
    → goes_before (get_or xs i d) gap ≡ true → i < count_by (λ other. goes_before other gap) xs
before_many xs i gap d sorted h before =
    let pass = λ (k : ℕ) (small : k < suc i). passes (goes_before (get_or xs k d) gap) k small refl in
    let front = count_front (λ other. goes_before other gap) xs (suc i) d (omega arith) pass in
    omega (arith, count_take (λ other. goes_before other gap) xs (suc i))
  where
    passes : (b : Bool) (k : ℕ) → k < suc i → goes_before (get_or xs k d) gap ≡ b → b ≡ true
    passes true k small e = refl
    passes false k small e =
        absurd (false≢true (sym (order_is_weak.chain (get_or xs i d) (get_or xs k d) gap
        (sorted_far goes_before order_is_weak xs sorted k i d (omega arith) h) e) ∙ before))

before_few : (xs : List Run) (i : ℕ) (gap d : Run) → IsSortedBy goes_before xs → i < length xs
    → goes_before (get_or xs i d) gap ≡ false → count_by (λ other. goes_before other gap) xs ≤ i
before_few xs i gap d sorted h behind =
    let size : i + (length xs - i) ≡ length xs = omega arith in
    let back = count_back (λ other. goes_before other gap) xs i (length xs - i) d (omega arith)
    (λ k low high. order_is_weak.chain (get_or xs k d) (get_or xs i d) gap
    (sorted_far goes_before order_is_weak xs sorted i k d low (omega arith)) behind) in
    let whole = ap (count_by (λ other. goes_before other gap)) (take_all (i + (length xs - i)) xs (omega arith)) in
    omega (arith, count_by-le-length (λ other. goes_before other gap) (take i xs), length-take-le i xs (omega arith))

-- the last gap that is cut decides over the others
pub decides_up_to : (all order : List Run) (i : ℕ) (d gap : Run) → IsPermutation all order → IsSortedBy goes_before order → i < length order
    → not (goes_before (get_or order i d) gap) ≡ nat_lt (rank all gap) (i + 1)
decides_up_to all order i d gap moved sorted h = by_test (goes_before (get_or order i d) gap) refl
  where
    by_test : (b : Bool) → goes_before (get_or order i d) gap ≡ b → not (goes_before (get_or order i d) gap) ≡ nat_lt (rank all gap) (i + 1)
    by_test true e =
        let many = before_many order i gap d sorted h e in
        let same = sum_by-IsPermutation (λ other. cond (goes_before other gap) 1 0) all order moved in
        let high : nat_lt (rank all gap) (i + 1) ≡ false = grind (arith, nat_tests) in
        rw (e, high)
    by_test false e =
        let few = before_few order i gap d sorted h e in
        let same = sum_by-IsPermutation (λ other. cond (goes_before other gap) 1 0) all order moved in
        let low : nat_lt (rank all gap) (i + 1) ≡ true = grind (arith, nat_tests) in
        rw (e, low)

pub decides_every : (all : List Run) (gap : Run) (count : ℕ) → length all < count → true ≡ nat_lt (rank all gap) count
decides_every all gap count h =
    let few = count_by-le-length (λ other. goes_before other gap) all in
    grind (arith, nat_tests)

-- the gaps that are left to be collected
pub gaps_step : (xs : List Run) (i : ℕ) (d : Run) → 1 ≤ i → i < length xs
    → gaps (drop (i - 1) xs) ≡ gap_between (get_or xs (i - 1) d) (get_or xs i d) ∷ gaps (drop i xs)
gaps_step xs i d low high =
    let e : i - 1 + 1 ≡ i = omega arith in
    let first = drop_more xs (i - 1) d (omega arith) in
    let second = drop_more xs i d high in
    ap gaps (first ∙ ap (λ n. get_or xs (i - 1) d ∷ drop n xs) e ∙ ap (λ l. get_or xs (i - 1) d ∷ l) second)
    ∙ ap (λ l. gap_between (get_or xs (i - 1) d) (get_or xs i d) ∷ gaps l) (sym second)

pub gaps_none : (xs : List Run) → length xs ≤ 1 → gaps xs ≡ []
gaps_none [] h = refl
gaps_none (x ∷ []) h = refl
gaps_none (x ∷ y ∷ ys) h = absurd (omega arith)

-- ranges that rise, by places and in part
pub rises_at : (apart low : ℕ) (xs : List Run) (i : ℕ) (d : Run) → RisesFrom apart low xs → i + 1 < length xs
    → end_of (get_or xs i d) + apart ≤ (get_or xs (i + 1) d).at
rises_at apart low [] i d rises h = absurd (omega arith)
rises_at apart low (x ∷ []) i d rises h = absurd (omega arith)
rises_at apart low (x ∷ y ∷ ys) zero d rises h = rises.1.0
rises_at apart low (x ∷ y ∷ ys) (suc i) d rises h =
    let e : suc i + 1 ≡ suc (i + 1) = omega arith in
    subst (λ n. end_of (get_or (y ∷ ys) i d) + apart ≤ (get_or (x ∷ y ∷ ys) n d).at) (sym e)
    (rises_at apart (end_of x + apart) (y ∷ ys) i d rises.1 (omega arith))

pub rises_take : (apart low : ℕ) (n : ℕ) (xs : List Run) → RisesFrom apart low xs → RisesFrom apart low (take n xs)
rises_take apart low zero xs rises = tt
rises_take apart low (suc n) [] rises = tt
rises_take apart low (suc n) (x ∷ xs) rises = (rises.0, rises_take apart (end_of x + apart) n xs rises.1)

rises_first : (apart low : ℕ) (xs : List Run) (range : Run) (zs : List Run) → RisesFrom apart low (xs ++ range ∷ zs) → low ≤ range.at
rises_first apart low [] range zs rises = rises.0
rises_first apart low (x ∷ xs) range zs rises =
    let above = rises_first apart (end_of x + apart) xs range zs rises.1 in
    let here = rises.0 in
    omega arith

pub ends_before : (apart low : ℕ) (xs : List Run) (range : Run) (zs : List Run) → RisesFrom apart low (xs ++ range ∷ zs) → EndsBy range.at xs
ends_before apart low [] range zs rises = λ k d h. absurd (omega arith)
ends_before apart low (x ∷ xs) range zs rises =
    All-cons (λ r. end_of r ≤ range.at) x xs
    (let above = rises_first apart (end_of x + apart) xs range zs rises.1 in omega arith)
    (ends_before apart (end_of x + apart) xs range zs rises.1)

-- what is merged of the first runs ends before the next
pub joined_ends : (cut : Run → Bool) (xs : List Run) (i : ℕ) (d : Run) → RisesFrom 0 0 xs → i < length xs
    → EndsBy (get_or xs i d).at (with_gaps_merged cut (take i xs))
joined_ends cut xs i d rises h =
    let split : take i xs ++ get_or xs i d ∷ drop (i + 1) xs ≡ xs =
    ap (λ l. take i xs ++ l) (sym (drop_more xs i d h)) ∙ take-append-drop i xs in
    ends_before 0 0 (with_gaps_merged cut (take i xs)) (get_or xs i d) (drop (i + 1) xs)
    (rises-joined 0 0 cut (take i xs) (get_or xs i d ∷ drop (i + 1) xs) (subst (RisesFrom 0 0) (sym split) rises))

-- tests that agree on long gaps cut the same ones of ranges that are apart
joined-same_first : (cut other : Run → Bool) (x : Run) (ys : List Run)
    → ((gap : Run) → 8 < gap.len → cut gap ≡ other gap) → RisesFrom 9 (end_of x + 9) ys → with_first cut x ys ≡ with_first other x ys
joined-same_first cut other x [] same rises = refl
joined-same_first cut other x (y ∷ ys) same rises = rw (same (gap_between x y) (omega arith))

pub joined-same : (cut other : Run → Bool) (low : ℕ) (xs : List Run)
    → ((gap : Run) → 8 < gap.len → cut gap ≡ other gap) → RisesFrom 9 low xs → with_gaps_merged cut xs ≡ with_gaps_merged other xs
joined-same cut other low [] same rises = refl
joined-same cut other low (x ∷ xs) same rises =
    ap (with_first cut x) (joined-same cut other (end_of x + 9) xs same rises.1)
    ∙ joined-same_first cut other x (with_gaps_merged other xs) same (rises-joined_alone 9 (end_of x + 9) other xs rises.1)

pub chosen_is : (cut : Run → Bool) (xs : List Run) (limit : ℕ) → RisesFrom 9 0 xs
    → ((gap : Run) → cut gap ≡ nat_lt (rank (gaps xs) gap) (limit - 1)) → with_gaps_merged cut xs ≡ chosen xs limit
unfolding chosen
chosen_is cut xs limit rises same =
    joined-same cut (is_cut limit (gaps xs)) 0 xs
    (λ gap long.
    let is_long : nat_lt 8 gap.len ≡ true = grind (arith, nat_tests) in
    same gap ∙ ap (λ b. b && nat_lt (rank (gaps xs) gap) (limit - 1)) (sym is_long))
    rises
