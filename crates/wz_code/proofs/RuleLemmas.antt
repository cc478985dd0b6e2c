-- How the block rule is kept while a body is built.
use Rattle.std.proofs.Common.{◌≡◌, ◌≢◌, ℕ, zero, suc, ◌+◌, ◌<◌, ◌≤◌, List, [], ◌∷◌, ◌++◌, Bool, true, false, cond, length, take, drop, set, refl, sym, ap, subst, ◌∙◌, arith, inl, inr, All}
use Rattle.std.specs.Prelude.{nat_eq, nat_lt}
use Rattle.std.proofs.lemmas.List.{length-set, length-append, length-drop, take-append-le, drop-append-le}
use Rattle.std.proofs.lemmas.List.Elements.{All-nil, All-cons, All-push}
use Rattle.std.proofs.lemmas.Bool.{eq-eqb, cases_eq, cases_lt, le-ltb}
use Rattle.wz_types.specs.declared.types.ValType.{ValType}
use Rattle.wz_code.specs.declared.instr.Instr.{Instr}
use Rattle.wz_code.specs.declared.instr.Instr.TheVariants.{BrTable, SelectTyped}
use Rattle.wz_code.specs.BodyParts.{Blocks, block_at, put_instr, instr_count}
use Rattle.wz_code.specs.Trees.{TableBranch, TypedSelect, leaf_of}
use Rattle.wz_code.specs.BlockRule.{named, Names, times, namings, all_namings, NamesRise, EachOnce, NamesNot, InPools}
use Rattle.wz_code.proofs.TreeLemmas.{at_same, at_other, at_new}

-- ---- a fact of each block, where one block or the list of blocks grows

-- a fact that each block's instructions have, also with one more in block b
pub each-instr : (P : ℕ → Instr → Type 0) (blocks : Blocks) (b : ℕ) (instr : Instr) → b < length blocks → ((n : ℕ) → All (λ i. P n i) (block_at blocks n)) → P b instr
    → (n : ℕ) → All (λ i. P n i) (block_at (put_instr blocks b instr) n)
each-instr P blocks b instr within each this n = elim (cases_eq n b) [
  | inl same ↦ let e = at_same blocks b (block_at blocks b ++ instr ∷ []) within in
      subst (λ (m : ℕ). All (λ i. P m i) (block_at (put_instr blocks b instr) m)) (sym same) (rw e (All-push (λ i. P b i) (block_at blocks b) instr (each b) this))
  | inr other ↦ let e = at_other blocks b n (block_at blocks b ++ instr ∷ []) other in rw e (each n)
]

pub rise-instr : (blocks : Blocks) (b : ℕ) (instr : Instr) → NamesRise blocks → b < length blocks → All (λ k. b < k) (named instr) → NamesRise (put_instr blocks b instr)
rise-instr blocks b instr rise within behind = record { each = λ n. each-instr (λ m i. All (λ k. m < k) (named i)) blocks b instr within (λ m. rise.each m) behind n }

pub rise-block : (blocks : Blocks) → NamesRise blocks → NamesRise (blocks ++ [] ∷ [])
rise-block blocks rise = record { each = λ n. rw (at_new blocks n) (rise.each n) }

-- ---- counting

pub times-append : (k : ℕ) (xs ys : List ℕ) → times k (xs ++ ys) ≡ times k xs + times k ys
times-append k [] ys = omega arith
times-append k (x ∷ xs) ys = omega (arith, times-append k xs ys)

pub times-here : (k : ℕ) (ks : List ℕ) → times k (k ∷ ks) ≡ 1 + times k ks
times-here k ks = let e = eq-eqb k k refl in rw e refl

namings-append : (k : ℕ) (xs : List Instr) (instr : Instr) → namings k (xs ++ instr ∷ []) ≡ namings k xs + times k (named instr)
namings-append k [] instr = omega arith
namings-append k (x ∷ xs) instr = omega (arith, namings-append k xs instr)

namings-set : (k : ℕ) (blocks : Blocks) (b : ℕ) (x : List Instr) → b < length blocks
    → all_namings k (set blocks b x) + namings k (block_at blocks b) ≡ all_namings k blocks + namings k x
namings-set k [] b x h = absurd (omega arith)
namings-set k (y ∷ ys) zero x h = omega arith
namings-set k (y ∷ ys) (suc b) x h = let rec = namings-set k ys b x (omega arith) in omega (arith, rec)

-- what the instruction names is no longer held back
pub once-instr : (blocks : Blocks) (b : ℕ) (instr : Instr) (before now : List ℕ) → b < length blocks → ((k : ℕ) → times k (named instr) + times k now ≡ times k before)
    → EachOnce blocks before → EachOnce (put_instr blocks b instr) now
once-instr blocks b instr before now within moved once = record {
  each = λ k.
      let n = namings-set k blocks b (block_at blocks b ++ instr ∷ []) within in
      let a = namings-append k (block_at blocks b) instr in
      let e : all_namings k (put_instr blocks b instr) + times k now ≡ all_namings k blocks + times k before = omega (arith, n, a, moved k) in
      rw (length-set blocks b (block_at blocks b ++ instr ∷ [])) (e ∙ once.each k);
}

namings-block : (k : ℕ) (blocks : Blocks) → all_namings k (blocks ++ [] ∷ []) ≡ all_namings k blocks
namings-block k [] = refl
namings-block k (b ∷ bs) = omega (arith, namings-block k bs)

-- the new block is held back
pub once-block : (blocks : Blocks) (before now : List ℕ) → ((k : ℕ) → times k now ≡ times k (length blocks ∷ before)) → EachOnce blocks before → EachOnce (blocks ++ [] ∷ []) now
once-block blocks before now grown once = record {
  each = λ k.
      let len : length (blocks ++ [] ∷ []) ≡ length blocks + 1 = length-append blocks ([] ∷ []) in
      rw (len, namings-block k blocks, grown k) (count k (all_namings k blocks) (length blocks) (times k before) (once.each k));
} where
  count : (k m n t : ℕ) → m + t ≡ cond (nat_lt k n) 1 0 → m + (cond (nat_eq n k) 1 0 + t) ≡ cond (nat_lt k (n + 1)) 1 0
  count k m n t h = grind arith

namings-le : (k : ℕ) (blocks : Blocks) (n : ℕ) → namings k (block_at blocks n) ≤ all_namings k blocks
namings-le k [] n = omega arith
namings-le k (b ∷ bs) zero = omega arith
namings-le k (b ∷ bs) (suc n) = omega (arith, namings-le k bs n)

-- ---- what is held back

pub not-times : (b : ℕ) (ks : List ℕ) → times b ks ≡ 0 → All (λ k. k ≢ b) ks
not-times b [] h = All-nil (λ k. k ≢ b)
not-times b (k ∷ ks) h =
    let other : k ≢ b = λ e. let t = eq-eqb k b e in let g = rw t at h in absurd (omega (arith, g)) in
    All-cons (λ k. k ≢ b) k ks other (not-times b ks (omega arith))

not-namings : (b : ℕ) (code : List Instr) → namings b code ≡ 0 → Names (λ k. k ≢ b) code
not-namings b [] h = All-nil (λ i. All (λ k. k ≢ b) (named i))
not-namings b (i ∷ rest) h =
    All-cons (λ i. All (λ k. k ≢ b) (named i)) i rest (not-times b (named i) (omega arith)) (not-namings b rest (omega arith))

at_most_one : (t : Bool) → cond t 1 0 ≤ 1
at_most_one true = omega arith
at_most_one false = omega arith

-- what is held back is held back once
pub held-once : (blocks : Blocks) (b : ℕ) (held : List ℕ) → EachOnce blocks held → times b held ≤ 1
held-once blocks b held once = omega (arith, once.each b, at_most_one (nat_lt b (length blocks)))

-- it is named nowhere
pub held-not : (blocks : Blocks) (b : ℕ) (held : List ℕ) → EachOnce blocks held → 1 ≤ times b held → NamesNot blocks b
held-not blocks b held once is = record {
  each = λ n. not-namings b (block_at blocks n) (omega (arith, once.each b, namings-le b blocks n, at_most_one (nat_lt b (length blocks))));
}

-- and it is there
pub held-within : (blocks : Blocks) (b : ℕ) (held : List ℕ) → EachOnce blocks held → 1 ≤ times b held → b < length blocks
held-within blocks b held once is =
    elim (cases_lt b (length blocks)) [
      | inl lt ↦ lt
      | inr ge ↦ let past = le-ltb b (length blocks) ge in let g = rw past at (once.each b) in absurd (omega (arith, g))
    ]

-- ---- the pools

taken-more : {A : Type 0} (first count : ℕ) (xs more : List A) → first + count ≤ length xs → take count (drop first (xs ++ more)) ≡ take count (drop first xs)
taken-more first count xs more h =
    let a : first ≤ length xs = omega arith in
    let b : count ≤ length (drop first xs) = omega (arith, length-drop first xs) in
    rw (drop-append-le first xs more a) (take-append-le count (drop first xs) more b)

-- a leaf stays as it is where the pools grow
pub leaf-more : (labels more : List ℕ) (types others : List ValType) (instr : Instr) → InPools labels types instr
    → leaf_of labels types instr ≡ leaf_of (labels ++ more) (types ++ others) instr
leaf-more labels more types others (BrTable first count last) h = ap (λ (ls : List ℕ). TableBranch ls last) (sym (taken-more first count labels more h))
leaf-more labels more types others (SelectTyped first count) h = ap (λ (ts : List ValType). TypedSelect ts) (sym (taken-more first count types others h))
leaf-more labels more types others instr h = refl

pub in-more : (labels more : List ℕ) (types others : List ValType) (instr : Instr) → InPools labels types instr → InPools (labels ++ more) (types ++ others) instr
in-more labels more types others (BrTable first count last) h = omega (arith, length-append labels more)
in-more labels more types others (SelectTyped first count) h = omega (arith, length-append types others)
in-more labels more types others instr h = tt

-- ---- the number of items

pub count-instr : (blocks : Blocks) (b : ℕ) (instr : Instr) → b < length blocks → instr_count (put_instr blocks b instr) ≡ instr_count blocks + 1
count-instr [] b instr h = absurd (omega arith)
count-instr (y ∷ ys) zero instr h = omega (arith, length-append y (instr ∷ []))
count-instr (y ∷ ys) (suc b) instr h = let rec = count-instr ys b instr (omega arith) in omega (arith, rec)

pub count-block : (blocks : Blocks) → instr_count (blocks ++ [] ∷ []) ≡ instr_count blocks
count-block [] = refl
count-block (b ∷ bs) = omega (arith, count-block bs)

pub count-le : (blocks : Blocks) (n : ℕ) → length (block_at blocks n) ≤ instr_count blocks
count-le [] n = omega arith
count-le (b ∷ bs) zero = omega arith
count-le (b ∷ bs) (suc n) = omega (arith, count-le bs n)
