-- How what a builder keeps is kept by each of its calls.
use Rattle.std.proofs.Common.{◌≡◌, ℕ, zero, suc, ◌+◌, ◌<◌, ◌≤◌, List, [], ◌∷◌, ◌++◌, length, take, set, get_or, refl, sym, ap, ◌∙◌, arith, inl, inr, All}
use Rattle.std.proofs.lemmas.List.{append-nil, take_all, length-set, length-append, take-append-le, get_or-set_same, get_or-set_other, get_or_append_left, get_or_push}
use Rattle.std.proofs.lemmas.List.Elements.{All-nil, All-push}
use Rattle.std.proofs.lemmas.List.Sums.{sum_by-set, sum_by-append}
use Rattle.std.proofs.lemmas.Bool.{cases_eq}
use Rattle.std.specs.List.{sum_by}
use Rattle.wz_code.specs.declared.instr.Instr.{Instr}
use Rattle.wz_code.specs.BodyParts.{Blocks, block_at, put_instr}
use Rattle.wz_code.specs.Layout.{instrs_in, blocks_by, blocks_of, sum_before, IsCounted, IsNoted}
use Rattle.wz_code.proofs.LayoutLemmas.{sent_to-none, instrs_in-here, instrs_in-away, length-blocks_by, blocks_by-at, blocks_by-put, blocks_by-push}

-- ---- one block, or several

pub blocks-several : (code : List Instr) (settled : ℕ) (added : List (ℕ × Instr)) (counts : List ℕ) → 0 < length counts
    → blocks_of code settled added counts ≡ blocks_by (take settled code) added 0 counts
blocks-several code settled added [] h = absurd (omega arith)
blocks-several code settled added (c ∷ counts) h = refl

pub noted-several : (code : List Instr) (settled : ℕ) (added : List (ℕ × Instr)) (counts : List ℕ) → 0 < length counts
    → IsCounted code settled added counts → IsNoted code settled added counts
noted-several code settled added [] h counted = absurd (omega arith)
noted-several code settled added (c ∷ counts) h counted = counted

pub counted-several : (code : List Instr) (settled : ℕ) (added : List (ℕ × Instr)) (counts : List ℕ) → 0 < length counts
    → IsNoted code settled added counts → IsCounted code settled added counts
counted-several code settled added [] h noted = absurd (omega arith)
counted-several code settled added (c ∷ counts) h noted = noted

pub length-blocks_of : (code : List Instr) (settled : ℕ) (added : List (ℕ × Instr)) (counts : List ℕ)
    → 0 < length counts → length (blocks_of code settled added counts) ≡ length counts
length-blocks_of code settled added counts h =
    ap (λ (bs : Blocks). length bs) (blocks-several code settled added counts h) ∙ length-blocks_by (take settled code) added 0 counts

-- ---- sums

sum_all : List ℕ → ℕ
sum_all counts = sum_by (λ count. count) counts

pub sum_before-all : (counts : List ℕ) → sum_before counts (length counts) ≡ sum_by (λ count. count) counts
sum_before-all counts = ap (λ (cs : List ℕ). sum_by (λ count. count) cs) (take_all (length counts) counts (omega arith))

-- ---- an instruction more

-- a place more, and nothing else
pub counted-room : (code : List Instr) (settled : ℕ) (added : List (ℕ × Instr)) (counts : List ℕ) (instr : Instr)
    → IsCounted code settled added counts → IsCounted (code ++ instr ∷ []) settled added counts
counted-room code settled added counts instr counted =
    let first : take settled (code ++ instr ∷ []) ≡ take settled code = take-append-le settled code (instr ∷ []) (omega (arith, counted.room)) in
    record {
      there = counted.there;
      each = λ n h. rw first (counted.each n h);
      total = counted.total;
      room = omega (arith, counted.room, length-append code (instr ∷ []));
    }

pub counted-instr : (code : List Instr) (settled : ℕ) (added : List (ℕ × Instr)) (counts : List ℕ) (n : ℕ) (instr extra : Instr)
    → n < length counts → IsCounted code settled added counts
    → IsCounted (code ++ extra ∷ []) settled (added ++ (n, instr) ∷ []) (set counts n (get_or counts n 0 + 1))
counted-instr code settled added counts n instr extra h counted =
    let more = get_or counts n 0 + 1 in
    let first : take settled (code ++ extra ∷ []) ≡ take settled code = take-append-le settled code (extra ∷ []) (omega (arith, counted.room)) in
    let size : length (set counts n more) ≡ length counts = length-set counts n more in
    let longer : length (added ++ (n, instr) ∷ []) ≡ length added + 1 = length-append added ((n, instr) ∷ []) in
    record {
      there = rw size (All-push (λ e. e.0 < length counts) added (n, instr) counted.there h);
      each = λ m within. rw first (each m (omega (arith, size, within)));
      total = sum_before-all (set counts n more) ∙ omega (arith, sum_by-set (λ count. count) counts n more 0 h, sum_before-all counts, counted.total, longer);
      room = omega (arith, counted.room, longer, length-append code (extra ∷ []));
    } where
      each : (m : ℕ) → m < length counts → get_or (set counts n (get_or counts n 0 + 1)) m 0 ≡ length (instrs_in (take settled code) (added ++ (n, instr) ∷ []) m)
      each m within = elim (cases_eq m n) [
        | inl same ↦ let here = instrs_in-here (take settled code) added n instr in
            let grown : length (instrs_in (take settled code) added n ++ instr ∷ []) ≡ length (instrs_in (take settled code) added n) + 1 =
            length-append (instrs_in (take settled code) added n) (instr ∷ []) in
            let e : get_or (set counts n (get_or counts n 0 + 1)) n 0 ≡ get_or counts n 0 + 1 = get_or-set_same counts n (get_or counts n 0 + 1) 0 h in
            rw (same, e, here) (omega (arith, grown, counted.each n h))
        | inr other ↦ let e = get_or-set_other counts n m (get_or counts n 0 + 1) 0 other in
            let away = instrs_in-away (take settled code) added m (n, instr) (λ same. other (sym same)) in
            rw (e, away) (counted.each m within)
      ]

-- what the blocks are then
pub blocks-instr : (code : List Instr) (settled : ℕ) (added : List (ℕ × Instr)) (counts : List ℕ) (n c : ℕ) (instr extra : Instr) → n < length counts → settled ≤ length code
    → blocks_of (code ++ extra ∷ []) settled (added ++ (n, instr) ∷ []) (set counts n c) ≡ put_instr (blocks_of code settled added counts) n instr
blocks-instr code settled added counts n c instr extra h room =
    let first : take settled (code ++ extra ∷ []) ≡ take settled code = take-append-le settled code (extra ∷ []) room in
    let size : length (set counts n c) ≡ length counts = length-set counts n c in
    blocks-several (code ++ extra ∷ []) settled (added ++ (n, instr) ∷ []) (set counts n c) (omega arith)
    ∙ ap (λ (is : List Instr). blocks_by is (added ++ (n, instr) ∷ []) 0 (set counts n c)) first
    ∙ blocks_by-put (take settled code) added counts n c instr h
    ∙ ap (λ (bs : Blocks). put_instr bs n instr) (sym (blocks-several code settled added counts (omega arith)))

pub blocks-room : (code : List Instr) (settled : ℕ) (added : List (ℕ × Instr)) (counts : List ℕ) (extra : Instr) → 0 < length counts → settled ≤ length code
    → blocks_of (code ++ extra ∷ []) settled added counts ≡ blocks_of code settled added counts
blocks-room code settled added counts extra h room =
    blocks-several (code ++ extra ∷ []) settled added counts h
    ∙ ap (λ (is : List Instr). blocks_by is added 0 counts) (take-append-le settled code (extra ∷ []) room)
    ∙ sym (blocks-several code settled added counts h)

-- ---- a block more

instrs_in-new : (first : List Instr) (added : List (ℕ × Instr)) (n : ℕ) → 0 < n → All (λ e. e.0 < n) added → instrs_in first added n ≡ []
instrs_in-new first added zero h there = absurd (omega arith)
instrs_in-new first added (suc n) h there = sent_to-none (suc n) added there

pub blocks-block : (code : List Instr) (settled : ℕ) (added : List (ℕ × Instr)) (counts : List ℕ) → 0 < length counts → IsCounted code settled added counts
    → blocks_of code settled added (counts ++ 0 ∷ []) ≡ blocks_of code settled added counts ++ [] ∷ []
blocks-block code settled added counts h counted =
    let size : length (counts ++ 0 ∷ []) ≡ length counts + 1 = length-append counts (0 ∷ []) in
    blocks-several code settled added (counts ++ 0 ∷ []) (omega arith)
    ∙ blocks_by-push (take settled code) added 0 counts 0
    ∙ ap (λ (is : List Instr). blocks_by (take settled code) added 0 counts ++ is ∷ []) (ap (λ (n : ℕ). instrs_in (take settled code) added n) (omega arith)
    ∙ instrs_in-new (take settled code) added (length counts) h counted.there)
    ∙ ap (λ (bs : Blocks). bs ++ [] ∷ []) (sym (blocks-several code settled added counts h))

pub counted-block : (code : List Instr) (settled : ℕ) (added : List (ℕ × Instr)) (counts : List ℕ) → 0 < length counts
    → IsCounted code settled added counts → IsCounted code settled added (counts ++ 0 ∷ [])
counted-block code settled added counts h counted =
    let size : length (counts ++ 0 ∷ []) ≡ length counts + 1 = length-append counts (0 ∷ []) in
    record {
      there = λ k d less. omega (arith, size, counted.there k d less);
      each = λ n within. elim (cases_eq n (length counts)) [
        | inl last ↦ let e : get_or (counts ++ 0 ∷ []) n 0 ≡ 0 = get_or_push counts 0 0 n (sym last) in
            let none : instrs_in (take settled code) added n ≡ [] =
            ap (λ (m : ℕ). instrs_in (take settled code) added m) last ∙ instrs_in-new (take settled code) added (length counts) h counted.there in
            rw (e, none) refl
        | inr other ↦ let lt : n < length counts = omega (arith, size, within) in
            let e = get_or_append_left counts (0 ∷ []) 0 n lt in rw e (counted.each n lt)
      ];
      total = sum_before-all (counts ++ 0 ∷ []) ∙ omega (arith, sum_by-append (λ count. count) counts (0 ∷ []), sum_before-all counts, counted.total);
      room = counted.room;
    }

-- the first block behind block 0
pub counted-first : (code : List Instr) (added : List (ℕ × Instr)) → length added ≡ 0 → IsCounted code (length code) added (length code ∷ 0 ∷ [])
counted-first code [] none =
    let first : take (length code) code ≡ code = take_all (length code) code (omega arith) in
    record {
      there = All-nil (λ (e : ℕ × Instr). e.0 < 2);
      each = λ n within. each n within;
      total = omega arith;
      room = omega arith;
    } where
      each : (n : ℕ) → n < 2 → get_or (length code ∷ 0 ∷ []) n 0 ≡ length (instrs_in (take (length code) code) [] n)
      each zero h = let first : take (length code) code ≡ code = take_all (length code) code (omega arith) in rw (first, append-nil code) refl
      each (suc zero) h = refl
      each (suc (suc n)) h = absurd (omega arith)
counted-first code (e ∷ added) none = absurd (omega arith)

pub blocks-first : (code : List Instr) (added : List (ℕ × Instr)) → length added ≡ 0 → blocks_of code (length code) added (length code ∷ 0 ∷ []) ≡ code ∷ [] ∷ []
blocks-first code [] none = let first : take (length code) code ≡ code = take_all (length code) code (omega arith) in rw (first, append-nil code) refl
blocks-first code (e ∷ added) none = absurd (omega arith)

pub blocks-one : (code : List Instr) (settled : ℕ) (added : List (ℕ × Instr)) (counts : List ℕ) → length counts ≡ 0 → blocks_of code settled added counts ≡ code ∷ []
blocks-one code settled added [] h = refl
blocks-one code settled added (c ∷ counts) h = absurd (omega arith)

pub none-added : (code : List Instr) (settled : ℕ) (added : List (ℕ × Instr)) (counts : List ℕ) → length counts ≡ 0 → IsNoted code settled added counts → length added ≡ 0
none-added code settled added [] h noted = noted
none-added code settled added (c ∷ counts) h noted = absurd (omega arith)

pub noted-one : (code : List Instr) (settled : ℕ) (added : List (ℕ × Instr)) (counts : List ℕ) → length counts ≡ 0 → length added ≡ 0 → IsNoted code settled added counts
noted-one code settled added [] h none = none
noted-one code settled added (c ∷ counts) h none = absurd (omega arith)

-- ---- what an added instruction finds

-- there are several blocks, and this is one of them
pub record IsSeveral (code : List Instr) (settled : ℕ) (added : List (ℕ × Instr)) (counts : List ℕ) (n : ℕ) : Type 0 where
  pub some : 0 < length counts
  pub there : n < length counts
  pub counted : IsCounted code settled added counts
  pub number : get_or counts n 0 ≡ length (block_at (blocks_of code settled added counts) n)

pub several-at : (code : List Instr) (settled : ℕ) (added : List (ℕ × Instr)) (counts : List ℕ) (n : ℕ) → 0 < length counts → n < length (blocks_of code settled added counts)
    → IsNoted code settled added counts → IsSeveral code settled added counts n
several-at code settled added counts n some h noted =
    let there : n < length counts = omega (arith, length-blocks_of code settled added counts some) in
    let counted = counted-several code settled added counts some noted in
    record {
      some = some;
      there = there;
      counted = counted;
      number = counted.each n there ∙ sym (ap (λ (is : List Instr). length is)
          (ap (λ (bs : Blocks). block_at bs n) (blocks-several code settled added counts some) ∙ blocks_by-at (take settled code) added 0 counts n there
          ∙ ap (λ (m : ℕ). instrs_in (take settled code) added m) (omega arith)));
    }
