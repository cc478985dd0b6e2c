-- A range written item by item is the range written at once.
use Rattle.std.proofs.Common.{◌≡◌, ℕ, zero, suc, ◌+◌, ◌<◌, ◌≤◌, ◌⊎◌, inl, inr, ⊎_elim, List, [], ◌∷◌, ◌++◌, length, take, drop, replicate, true, false, nat_le, refl, sym, ap, ◌∙◌, arith, rules}
use Rattle.std.proofs.lemmas.List.{places, same_lists, append_assoc, length-append, length-take, length-drop}
use Rattle.std.proofs.lemmas.List.Edits.{paste_all, paste-paste}
use Rattle.std.proofs.lemmas.Bool.{cases_lt}
use Rattle.std.proofs.lemmas.Bool.Decides.{nat_tests}
use Rattle.std.proofs.Math.Seq.{paste}
use Rattle.wz_linear.specs.Bytes.{part, written}
use Rattle.wz_store.specs.Changes.{overwritten, range_of}
use Rattle.wz_bulk.specs.OneByOne.{filled_by_one, copied_by_one, moved_by_one, FillsBytesByOne, CopiesBytesByOne, MovesBytesByOne}

length-overwritten : {A : Type 0} (xs : List A) (at : ℕ) (new : List A) → at + length new ≤ length xs → length (overwritten xs at new) ≡ length xs
length-overwritten xs at new h = simp (length-append, length-take, length-drop) (omega arith)

length-range : {A : Type 0} (xs : List A) (from count : ℕ) → from + count ≤ length xs → length (range_of xs from count) ≡ count
length-range xs from count h = simp (length-take, length-drop) (omega arith)

-- a range and the one behind it
join : {A : Type 0} (xs : List A) (at next : ℕ) (a b : List A) → next ≡ at + length a → at ≤ length xs → overwritten (overwritten xs at a) next b ≡ overwritten xs at (a ++ b)
join xs at next a b e h =
    ap (λ n. overwritten (overwritten xs at a) n b) e
    ∙ sym (paste_all (overwritten xs at a) (at + length a) b (length b) refl)
    ∙ ap (λ m. paste m (at + length a) b (length b)) (sym (paste_all xs at a (length a) refl))
    ∙ paste-paste xs at a b (length a) (length b) refl refl h
    ∙ paste_all xs at (a ++ b) (length a + length b) (sym (length-append a b))
    ∙ ap (λ n. take at xs ++ ((a ++ b) ++ drop (at + n) xs)) (sym (length-append a b))

-- the range behind first
join_back : {A : Type 0} (xs : List A) (at next : ℕ) (a b : List A) → next ≡ at + length a → next + length b ≤ length xs
    → overwritten (overwritten xs next b) at a ≡ overwritten xs at (a ++ b)
join_back xs at next a b e h = same_lists _ _ (search (rules, places)) (λ k d l. grind (arith, places))

range_more : {A : Type 0} (xs : List A) (from a b : ℕ) → from + (a + b) ≤ length xs → range_of xs from a ++ range_of xs (from + a) b ≡ range_of xs from (a + b)
range_more xs from a b h = same_lists _ _ (search (rules, places)) (λ k d l. grind (arith, places))

range_apart : {A : Type 0} (xs : List A) (at : ℕ) (new : List A) (from count : ℕ) → at + length new ≤ length xs → from + count ≤ length xs
    → (from + count ≤ at) ⊎ (at + length new ≤ from)
    → range_of (overwritten xs at new) from count ≡ range_of xs from count
range_apart xs at new from count h inside apart = same_lists _ _ (search (rules, places)) (λ k d l. grind (arith, places, apart))

-- nothing is written
nothing : {A : Type 0} (xs : List A) (at : ℕ) → xs ≡ overwritten xs at []
nothing xs at = same_lists _ _ (search (rules, places)) (λ k d l. grind (arith, places))

pub fill_is_whole : {A : Type 0} (xs : List A) (at : ℕ) (value : A) (count : ℕ) → at + count ≤ length xs
    → filled_by_one xs at value count ≡ overwritten xs at (replicate count value)
fill_is_whole xs at value zero h = nothing xs at
fill_is_whole xs at value (suc count) h =
    let size = length-overwritten xs at (value ∷ []) (omega arith) in
    fill_is_whole (overwritten xs at (value ∷ [])) (at + 1) value count (omega (arith, size))
    ∙ join xs at (at + 1) (value ∷ []) (replicate count value) refl (omega arith)

-- one item and the rest are one more
one_more : {A : Type 0} (xs : List A) (from count : ℕ) → from + suc count ≤ length xs → range_of xs from 1 ++ range_of xs (from + 1) count ≡ range_of xs from (suc count)
one_more xs from count h =
    let more : 1 + count ≡ suc count = omega arith in
    range_more xs from 1 count (omega arith) ∙ ap (λ n. range_of xs from n) more

one_behind : {A : Type 0} (xs : List A) (from count : ℕ) → from + suc count ≤ length xs → range_of xs from count ++ range_of xs (from + count) 1 ≡ range_of xs from (suc count)
one_behind xs from count h =
    let more : count + 1 ≡ suc count = omega arith in
    range_more xs from count 1 (omega arith) ∙ ap (λ n. range_of xs from n) more

pub copy_is_whole : {A : Type 0} (source xs : List A) (to from count : ℕ) → to + count ≤ length xs → from + count ≤ length source
    → copied_by_one source xs to from count ≡ overwritten xs to (range_of source from count)
copy_is_whole source xs to from zero h s = nothing xs to
copy_is_whole {A = A} source xs to from (suc count) h s =
    let one = length-range source from 1 (omega arith) in
    let size = length-overwritten xs to (range_of source from 1) (omega (arith, one)) in
    copy_is_whole source (overwritten xs to (range_of source from 1)) (to + 1) (from + 1) count (omega (arith, size)) (omega arith)
    ∙ join xs to (to + 1) (range_of source from 1) (range_of source (from + 1) count) (ap (λ n. to + n) (sym one)) (omega arith)
    ∙ ap (λ (ys : List A). overwritten xs to ys) (one_more source from count s)

move_up : {A : Type 0} (xs : List A) (to from count : ℕ) → to ≤ from → from + count ≤ length xs → moved_by_one xs to from count ≡ overwritten xs to (range_of xs from count)
move_up xs to from zero order h = nothing xs to
move_up {A = A} xs to from (suc count) order h =
    let front : nat_le to from ≡ true = grind (arith, nat_tests) in
    let one = length-range xs from 1 (omega arith) in
    let size = length-overwritten xs to (range_of xs from 1) (omega (arith, one)) in
    rw front
    (move_up (overwritten xs to (range_of xs from 1)) (to + 1) (from + 1) count (omega arith) (omega (arith, size))
    ∙ ap (λ (ys : List A). overwritten (overwritten xs to (range_of xs from 1)) (to + 1) ys)
    (range_apart xs to (range_of xs from 1) (from + 1) count (omega (arith, one)) (omega arith) (inr (omega (arith, one))))
    ∙ join xs to (to + 1) (range_of xs from 1) (range_of xs (from + 1) count) (ap (λ n. to + n) (sym one)) (omega arith)
    ∙ ap (λ (ys : List A). overwritten xs to ys) (one_more xs from count h))

move_down : {A : Type 0} (xs : List A) (to from count : ℕ) → from < to → to + count ≤ length xs → moved_by_one xs to from count ≡ overwritten xs to (range_of xs from count)
move_down xs to from zero order h = nothing xs to
move_down {A = A} xs to from (suc count) order h =
    let back : nat_le to from ≡ false = grind (arith, nat_tests) in
    let one = length-range xs (from + count) 1 (omega arith) in
    let rest = length-range xs from count (omega arith) in
    let size = length-overwritten xs (to + count) (range_of xs (from + count) 1) (omega (arith, one)) in
    rw back
    (move_down (overwritten xs (to + count) (range_of xs (from + count) 1)) to from count order (omega (arith, size))
    ∙ ap (λ (ys : List A). overwritten (overwritten xs (to + count) (range_of xs (from + count) 1)) to ys)
    (range_apart xs (to + count) (range_of xs (from + count) 1) from count (omega (arith, one)) (omega arith) (inl (omega arith)))
    ∙ join_back xs to (to + count) (range_of xs from count) (range_of xs (from + count) 1) (ap (λ n. to + n) (sym rest)) (omega (arith, one))
    ∙ ap (λ (ys : List A). overwritten xs to ys) (one_behind xs from count (omega arith)))

pub move_is_whole : {A : Type 0} (xs : List A) (to from count : ℕ) → to + count ≤ length xs → from + count ≤ length xs
    → moved_by_one xs to from count ≡ overwritten xs to (range_of xs from count)
move_is_whole xs to from count h s = ⊎_elim (λ down. move_down xs to from count down h) (λ up. move_up xs to from count up s) (cases_lt from to)

-- ---- the same of bytes, in the words of wz_linear

pub written_is : (xs : List ℕ) (at : ℕ) (new : List ℕ) → overwritten xs at new ≡ written xs at new
unfolding written
written_is xs at new = sym (append_assoc (take at xs) new (drop (at + length new) xs))

pub part_is : (xs : List ℕ) (from count : ℕ) → range_of xs from count ≡ part xs from count
unfolding part
part_is xs from count = refl

pub fill_of_bytes : FillsBytesByOne
fill_of_bytes memory at byte count h = fill_is_whole memory at byte count h ∙ written_is memory at (replicate count byte)

pub copy_of_bytes : CopiesBytesByOne
copy_of_bytes source memory to from count h s =
    copy_is_whole source memory to from count h s ∙ written_is memory to (range_of source from count) ∙ ap (λ (bytes : List ℕ). written memory to bytes) (part_is source from
    count)

pub move_of_bytes : MovesBytesByOne
move_of_bytes memory to from count h s =
    move_is_whole memory to from count h s ∙ written_is memory to (range_of memory from count) ∙ ap (λ (bytes : List ℕ). written memory to bytes) (part_is memory from count)
