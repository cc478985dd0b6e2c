-- Reads after writes, by place and by range.
use Rattle.std.proofs.Common.{ℕ, ◌+◌, ◌-◌, ◌<◌, ◌≤◌, ◌≡◌, ◌⊎◌, List, ◌++◌, length, take, get_or, refl, sym, ◌∙◌, ap, inl, inr, ⊎_elim, add-zero, min, arith, rules}
use Rattle.std.proofs.lemmas.List.{places, same_lists, take-replicate, drop-replicate, take_all, length-append, length-take, length-drop, get_or_append_left}
use Rattle.std.proofs.lemmas.List.Edits.{paste-paste}
use Rattle.std.proofs.lemmas.Bool.{cases_lt}
use Rattle.std.proofs.Math.Seq.{paste}
use Rattle.wz_linear.specs.Bytes.{IsWithin, part, written}
use Rattle.wz_linear.specs.Laws.{AreApart, ReadsWhatWasWritten, ReadsAllWritten, ReadsWhatStoodApart, HoldsWhatWasWritten, HoldsWhatStoodApart, WritesJoin, WritesReplace, WritesSwap, WriteOfSame, GrowthKeepsRanges, RangeOfEqualBytes}

pub length-written : (memory : List ℕ) (at : ℕ) (bytes : List ℕ) → IsWithin memory at (length bytes) → length (written memory at bytes) ≡ length memory
unfolding written
length-written memory at bytes h = simp (length-append, length-take, length-drop) (omega arith)

pub length-part : (memory : List ℕ) (at count : ℕ) → IsWithin memory at count → length (part memory at count) ≡ count
unfolding part
length-part memory at count h = simp (length-take, length-drop) (omega arith)

pub get_or-part : (memory : List ℕ) (at count place d : ℕ) → place < count → get_or (part memory at count) place d ≡ get_or memory (at + place) d
unfolding part
get_or-part memory at count place d h = search (rules, places)

pub get_or-written_below : (memory : List ℕ) (at : ℕ) (bytes : List ℕ) (place d : ℕ)
    → IsWithin memory at (length bytes) → place < at → get_or (written memory at bytes) place d ≡ get_or memory place d
unfolding written
get_or-written_below memory at bytes place d h low = search (rules, places)

pub get_or-written_above : (memory : List ℕ) (at : ℕ) (bytes : List ℕ) (place d : ℕ)
    → IsWithin memory at (length bytes) → at + length bytes ≤ place → get_or (written memory at bytes) place d ≡ get_or memory place d
unfolding written
get_or-written_above memory at bytes place d h high = search (rules, places)

pub get_or-written_inside : (memory : List ℕ) (at : ℕ) (bytes : List ℕ) (place d : ℕ)
    → IsWithin memory at (length bytes) → at ≤ place → place < at + length bytes → get_or (written memory at bytes) place d ≡ get_or bytes (place - at) d
unfolding written
get_or-written_inside memory at bytes place d h low high = search (rules, places)

-- a place is below a range, in it or above it
pub by_range : {P : Type 0} (place at size : ℕ) → (place < at → P) → (at ≤ place → place < at + size → P) → (at + size ≤ place → P) → P
by_range place at size below inside above =
    ⊎_elim below (λ low. ⊎_elim (λ high. inside low high) above (cases_lt place (at + size))) (cases_lt place at)

-- a list is what was written where it agrees with it on each of the three
pub written_by_place : (memory : List ℕ) (at : ℕ) (bytes xs : List ℕ) → IsWithin memory at (length bytes) → length xs ≡ length memory
    → ((k d : ℕ) → k < at → get_or xs k d ≡ get_or memory k d)
    → ((k d : ℕ) → at ≤ k → k < at + length bytes → get_or xs k d ≡ get_or bytes (k - at) d)
    → ((k d : ℕ) → at + length bytes ≤ k → get_or xs k d ≡ get_or memory k d)
    → written memory at bytes ≡ xs
written_by_place memory at bytes xs within size below inside above =
    same_lists _ _ (length-written memory at bytes within ∙ sym size)
    (λ k d h. by_range k at (length bytes)
    (λ low. get_or-written_below memory at bytes k d within low ∙ sym (below k d low))
    (λ low high. get_or-written_inside memory at bytes k d within low high ∙ sym (inside k d low high))
    (λ high. get_or-written_above memory at bytes k d within high ∙ sym (above k d high)))

-- one write into two memories that agree at a place leaves them so
written_alike : (memory other : List ℕ) (at : ℕ) (bytes : List ℕ) (k d : ℕ) → IsWithin memory at (length bytes) → IsWithin other at (length bytes)
    → get_or memory k d ≡ get_or other k d → get_or (written memory at bytes) k d ≡ get_or (written other at bytes) k d
written_alike memory other at bytes k d within too same = by_range k at (length bytes)
    (λ low. get_or-written_below memory at bytes k d within low ∙ same ∙ sym (get_or-written_below other at bytes k d too low))
    (λ low high. get_or-written_inside memory at bytes k d within low high ∙ sym (get_or-written_inside other at bytes k d too low high))
    (λ high. get_or-written_above memory at bytes k d within high ∙ same ∙ sym (get_or-written_above other at bytes k d too high))

-- apart from the range, a place holds what it held
pub get_or-written_apart : (memory : List ℕ) (at : ℕ) (bytes : List ℕ) (k d : ℕ)
    → IsWithin memory at (length bytes) → (k < at) ⊎ (at + length bytes ≤ k) → get_or (written memory at bytes) k d ≡ get_or memory k d
get_or-written_apart memory at bytes k d within apart =
    ⊎_elim (λ low. get_or-written_below memory at bytes k d within low) (λ high. get_or-written_above memory at bytes k d within high) apart

-- the laws, by ranges
pub reads_what_was_written : ReadsWhatWasWritten
reads_what_was_written memory at bytes skip count within inside =
    let whole = length-written memory at bytes within in
    same_lists _ _ (length-part (written memory at bytes) (at + skip) count (omega arith) ∙ sym (length-part bytes skip count inside))
    (λ k d h.
    let small : k < count = omega (arith, length-part (written memory at bytes) (at + skip) count (omega arith)) in
    let place : at + skip + k - at ≡ skip + k = omega arith in
    get_or-part (written memory at bytes) (at + skip) count k d small
    ∙ get_or-written_inside memory at bytes (at + skip + k) d within (omega arith) (omega arith)
    ∙ ap (λ n. get_or bytes n d) place
    ∙ sym (get_or-part bytes skip count k d small))

pub part_all : (bytes : List ℕ) → part bytes 0 (length bytes) ≡ bytes
unfolding part
part_all bytes = take_all (length bytes) bytes (omega arith)

pub reads_all_written : ReadsAllWritten
reads_all_written memory at bytes within =
    ap (λ n. part (written memory at bytes) n (length bytes)) (sym (add-zero at))
    ∙ reads_what_was_written memory at bytes 0 (length bytes) within (omega arith)
    ∙ part_all bytes

-- so many bytes, or as many as are left
length-part_min : (memory : List ℕ) (at count : ℕ) → length (part memory at count) ≡ min count (length memory - at)
unfolding part
length-part_min memory at count = simp (length-take, length-drop)

place_apart : (at size from count k : ℕ) → AreApart at size from count → k < count → (from + k < at) ⊎ (at + size ≤ from + k)
place_apart at size from count k apart h = ⊎_elim (λ low. inl (omega arith)) (λ high. inr (omega arith)) apart

pub reads_what_stood_apart : ReadsWhatStoodApart
reads_what_stood_apart memory at bytes from count within apart =
    let size : length (part (written memory at bytes) from count) ≡ length (part memory from count) =
    length-part_min (written memory at bytes) from count
    ∙ ap (λ n. min count (n - from)) (length-written memory at bytes within)
    ∙ sym (length-part_min memory from count) in
    same_lists _ _ size
    (λ k d h.
    let small : k < count = omega (arith, length-part_min (written memory at bytes) from count) in
    get_or-part (written memory at bytes) from count k d small
    ∙ get_or-written_apart memory at bytes (from + k) d within (place_apart at (length bytes) from count k apart small)
    ∙ sym (get_or-part memory from count k d small))

pub holds_what_was_written : HoldsWhatWasWritten
holds_what_was_written memory at bytes place within low high = get_or-written_inside memory at bytes place 0 within low high

pub holds_what_stood_apart : HoldsWhatStoodApart
holds_what_stood_apart memory at bytes place within apart =
    get_or-written_apart memory at bytes place 0 within apart

written_is : (memory : List ℕ) (at : ℕ) (bytes : List ℕ) (n : ℕ) → n ≡ length bytes → written memory at bytes ≡ paste memory at bytes n
unfolding written
written_is memory at bytes n e = rw (e, take_all (length bytes) bytes (omega arith))

pub writes_join : WritesJoin
writes_join memory at first second within =
    written_is (written memory at first) (at + length first) second (length second) refl
    ∙ ap (λ m. paste m (at + length first) second (length second)) (written_is memory at first (length first) refl)
    ∙ paste-paste memory at first second (length first) (length second) refl refl (omega arith)
    ∙ sym (written_is memory at (first ++ second) (length first + length second) (sym (length-append first second)))

pub writes_replace : WritesReplace
writes_replace memory at first second within same =
    let whole = length-written memory at first within in
    let too = length-written memory at second (omega arith) in
    written_by_place (written memory at first) at second (written memory at second) (omega arith) (too ∙ sym whole)
    (λ k d low. get_or-written_below memory at second k d (omega arith) low ∙ sym (get_or-written_below memory at first k d within low))
    (λ k d low high. get_or-written_inside memory at second k d (omega arith) low high)
    (λ k d high. get_or-written_above memory at second k d (omega arith) high ∙ sym (get_or-written_above memory at first k d within (omega arith)))

pub writes_swap : WritesSwap
writes_swap memory at first other second inside too apart =
    let one = length-written memory at first inside in
    let two = length-written memory other second too in
    let both = length-written (written memory other second) at first (omega arith) in
    written_by_place (written memory at first) other second (written (written memory other second) at first) (omega arith) (both ∙ two ∙ sym one)
    (λ k d low. written_alike (written memory other second) memory at first k d (omega arith) inside (get_or-written_below memory other second k d too low))
    (λ k d low high.
    get_or-written_apart (written memory other second) at first k d (omega arith) (⊎_elim (λ down. inl (omega arith)) (λ up. inr (omega arith)) apart)
    ∙ get_or-written_inside memory other second k d too low high)
    (λ k d high. written_alike (written memory other second) memory at first k d (omega arith) inside (get_or-written_above memory other second k d too high))

pub write_of_same : WriteOfSame
write_of_same memory at count within =
    let size = length-part memory at count within in
    written_by_place memory at (part memory at count) memory (omega arith) refl
    (λ k d low. refl)
    (λ k d low high.
    let place : at + (k - at) ≡ k = omega arith in
    ap (λ n. get_or memory n d) (sym place) ∙ sym (get_or-part memory at count (k - at) d (omega arith)))
    (λ k d high. refl)

pub growth_keeps_ranges : GrowthKeepsRanges
growth_keeps_ranges memory more at count within =
    let size = length-part memory at count within in
    let too = length-part (memory ++ more) at count (omega (arith, length-append memory more)) in
    same_lists _ _ (too ∙ sym size)
    (λ k d h.
    get_or-part (memory ++ more) at count k d (omega arith)
    ∙ get_or_append_left memory more d (at + k) (omega arith)
    ∙ sym (get_or-part memory at count k d (omega arith)))

pub range_of_equal_bytes : RangeOfEqualBytes
unfolding part
range_of_equal_bytes size byte at count within =
    ap (take count) (drop-replicate at size byte) ∙ take-replicate count (size - at) byte (omega arith)
