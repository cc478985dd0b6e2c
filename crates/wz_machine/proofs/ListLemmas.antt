-- Ends of lists, forwards and backwards.
use Rattle.std.proofs.Common.{◌≡◌, ◌≤◌, ℕ, ◌+◌, ◌-◌, List, ◌++◌, length, take, drop, reverse, ap, sym, ◌∙◌, arith}
use Rattle.std.proofs.lemmas.List.{drop-take, take-append-drop, length-take-le, length-drop, length-reverse, reverse-append, reverse-reverse, drop-drop}
use Rattle.std.proofs.Math.Seq.{take-append_seam, drop-append_seam}

-- the two parts of a list, backwards
backwards : {A : Type 0} (n : ℕ) (xs : List A) → reverse xs ≡ reverse (drop n xs) ++ reverse (take n xs)
backwards n xs = ap (λ zs. reverse zs) (sym (take-append-drop n xs)) ∙ reverse-append (take n xs) (drop n xs)

back-length : {A : Type 0} (n : ℕ) (xs : List A) → n ≤ length xs → length (reverse (drop (length xs - n) xs)) ≡ n
back-length n xs le = length-reverse (drop (length xs - n) xs) ∙ length-drop (length xs - n) xs ∙ omega (arith, le)

-- the first of a list backwards are its last, and the others those before
pub take-back : {A : Type 0} (n : ℕ) (xs : List A) → n ≤ length xs → take n (reverse xs) ≡ reverse (drop (length xs - n) xs)
take-back n xs le =
    let k : ℕ = length xs - n in
    let last = reverse (drop k xs) in
    ap (λ zs. take n zs) (backwards k xs) ∙ ap (λ m. take m (last ++ reverse (take k xs))) (sym (back-length n xs le)) ∙ take-append_seam last (reverse (take k xs))

pub drop-back : {A : Type 0} (n : ℕ) (xs : List A) → n ≤ length xs → drop n (reverse xs) ≡ reverse (take (length xs - n) xs)
drop-back n xs le =
    let k : ℕ = length xs - n in
    let last = reverse (drop k xs) in
    ap (λ zs. drop n zs) (backwards k xs) ∙ ap (λ m. drop m (last ++ reverse (take k xs))) (sym (back-length n xs le)) ∙ drop-append_seam last (reverse (take k xs))

-- ---- of what stands from a height on

pub take-own : {A : Type 0} (n height : ℕ) (xs : List A) → height + n ≤ length xs → take n (reverse (drop height xs)) ≡ reverse (drop (length xs - n) xs)
take-own n height xs le =
    let len : length (drop height xs) ≡ length xs - height = length-drop height xs in
    let fits : n ≤ length (drop height xs) = omega (arith, le, len) in
    let at : height + (length (drop height xs) - n) ≡ length xs - n = omega (arith, le, len) in
    take-back n (drop height xs) fits ∙ ap (λ zs. reverse zs) (drop-drop (length (drop height xs) - n) height xs ∙ ap (λ m. drop m xs) at)

pub drop-own : {A : Type 0} (n height : ℕ) (xs : List A) → height + n ≤ length xs → drop n (reverse (drop height xs)) ≡ reverse (drop height (take (length xs - n) xs))
drop-own n height xs le =
    let len : length (drop height xs) ≡ length xs - height = length-drop height xs in
    let fits : n ≤ length (drop height xs) = omega (arith, le, len) in
    let at : height + (length (drop height xs) - n) ≡ length xs - n = omega (arith, le, len) in
    drop-back n (drop height xs) fits
    ∙ ap (λ zs. reverse zs) (sym (drop-take height (length (drop height xs) - n) xs) ∙ ap (λ m. drop height (take m xs)) at)

-- The last `count` of the first `have`, taken backwards and turned round again.
pub last-own : {A : Type 0} (count have height : ℕ) (xs : List A) → have ≤ length xs → height + count ≤ have
    → reverse (take count (reverse (drop height (take have xs)))) ≡ take count (drop (have - count) xs)
last-own count have height xs within le =
    let ys = take have xs in
    let len : length ys ≡ have = length-take-le have xs within in
    let fits : height + count ≤ length ys = omega (arith, le, len) in
    let from : length ys - count ≡ have - count = ap (λ n. n - count) len in
    let whole : have ≡ (have - count) + count = omega (arith, le) in
    ap (λ zs. reverse zs) (take-own count height ys fits) ∙ reverse-reverse (drop (length ys - count) ys) ∙ ap (λ m. drop m ys) from
    ∙ ap (λ m. drop (have - count) (take m xs)) whole ∙ drop-take (have - count) count xs
