-- What appends say of each other.
use Rattle.std.proofs.Common.{◌≡◌, ℕ, ◌+◌, ◌<◌, ◌≤◌, List, [], ◌∷◌, ◌++◌, length, take, drop, get_or, false, refl, sym, ap, ◌∙◌, append_assoc, arith, inl, inr}
use Rattle.std.specs.Prelude.{◌==◌, Result, Ok, Err, is_ok, OnErr}
use Rattle.std.specs.List.{zip, flat_map}
use Rattle.std.specs.List.Sorted.{IsNonDecreasing, IsBinarySearchResult}
use Rattle.std.specs.Ordering.{nat_cmp}
use Rattle.std.proofs.lemmas.Bool.{cases_lt, eq-eqb, ne_eqb}
use Rattle.std.proofs.lemmas.List.{take-append-drop, take_at, take_more, map-append, append-nil, length-map, length-take, flat_map_more, take_all}
use Rattle.std.proofs.lemmas.List.Elements.{All-from_get_or}
use Rattle.std.proofs.lemmas.List.Folds.{list_any_at, list_any_none}
use Rattle.std.proofs.lemmas.List.Sorted.{searched}
use Rattle.std.proofs.lemmas.Slice.Zip.{length-zip, get_or-zip}
use Rattle.wz_bytes.specs.Shortest.{shortest_unsigned}
use Rattle.wz_types.specs.declared.types.GlobalType.{GlobalType}
use Rattle.wz_types.specs.declared.value.Value.{Value}
use Rattle.wz_module.specs.declared.items.Span.{Span}
use Rattle.wz_encode.specs.Globals.{global_text, globals_text}
use Rattle.wz_encode.specs.Elements.{covered_by, all_covered, is_dropped, segment_text, kept_segments_text}

-- what kept a longer front kept a shorter one
pub front_kept : (a x b c : List ℕ) → b ≡ a ++ x → take (length b) c ≡ b → take (length a) c ≡ a
front_kept a x b c e h =
    let rest = drop (length b) c in
    let whole : c ≡ a ++ (x ++ rest) = sym (take-append-drop (length b) c) ∙ ap (λ (t : List ℕ). t ++ rest) (h ∙ e) ∙ append_assoc a x rest in
    ap (λ (t : List ℕ). take (length a) t) whole ∙ take_at a (x ++ rest) (length a) refl

-- the same, said of a result that is an error: where a piece was appended, and where two were
pub front_kept_in_loop : {A E : Type 0} (r : Result A E) (a x b c : List ℕ) → b ≡ a ++ x → take (length b) c ≡ b → OnErr r (take (length a) c ≡ a)
front_kept_in_loop (Ok v) a x b c e h = tt
front_kept_in_loop (Err v) a x b c e h = front_kept a x b c e h

pub front_kept_on_err : {A E : Type 0} (r : Result A E) (a x b y c d : List ℕ) → b ≡ a ++ x → c ≡ b ++ y → OnErr r (take (length c) d ≡ c) → OnErr r (take (length a) d ≡ a)
front_kept_on_err (Ok v) a x b y c d e f h = tt
front_kept_on_err (Err v) a x b y c d e f h = front_kept a (x ++ y) c d (f ∙ ap (λ (t : List ℕ). t ++ y) e ∙ append_assoc a x y) h

-- what a search in numbers that rise says
pub found_if_there : (xs : List ℕ) (x : ℕ) (r : Result ℕ ℕ) → IsBinarySearchResult (λ y. nat_cmp y x) xs r → IsNonDecreasing xs → is_ok r ≡ is_dropped xs x
found_if_there xs x (Ok i) h rises =
    let found = searched xs x (Ok i) h (λ a b low high. rises a b 0 low high) in
    sym (list_any_at (λ other. other == x) xs i 0 found.0 (eq-eqb (get_or xs i 0) x found.1))
found_if_there xs x (Err i) h rises =
    let absent = searched xs x (Err i) h (λ a b low high. rises a b 0 low high) in
    sym (list_any_none (λ other. other == x) xs (All-from_get_or (λ other. (other == x) ≡ false) xs 0 (λ k inside. elim (cases_lt k i) [
      | inl low ↦ let l = absent.1 k low in ne_eqb (get_or xs k 0) x (λ e. omega (arith, e, l))
      | inr high ↦ let l = absent.2 k high inside in ne_eqb (get_or xs k 0) x (λ e. omega (arith, e, l))
    ])))

-- one segment more was written
kept-append : (dropped : List ℕ) (number : ℕ) (segments : List (List ℕ)) (segment : List ℕ)
    → kept_segments_text dropped number (segments ++ segment ∷ [])
    ≡ kept_segments_text dropped number segments ++ segment_text (is_dropped dropped (number + length segments)) segment
kept-append dropped number [] segment = append-nil _ ∙ ap (λ (n : ℕ). segment_text (is_dropped dropped n) segment) (let e : number ≡ number + 0 = omega arith in e)
kept-append dropped number (first ∷ segments) segment =
    let shift : number + 1 + length segments ≡ number + length (first ∷ segments) = omega arith in
    ap (λ (t : List ℕ). segment_text (is_dropped dropped number) first ++ t)
    (kept-append dropped (number + 1) segments segment ∙ ap (λ (n : ℕ). kept_segments_text dropped (number + 1) segments ++ segment_text (is_dropped dropped n) segment) shift)
    ∙ sym (append_assoc (segment_text (is_dropped dropped number) first) _ _)

pub one_segment_more : (dropped payload before out after : List ℕ) (spans : List Span) (i : ℕ) (d : Span) → i < length spans
    → out ≡ before ++ kept_segments_text dropped 0 (all_covered payload (take i spans))
    → after ≡ out ++ segment_text (is_dropped dropped i) (covered_by payload (get_or spans i d))
    → after ≡ before ++ kept_segments_text dropped 0 (all_covered payload (take (i + 1) spans))
one_segment_more dropped payload before out after spans i d inside h k =
    let front = all_covered payload (take i spans) in
    let segment = covered_by payload (get_or spans i d) in
    let more : all_covered payload (take (i + 1) spans) ≡ front ++ segment ∷ [] =
    ap (λ (xs : List Span). all_covered payload xs) (take_more spans i d inside) ∙ map-append (λ span. covered_by payload span) (take i spans) (get_or spans i d ∷ []) in
    let many : 0 + length front ≡ i = let l = length-map (take i spans) (λ span. covered_by payload span) in let t = length-take i spans in omega (arith, l, t, inside) in
    k ∙ ap (λ (t : List ℕ). t ++ segment_text (is_dropped dropped i) segment) h ∙ append_assoc before _ _
    ∙ ap (λ (t : List ℕ). before ++ t)
    (sym (ap (λ (xs : List (List ℕ)). kept_segments_text dropped 0 xs) more ∙ kept-append dropped 0 front segment
    ∙ ap (λ (n : ℕ). kept_segments_text dropped 0 front ++ segment_text (is_dropped dropped n) segment) many))

-- one global more was written
pub one_global_more : (kinds : List GlobalType) (values : List Value) (i : ℕ) (before out after : List ℕ) (d : GlobalType) (e : Value) → i < length kinds
    → length kinds ≡ length values
    → out ≡ before ++ flat_map global_text (take i (zip kinds values)) → after ≡ out ++ global_text (get_or kinds i d, get_or values i e)
    → after ≡ before ++ flat_map global_text (take (i + 1) (zip kinds values))
one_global_more kinds values i before out after d e inside same h k =
    let there : i < length values = omega (arith, inside, same) in
    let many : i < length (zip kinds values) = let l = length-zip kinds values in omega (arith, l, inside, there) in
    let more : take (i + 1) (zip kinds values) ≡ take i (zip kinds values) ++ (get_or kinds i d, get_or values i e) ∷ [] =
    take_more (zip kinds values) i (d, e) many ∙ ap (λ (g : GlobalType × Value). take i (zip kinds values) ++ g ∷ []) (get_or-zip kinds values i (d, e) inside there) in
    k ∙ ap (λ (t : List ℕ). t ++ global_text (get_or kinds i d, get_or values i e)) h
    ∙ flat_map_more global_text before (take i (zip kinds values)) (get_or kinds i d, get_or values i e)
    ∙ ap (λ (gs : List (GlobalType × Value)). before ++ flat_map global_text gs) (sym more)

-- all globals were written
pub all_globals : (kinds : List GlobalType) (values : List Value) (at : ℕ) (before out : List ℕ) → length kinds ≤ at → length kinds ≡ length values
    → out ≡ before ++ (shortest_unsigned (length kinds) ++ flat_map global_text (take at (zip kinds values))) → out ≡ before ++ globals_text kinds values
all_globals kinds values at before out behind same h =
    let many : length kinds ≡ length (zip kinds values) = let l = length-zip kinds values in omega (arith, l, same) in
    let all : take at (zip kinds values) ≡ zip kinds values = take_all at (zip kinds values) (omega (arith, many, behind)) in
    h ∙ ap (λ (gs : List (GlobalType × Value)). before ++ (shortest_unsigned (length kinds) ++ flat_map global_text gs)) all
    ∙ ap (λ (n : ℕ). before ++ (shortest_unsigned n ++ flat_map global_text (zip kinds values))) many
