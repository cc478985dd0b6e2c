-- The segments of an element payload, and the numbers of those that were dropped.
use Rattle.std.proofs.Common.{◌≡◌, ℕ, zero, suc, ◌+◌, ◌-◌, ◌^◌, ◌<◌, ◌≤◌, Bool, List, [], ◌∷◌, ◌++◌, length, take, Option, Some, sym, ap, subst, ◌∙◌, refl, inl, inr, arith}
use Rattle.std.specs.List.{All, AllZip, concat}
use Rattle.std.specs.List.Sorted.{IsNonDecreasing}
use Rattle.std.proofs.lemmas.Bool.{cases_Bool}
use Rattle.std.proofs.lemmas.List.{length-append, take_at}
use Rattle.std.proofs.lemmas.List.Elements.{All-nil, All-cons, All-weaker}
use Rattle.wz_bytes.specs.Forms.{AreItems}
use Rattle.wz_bytes.proofs.UnsignedLaws.{unsigned_exact, unsigned_below}
use Rattle.wz_module.specs.Elements.{Elem}
use Rattle.wz_module.specs.declared.items.Span.{Span}
use Rattle.wz_decode_sections.specs.ElementSection.{IsElem, IsElementSection}
use Rattle.wz_decode_sections.specs.Spans.{AreSpans, HasSpans}
use Rattle.wz_decode_sections.proofs.SegmentLaws.{elem_exact}
use Rattle.wz_encode.specs.Elements.{all_covered, elements_by_spans, elements_text}
use Rattle.wz_encode.specs.Laws.{AreSegmentsOf}
use Rattle.wz_encode.proofs.ElementsWritten.{spans_cover_segments}
use Rattle.wz_rewrite.specs.Segments.{front_before, segments_with, segments_at, segments_behind, segments_of}
use Rattle.wz_rewrite.specs.Dropped.{is_empty_at, was_dropped, dropped_from}

-- ---- the split

front_of : (front rest : List ℕ) → front_before (front ++ rest) rest ≡ front
front_of front rest =
    let size : length (front ++ rest) - length rest ≡ length front = let l = length-append front rest in omega (arith, l) in
    ap (λ (n : ℕ). take n (front ++ rest)) size ∙ take_at front rest (length front) refl

segments_split : (segments : List (List ℕ)) (elements : List Elem) → AllZip (λ text elem. IsElem text elem) segments elements
    → segments_at (length elements) (concat segments) ≡ segments
unfolding segments_at
segments_split [] [] h = refl
segments_split [] (e ∷ elements) h = absurd h
segments_split (segment ∷ segments) [] h = absurd h
segments_split (segment ∷ segments) (e ∷ elements) h =
    let rest = concat segments in
    let read = elem_exact.again segment e rest h.0 in
    let more = segments_split segments elements h.1 in
    ap (λ (o : Option (Elem × List ℕ)). segments_with (segment ++ rest) o (λ left. segments_at (length elements) left)) read
    ∙ ap (λ (t : List ℕ). t ∷ segments_at (length elements) rest) (front_of segment rest)
    ∙ ap (λ (ts : List (List ℕ)). segment ∷ ts) more

pub segments_are : (payload : List ℕ) (segments : List (List ℕ)) (elements : List Elem) → AreSegmentsOf payload segments elements → segments_of payload ≡ segments
segments_are payload segments elements h =
    ap (λ (t : List ℕ). segments_of t) h.parts
    ∙ ap (λ (o : Option (ℕ × List ℕ)). segments_behind o) ((unsigned_exact 32).again h.count (length elements) (concat segments) h.many)
    ∙ segments_split segments elements h.each

-- spans cover the segments
pub spans_split : (payload : List ℕ) (elements : List Elem) (spans : List Span) → HasSpans payload elements spans → all_covered payload spans ≡ segments_of payload
spans_split payload elements spans h = sym (segments_are payload (all_covered payload spans) elements (spans_cover_segments payload elements spans h))

-- a payload that spells segments is split into them
items_split : (text : List ℕ) (elements : List Elem) → AreItems (λ t x. IsElem t x) text elements
    → (segments : List (List ℕ)) × (text ≡ concat segments) × AllZip (λ t x. IsElem t x) segments elements
items_split text [] h = ([], h, tt)
items_split text (e ∷ elements) h =
    let more = items_split h.1 elements h.4 in
    (h.0 ∷ more.0, h.2 ∙ ap (λ (t : List ℕ). h.0 ++ t) more.1, (h.3, more.2))

pub payload_split : (payload : List ℕ) (elements : List Elem) → IsElementSection payload elements → AreSegmentsOf payload (segments_of payload) elements
payload_split payload elements h =
    let parts = items_split h.1 elements h.4 in
    let is : AreSegmentsOf payload parts.0 elements = record { count = h.0; parts = h.2 ∙ ap (λ (t : List ℕ). h.0 ++ t) parts.1; many = h.3; each = parts.2 } in
    subst (λ (ss : List (List ℕ)). AreSegmentsOf payload ss elements) (sym (segments_are payload parts.0 elements is)) is

-- as many spans as segments
pub one_span_each : (at : ℕ) (text : List ℕ) (elements : List Elem) (spans : List Span) → AreSpans at text elements spans → length spans ≡ length elements
one_span_each at text [] [] h = refl
one_span_each at text [] (span ∷ spans) h = absurd h
one_span_each at text (e ∷ elements) [] h = absurd h
one_span_each at text (e ∷ elements) (span ∷ spans) h = ap (λ (n : ℕ). suc n) (one_span_each (at + length h.0) h.1 elements spans h.5)

-- what is written by spans is written by the split
pub renewed_by_spans : (payload : List ℕ) (elements : List Elem) (spans given : List Span) (dropped numbers functions others before bytes : List ℕ)
    → HasSpans payload elements given → spans ≡ given → dropped ≡ numbers → functions ≡ others → before ≡ []
    → bytes ≡ before ++ elements_by_spans (Some payload) spans dropped functions → bytes ≡ elements_text (Some payload) (segments_of payload) numbers others
renewed_by_spans payload elements spans given dropped numbers functions others before bytes has same_spans same_numbers same_functions empty is =
    is
    ∙ ap (λ (t : List ℕ). t ++ elements_by_spans (Some payload) spans dropped functions) empty
    ∙ ap (λ (ss : List Span). elements_by_spans (Some payload) ss dropped functions) same_spans
    ∙ ap (λ (ns : List ℕ). elements_by_spans (Some payload) given ns functions) same_numbers
    ∙ ap (λ (fs : List ℕ). elements_by_spans (Some payload) given numbers fs) same_functions
    ∙ ap (λ (ts : List (List ℕ)). elements_text (Some payload) ts numbers others) (spans_split payload elements given has)

pub few_spans : (payload : List ℕ) (elements : List Elem) (spans : List Span) → HasSpans payload elements spans → length spans < 2 ^ 32
few_spans payload elements spans h =
    let same = one_span_each (length h.count) h.segments elements spans h.each in
    let below = unsigned_below 32 h.count (length elements) h.many in
    omega (arith, same, below)

-- ---- numbers that rise

rises_none : IsNonDecreasing []
rises_none i j d ij inside = absurd (omega (arith, inside))

rises_before : (n : ℕ) (ns : List ℕ) → All (λ other. n ≤ other) ns → IsNonDecreasing ns → IsNonDecreasing (n ∷ ns)
rises_before n ns low h zero zero d ij inside = omega arith
rises_before n ns low h zero (suc j) d ij inside = low j d (omega (arith, inside))
rises_before n ns low h (suc i) zero d ij inside = absurd (omega (arith, ij))
rises_before n ns low h (suc i) (suc j) d ij inside = h i j d (omega (arith, ij)) (omega (arith, inside))

pub dropped_above : (marks : List Bool) (number : ℕ) (elements : List Elem) → All (λ other. number ≤ other) (dropped_from marks number elements)
dropped_above marks number [] = All-nil (λ other. number ≤ other)
dropped_above marks number (e ∷ elements) =
    let more = All-weaker (λ other. number + 1 ≤ other) (λ other. number ≤ other) (λ other h. omega (arith, h)) _ (dropped_above marks (number + 1) elements) in
    elim (cases_Bool (was_dropped e (is_empty_at marks number))) [
      | inl here ↦ rw here (All-cons (λ other. number ≤ other) number _ (omega arith) more)
      | inr other ↦ rw other more
    ]

pub dropped_rises : (marks : List Bool) (number : ℕ) (elements : List Elem) → IsNonDecreasing (dropped_from marks number elements)
dropped_rises marks number [] = rises_none
dropped_rises marks number (e ∷ elements) = elim (cases_Bool (was_dropped e (is_empty_at marks number))) [
  | inl here ↦
      let above = All-weaker (λ other. number + 1 ≤ other) (λ other. number ≤ other) (λ other h. omega (arith, h)) _ (dropped_above marks (number + 1) elements) in
      rw here (rises_before number (dropped_from marks (number + 1) elements) above (dropped_rises marks (number + 1) elements))
  | inr other ↦ rw other (dropped_rises marks (number + 1) elements)
]
