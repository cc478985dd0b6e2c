-- What is written of element segments spells what it is written for.
use Rattle.std.proofs.Common.{◌≡◌, ℕ, suc, ◌+◌, ◌-◌, ◌^◌, ◌<◌, ◌≤◌, List, [], ◌∷◌, ◌++◌, length, map, take, drop, Option, Some, Bool, true, false, refl, sym, ap, subst, ◌∙◌, append_assoc, arith, inl, inr, lit<}
use Rattle.std.specs.Prelude.{◌==◌, ◌&&◌, if◌then◌else◌, IsTrue}
use Rattle.std.specs.List.{All, AllZip, concat, flat_map}
use Rattle.std.proofs.lemmas.Bool.{cases_Bool, eqb-true}
use Rattle.std.proofs.lemmas.List.{append-nil, length-append, length-map, drop_at, take_at}
use Rattle.std.proofs.lemmas.List.Elements.{All-nil, All-cons, All-weaker}
use Rattle.wz_bytes.specs.Reading.{Form}
use Rattle.wz_bytes.specs.Unsigned.{IsUnsigned}
use Rattle.wz_bytes.specs.Shortest.{shortest_unsigned}
use Rattle.wz_bytes.specs.Forms.{AreItems}
use Rattle.wz_bytes.proofs.UnsignedLaws.{unsigned_exact}
use Rattle.wz_types.specs.declared.types.RefKind.TheVariants as kind
use Rattle.wz_module.specs.declared.items.Span.{Span}
use Rattle.wz_module.specs.Elements.{PassiveElem, Elem, function_reference}
use Rattle.wz_decode_code.specs.Instructions.{IsU32}
use Rattle.wz_decode_sections.specs.FunctionSection.{AreIndices}
use Rattle.wz_decode_sections.specs.ElementSection.{IsFunctionList, IsElem, IsElementSection}
use Rattle.wz_decode_sections.specs.Spans.{span_with, AreSpans}
use Rattle.wz_encode.specs.Vectors.{vector_text}
use Rattle.wz_encode.specs.Elements.{covered_by, all_covered, declarative_text, with_declarative_flag, is_dropped, segment_text, kept_segments_text, declaration_text, declarations, elements_anew, as_declarative, kept_elements, declaring, elements_with}
use Rattle.wz_encode.specs.Laws.{CanBeVector, CanBeIndex, DroppedArePassive, SpansLieWithin, SpansCoverSegments, DeclarationIsSpelled, ElementsAreSpelled}
use Rattle.wz_encode.proofs.WrittenLaws.{number_spelled, one_byte, list_spelled}

-- ---- spans

place_after : (front first : List ℕ) → length front + length first ≡ length (front ++ first)
place_after front first = sym (length-append front first)

within_from : (payload front text : List ℕ) (elements : List Elem) (spans : List Span) → payload ≡ front ++ text → AreSpans (length front) text elements spans
    → All (λ span. span.at + span.len ≤ length payload) spans
within_from payload front text [] [] parts h = All-nil (λ span. span.at + span.len ≤ length payload)
within_from payload front text [] (span ∷ spans) parts h = absurd h
within_from payload front text (elem ∷ elements) [] parts h = absurd h
within_from payload front text (elem ∷ elements) (span ∷ spans) parts h =
    let first = h.0 in
    let whole : payload ≡ (front ++ first) ++ h.1 = parts ∙ ap (λ (t : List ℕ). front ++ t) h.2 ∙ sym (append_assoc front first h.1) in
    let size : length payload ≡ length front + length first + length h.1 =
    ap (λ (t : List ℕ). length t) whole ∙ length-append (front ++ first) h.1 ∙ ap (λ (n : ℕ). n + length h.1) (length-append front first) in
    let ends : span.at + span.len ≡ length front + length first = ap (λ (s : Span). s.at + s.len) h.4.is in
    let more = within_from payload (front ++ first) h.1 elements spans whole (subst (λ (n : ℕ). AreSpans n h.1 elements spans) (place_after front first) h.5) in
    All-cons (λ span. span.at + span.len ≤ length payload) span spans (omega (arith, size, ends)) more

pub spans_lie_within : SpansLieWithin
spans_lie_within payload elements spans h = within_from payload h.count h.segments elements spans h.parts h.each

-- a span covers its segment
covered_is : (payload front first others : List ℕ) (span : Span) (head : ℕ) → payload ≡ front ++ (first ++ others)
    → span ≡ span_with (length front) head (length first) → covered_by payload span ≡ first
covered_is payload front first others span head parts is =
    let from : drop (length front) payload ≡ first ++ others = ap (λ (t : List ℕ). drop (length front) t) parts ∙ drop_at front (first ++ others) (length front) refl in
    let many : length front + length first - length front ≡ length first = omega arith in
    ap (λ (s : Span). covered_by payload s) is
    ∙ ap (λ (n : ℕ). take n (drop (length front) payload)) many
    ∙ ap (λ (t : List ℕ). take (length first) t) from
    ∙ take_at first others (length first) refl

covered_from : (payload front text : List ℕ) (elements : List Elem) (spans : List Span) → payload ≡ front ++ text → AreSpans (length front) text elements spans
    → (text ≡ concat (all_covered payload spans)) × AllZip (λ t x. IsElem t x) (all_covered payload spans) elements
covered_from payload front text [] [] parts h = (h, tt)
covered_from payload front text [] (span ∷ spans) parts h = absurd h
covered_from payload front text (elem ∷ elements) [] parts h = absurd h
covered_from payload front text (elem ∷ elements) (span ∷ spans) parts h =
    let first = h.0 in
    let here : payload ≡ front ++ (first ++ h.1) = parts ∙ ap (λ (t : List ℕ). front ++ t) h.2 in
    let covered : covered_by payload span ≡ first = covered_is payload front first h.1 span (length h.4.flag) here h.4.is in
    let spans_behind = subst (λ (n : ℕ). AreSpans n h.1 elements spans) (place_after front first) h.5 in
    let more = covered_from payload (front ++ first) h.1 elements spans (here ∙ sym (append_assoc front first h.1)) spans_behind in
    let others = concat (all_covered payload spans) in (
      h.2 ∙ ap (λ (t : List ℕ). first ++ t) more.0 ∙ ap (λ (t : List ℕ). t ++ others) (sym covered),
      (subst (λ (t : List ℕ). IsElem t elem) (sym covered) h.3, more.1),
    )

pub spans_cover_segments : SpansCoverSegments
spans_cover_segments payload elements spans h =
    let c = covered_from payload h.count h.segments elements spans h.parts h.each in
    record { count = h.count; parts = h.parts ∙ ap (λ (t : List ℕ). h.count ++ t) c.0; many = h.many; each = c.1 }

-- ---- a passive segment as a declarative one

read_flag : (first second : List ℕ) (flag : ℕ) → IsUnsigned 32 first flag → declarative_text (first ++ second) ≡ with_declarative_flag (Some (flag, second))
read_flag first second flag h = ap (λ (o : Option (ℕ × List ℕ)). with_declarative_flag o) ((unsigned_exact 32).again first flag second h)

declarative_spelled : (text : List ℕ) (elem : Elem) → IsElem text elem → elem.mode ≡ PassiveElem → IsElem (declarative_text text) (as_declarative elem)
declarative_spelled text elem (inl h) passive = let m = ap (λ (e : Elem). e.mode) h.4.2 in absurd cc
declarative_spelled text elem (inr (inl h)) passive =
    let e : declarative_text text ≡ 0x03 ∷ h.1 = ap (λ (t : List ℕ). declarative_text t) h.2 ∙ read_flag h.0 h.1 1 h.3 in
    rw e (inr (inr (inr (inl (0x03 ∷ [], h.1, refl, one_byte 3 (lit< tt), (h.4.0, h.4.1, ap (λ (e : Elem). as_declarative e) h.4.2))))))
declarative_spelled text elem (inr (inr (inl h))) passive = let m = ap (λ (e : Elem). e.mode) h.4.2 in absurd cc
declarative_spelled text elem (inr (inr (inr (inl h)))) passive = let m = ap (λ (e : Elem). e.mode) h.4.2 in absurd cc
declarative_spelled text elem (inr (inr (inr (inr (inl h))))) passive = let m = ap (λ (e : Elem). e.mode) h.4.2 in absurd cc
declarative_spelled text elem (inr (inr (inr (inr (inr (inl h)))))) passive =
    let e : declarative_text text ≡ 0x07 ∷ h.1 = ap (λ (t : List ℕ). declarative_text t) h.2 ∙ read_flag h.0 h.1 5 h.3 in
    rw e (inr (inr (inr (inr (inr (inr (inr (0x07 ∷ [], h.1, refl, one_byte 7 (lit< tt), (h.4.0, h.4.1, ap (λ (e : Elem). as_declarative e) h.4.2)))))))))
declarative_spelled text elem (inr (inr (inr (inr (inr (inr (inl h))))))) passive = let m = ap (λ (e : Elem). e.mode) h.4.2 in absurd cc
declarative_spelled text elem (inr (inr (inr (inr (inr (inr (inr h))))))) passive = let m = ap (λ (e : Elem). e.mode) h.4.2 in absurd cc

segment_spelled : (dropped : Bool) (text : List ℕ) (elem : Elem) → IsElem text elem → (IsTrue dropped → elem.mode ≡ PassiveElem)
    → IsElem (segment_text dropped text) (if dropped then as_declarative elem else elem)
segment_spelled true text elem h passive = declarative_spelled text elem h (passive refl)
segment_spelled false text elem h passive = h

kept_spelled : (dropped : List ℕ) (number : ℕ) (segments : List (List ℕ)) (elements : List Elem) → AllZip (λ t x. IsElem t x) segments elements
    → DroppedArePassive dropped number elements → AreItems (λ t x. IsElem t x) (kept_segments_text dropped number segments) (kept_elements dropped number elements)
kept_spelled dropped number [] [] h passive = refl
kept_spelled dropped number [] (elem ∷ elements) h passive = absurd h
kept_spelled dropped number (segment ∷ segments) [] h passive = absurd h
kept_spelled dropped number (segment ∷ segments) (elem ∷ elements) h passive =
    let one = segment_spelled (is_dropped dropped number) segment elem h.0 passive.0 in (
      segment_text (is_dropped dropped number) segment,
      kept_segments_text dropped (number + 1) segments,
      refl,
      one,
      kept_spelled dropped (number + 1) segments elements h.1 passive.1,
    )

-- ---- the one that declares functions

declaration_spelled : (functions : List ℕ) → CanBeVector CanBeIndex functions → IsElem (declaration_text functions) (declaring functions)
declaration_spelled functions can =
    let indices : AreIndices (vector_text shortest_unsigned functions) functions =
    list_spelled (λ t n. IsU32 t n) shortest_unsigned functions can.0 (All-weaker (λ n. n < 2 ^ 32) (λ n. IsU32 (shortest_unsigned n) n) number_spelled functions can.1) in
    let list : IsFunctionList (0x00 ∷ vector_text shortest_unsigned functions) (kind.Func, map function_reference functions) =
    (0x00 ∷ [], vector_text shortest_unsigned functions, refl, (refl, refl), (functions, indices, refl)) in
    inr (inr (inr (inl (0x03 ∷ [], 0x00 ∷ vector_text shortest_unsigned functions, refl, one_byte 3 (lit< tt), ((kind.Func, map function_reference functions), list, refl)))))

declarations_spelled : (functions : List ℕ) → CanBeVector CanBeIndex functions
    → AreItems (λ t x. IsElem t x) (flat_map declaration_text (declarations functions)) (map declaring (declarations functions))
declarations_spelled [] can = refl
declarations_spelled (f ∷ functions) can = (declaration_text (f ∷ functions), [], refl, declaration_spelled (f ∷ functions) can, refl)

pub at_most_one : (functions : List ℕ) → length (declarations functions) ≤ 1
at_most_one [] = omega arith
at_most_one (f ∷ functions) = omega arith

-- ---- the payload

both_items : {X : Type 0} (S : Form X) (one other : List ℕ) (xs ys : List X) → AreItems S one xs → AreItems S other ys → AreItems S (one ++ other) (xs ++ ys)
both_items S one other [] ys h k = rw h k
both_items S one other (x ∷ xs) ys h k = (h.0, h.1 ++ other, ap (λ (t : List ℕ). t ++ other) h.2 ∙ append_assoc h.0 h.1 other, h.3, both_items S h.1 other xs ys h.4 k)

anew_spelled : (segments : List (List ℕ)) (dropped functions : List ℕ) (kept : List Elem) → length kept ≡ length segments → length segments + 1 < 2 ^ 32
    → CanBeVector CanBeIndex functions
    → AreItems (λ t x. IsElem t x) (kept_segments_text dropped 0 segments) kept
    → IsElementSection (elements_anew segments dropped functions) (kept ++ map declaring (declarations functions))
anew_spelled segments dropped functions kept same few can h =
    let more = map declaring (declarations functions) in
    let new = flat_map declaration_text (declarations functions) in
    let items = both_items (λ t x. IsElem t x) (kept_segments_text dropped 0 segments) new kept more h (declarations_spelled functions can) in
    let number = length segments + length (declarations functions) in
    let size : number ≡ length (kept ++ more) = let l = length-append kept more in let m = length-map (declarations functions) declaring in omega (arith, l, m, same) in
    let most = at_most_one functions in
    let count : IsUnsigned 32 (shortest_unsigned number) (length (kept ++ more)) =
    subst (λ (n : ℕ). IsUnsigned 32 (shortest_unsigned number) n) size (number_spelled number (omega (arith, few, most))) in
    (shortest_unsigned number, kept_segments_text dropped 0 segments ++ new, refl, count, items)

pub declaration_is_spelled : DeclarationIsSpelled
declaration_is_spelled dropped functions can = anew_spelled [] dropped functions [] refl (omega arith) can refl

kept_length : (dropped : List ℕ) (number : ℕ) (elements : List Elem) → length (kept_elements dropped number elements) ≡ length elements
kept_length dropped number [] = refl
kept_length dropped number (elem ∷ elements) = ap (λ (n : ℕ). suc n) (kept_length dropped (number + 1) elements)

pub one_each : (segments : List (List ℕ)) (elements : List Elem) → AllZip (λ t x. IsElem t x) segments elements → length elements ≡ length segments
one_each [] [] h = refl
one_each [] (elem ∷ elements) h = absurd h
one_each (segment ∷ segments) [] h = absurd h
one_each (segment ∷ segments) (elem ∷ elements) h = ap (λ (n : ℕ). suc n) (one_each segments elements h.1)

-- with nothing dropped and nothing declared, all stay
as_items : (segments : List (List ℕ)) (elements : List Elem) → AllZip (λ t x. IsElem t x) segments elements → AreItems (λ t x. IsElem t x) (concat segments) elements
as_items [] [] h = refl
as_items [] (elem ∷ elements) h = absurd h
as_items (segment ∷ segments) [] h = absurd h
as_items (segment ∷ segments) (elem ∷ elements) h = (segment, concat segments, refl, h.0, as_items segments elements h.1)

none_dropped : (number : ℕ) (elements : List Elem) → kept_elements [] number elements ≡ elements
none_dropped number [] = refl
none_dropped number (elem ∷ elements) = ap (λ (es : List Elem). elem ∷ es) (none_dropped (number + 1) elements)

first_holds : (a b : Bool) → (a && b) ≡ true → a ≡ true
first_holds true b h = refl
first_holds false b h = h

nothing_new : (elements : List Elem) (dropped functions : List ℕ) → ((length dropped == 0) && (length functions == 0)) ≡ true
    → elements_with elements dropped functions ≡ elements
nothing_new elements [] [] h = ap (λ (es : List Elem). es ++ []) (none_dropped 0 elements) ∙ append-nil elements
nothing_new elements [] (f ∷ functions) h = let e = eqb-true (length (f ∷ functions)) 0 h in absurd (omega (arith, e))
nothing_new elements (d ∷ dropped) functions h =
    let e = eqb-true (length (d ∷ dropped)) 0 (first_holds (length (d ∷ dropped) == 0) (length functions == 0) h) in
    absurd (omega (arith, e))

pub elements_are_spelled : ElementsAreSpelled
elements_are_spelled payload segments elements dropped functions h few passive can = elim (cases_Bool ((length dropped == 0) && (length functions == 0))) [
  | inl same ↦ rw (same, nothing_new elements dropped functions same) (h.count, concat segments, h.parts, h.many, as_items segments elements h.each)
  | inr other ↦
      let kept = kept_elements dropped 0 elements in
      let many = one_each segments elements h.each in
      let items = kept_spelled dropped 0 segments elements h.each passive in
      rw other (anew_spelled segments dropped functions kept (kept_length dropped 0 elements ∙ many) (omega (arith, many, few)) can items)
]
