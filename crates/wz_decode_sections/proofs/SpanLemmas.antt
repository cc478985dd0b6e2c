-- From spans that were read to the segments that the payload spells.
use Rattle.std.proofs.Common.{◌≡◌, ℕ, suc, ◌+◌, ◌-◌, ◌≤◌, List, [], ◌∷◌, ◌++◌, length, None, Some, refl, sym, ap, ◌∙◌, append_assoc, arith, inl, inr}
use Rattle.std.proofs.lemmas.List.{length-append}
use Rattle.wz_bytes.specs.Forms.{AreItems}
use Rattle.wz_bytes.specs.Vectors.{ReadsBy, ItemsRead, VectorRead, NotAll}
use Rattle.wz_bytes.proofs.ReadingLemmas.{one_front}
use Rattle.wz_bytes.proofs.VectorLaws.{no_whole_vector, no_longer}
use Rattle.wz_module.specs.Elements.{Elem}
use Rattle.wz_module.specs.declared.items.Span.{Span}
use Rattle.wz_decode_code.specs.Instructions.{IsU32}
use Rattle.wz_decode_code.specs.InstrReading.{u32_at}
use Rattle.wz_decode_code.specs.Laws.{SpellsNone}
use Rattle.wz_decode_sections.specs.ElementSection.{IsElem, IsElementSection, elem_rows, elem_at}
use Rattle.wz_decode_sections.specs.Spans.{AreSpans, HasSpans, SpanRead}
use Rattle.wz_decode_sections.proofs.TypeFormLaws.{u32_exact}
use Rattle.wz_decode_sections.proofs.SegmentLaws.{elem_again, elem_exact}

abbrev as_read : Elem → Elem
as_read elem = elem

-- the segments that were read, without their places
span_elems : (total : ℕ) (spans : List Span) (bytes rest : List ℕ) → ItemsRead (λ b s r. SpanRead total b s r) bytes spans rest
    → (elements : List Elem) × (length elements ≡ length spans) × ItemsRead (ReadsBy as_read (λ b. elem_at b)) bytes elements rest
span_elems total [] bytes rest h = ([], refl, h)
span_elems total (s ∷ spans) bytes rest h = let more = span_elems total spans h.0 rest h.2 in (h.1.elem ∷ more.0, ap (λ (n : ℕ). suc n) more.1, (h.0, h.1.segment, more.2))

not_all : (total : ℕ) (bytes : List ℕ) → NotAll (λ b s r. SpanRead total b s r) (λ b. elem_at b ≡ None) bytes → NotAll (ReadsBy as_read (λ b. elem_at b)) (λ b. elem_at b ≡ None) bytes
not_all total bytes (inl (inl none)) = inl (inl none)
not_all total bytes (inl (inr h)) =
    let es = span_elems total h.bad.read h.items h.bad.rest h.bad.good in
    inl (inr (record { n = h.n; items = h.items; count = h.count; bad = record { read = es.0; rest = h.bad.rest; fewer = rw es.1 h.bad.fewer; good = es.2; bad = h.bad.bad } }))
not_all total bytes (inr h) =
    let es = span_elems total h.xs h.read.items h.rest h.read.read in
    inr (record { xs = es.0; rest = h.rest; read = record { items = h.read.items; count = rw es.1 h.read.count; read = es.2 }; some = h.some })

pub no_segments : (total : ℕ) (payload : List ℕ) → NotAll (λ b s r. SpanRead total b s r) (λ b. elem_at b ≡ None) payload → SpellsNone (λ t es. IsElementSection t es) payload
no_segments total payload bad = no_whole_vector (λ t x. IsElem t x) (λ b. elem_at b) elem_exact as_read payload (not_all total payload bad)

-- the spans are those of the segments
are_spans : (total at : ℕ) (spans : List Span) (bytes : List ℕ) → at + length bytes ≡ total → ItemsRead (λ b s r. SpanRead total b s r) bytes spans []
    → (elements : List Elem) × (length elements ≡ length spans) × AreSpans at bytes elements spans
are_spans total at [] bytes place h = ([], refl, h)
are_spans total at (s ∷ spans) bytes place h =
    let r = h.1 in
    let f = elem_exact.found bytes r.elem h.0 r.segment in
    let row = elem_again f.text r.elem f.spelled in
    let t = u32_exact.found bytes r.flag r.behind r.tag in
    let parts : bytes ≡ row.first ++ (row.second ++ h.0) = f.parts ∙ ap (λ (t : List ℕ). t ++ h.0) row.parts ∙ append_assoc row.first row.second h.0 in
    let one = one_front (λ t n. IsU32 t n) (λ b. u32_at b) u32_exact t.text row.first r.behind (row.second ++ h.0) r.flag row.tag t.spelled row.tagged (sym t.parts ∙ parts) in
    let same : length t.text ≡ length row.first = ap (λ (l : List ℕ). length l) one.1 in
    let whole : length bytes ≡ length t.text + length r.behind = ap (λ (l : List ℕ). length l) t.parts ∙ length-append t.text r.behind in
    let all : length bytes ≡ length f.text + length h.0 = ap (λ (l : List ℕ). length l) f.parts ∙ length-append f.text h.0 in
    let head : length bytes - length r.behind ≡ length row.first = omega (arith, same, whole) in
    let len : length bytes - length h.0 ≡ length f.text = omega (arith, all) in
    let here : total - length bytes ≡ at = omega (arith, place) in
    let more = are_spans total (at + length f.text) spans h.0 (omega (arith, place, all)) h.2 in (
      r.elem ∷ more.0,
      ap (λ (n : ℕ). suc n) more.1,
      (
        f.text,
        h.0,
        f.parts,
        f.spelled,
        record { flag = row.first; number = row.tag; behind = row.second; parts = row.parts; spelled = row.tagged; is = r.is ∙ (rw (here, head, len) refl) },
        more.2,
      ),
    )

pub spans_found : (payload : List ℕ) (spans : List Span) → VectorRead (λ b s r. SpanRead (length payload) b s r) payload spans [] → (elements : List Elem) × HasSpans payload elements spans
spans_found payload spans h =
    let c = u32_exact.found payload (length spans) h.items h.count in
    let all : length payload ≡ length c.text + length h.items = ap (λ (l : List ℕ). length l) c.parts ∙ length-append c.text h.items in
    let m = are_spans (length payload) (length c.text) spans h.items (sym all) h.read in
    (m.0, record { count = c.text; segments = h.items; parts = c.parts; many = rw m.1 c.spelled; each = m.2 })

-- and they are all that the payload spells
spanned : (at : ℕ) (text : List ℕ) (elements : List Elem) (spans : List Span) → AreSpans at text elements spans → AreItems (λ t e. IsElem t e) text elements
spanned at text [] [] h = h
spanned at text [] (s ∷ spans) h = absurd h
spanned at text (e ∷ elements) [] h = absurd h
spanned at text (e ∷ elements) (s ∷ spans) h = (h.0, h.1, h.2, h.3, spanned (at + length h.0) h.1 elements spans h.5)

pub spans_are_segments : (payload : List ℕ) (elements : List Elem) (spans : List Span) → HasSpans payload elements spans → IsElementSection payload elements
spans_are_segments payload elements spans h = (h.count, h.segments, h.parts, h.many, spanned (length h.count) h.segments elements spans h.each)

-- ---- one segment

pub segment_within : (flag : ℕ) (bytes behind rest : List ℕ) (elem : Elem) → u32_at bytes ≡ Some (flag, behind) → elem_rows flag behind ≡ Some (elem, rest) → elem_at bytes ≡ Some (elem, rest)
segment_within flag bytes behind rest elem tag row = rw tag row

pub flag_within : (bytes behind : List ℕ) (flag : ℕ) → u32_at bytes ≡ Some (flag, behind) → length behind ≤ length bytes
flag_within bytes behind flag e = no_longer (λ t n. IsU32 t n) (λ b. u32_at b) u32_exact bytes flag behind e

pub rest_within : (bytes rest : List ℕ) (elem : Elem) → elem_at bytes ≡ Some (elem, rest) → length rest ≤ length bytes
rest_within bytes rest elem e = no_longer (λ t e. IsElem t e) (λ b. elem_at b) elem_exact bytes elem rest e
