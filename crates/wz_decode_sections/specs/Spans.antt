-- Where the segments of an element payload (section 5.5.12 of the Core Specification) stand in it.
use Rattle.std.specs.Prelude.{◌≡◌, ◌+◌, ◌-◌, ℕ, List, [], ◌∷◌, ◌++◌, length, Some}
use Rattle.wz_module.specs.Elements.{Elem}
use Rattle.wz_module.specs.declared.items.Span.{Span}
use Rattle.wz_decode_code.specs.Instructions.{IsU32}
use Rattle.wz_decode_code.specs.InstrReading.{u32_at}
use Rattle.wz_decode_sections.specs.Productions.{IsSegmentFlag}
use Rattle.wz_decode_sections.specs.ElementSection.{IsElem, elem_at}

abbrev pub span_with : ℕ → ℕ → ℕ → Span
span_with at head len = record { at = at; head = head; len = len }

-- the span of a segment at this place: how many of its bytes are its flag, and how many bytes it has
pub record IsSpan (at : ℕ) (segment : List ℕ) (span : Span) : Type 0 where
  pub flag : List ℕ
  pub number : ℕ
  pub behind : List ℕ
  pub parts : segment ≡ flag ++ behind
  pub spelled : IsSegmentFlag flag number
  pub is : span ≡ span_with at (length flag) (length segment)

-- segments one behind the other, the first of them at this place, and their spans
abbrev pub AreSpans : ℕ → List ℕ → List Elem → List Span → Type 0
AreSpans at text [] [] = text ≡ []
AreSpans at text [] (span ∷ spans) = ⊥
AreSpans at text (elem ∷ elements) [] = ⊥
AreSpans at text (elem ∷ elements) (span ∷ spans) =
    (first others : List ℕ) × (text ≡ first ++ others) × IsElem first elem × IsSpan at first span × AreSpans (at + length first) others elements spans

-- the payload is the number of its segments and these, one behind the other, with these spans
pub record HasSpans (payload : List ℕ) (elements : List Elem) (spans : List Span) : Type 0 where
  pub count : List ℕ
  pub segments : List ℕ
  pub parts : payload ≡ count ++ segments
  pub many : IsU32 count (length elements)
  pub each : AreSpans (length count) segments elements spans

-- ---- what was read, of so many bytes in all

pub record SpanRead (total : ℕ) (bytes : List ℕ) (span : Span) (rest : List ℕ) : Type 0 where
  pub elem : Elem
  pub flag : ℕ
  pub behind : List ℕ
  pub segment : elem_at bytes ≡ Some (elem, rest)
  pub tag : u32_at bytes ≡ Some (flag, behind)
  pub is : span ≡ span_with (total - length bytes) (length bytes - length behind) (length bytes - length rest)
