-- Section 5.5.12 of the Core Specification: how an element section is written anew, with some passive segments as declarative ones and
-- with one segment more that declares functions.
use Rattle.std.specs.Prelude.{ℕ, ◌+◌, ◌≤◌, Bool, ◌&&◌, List, [], ◌∷◌, ◌++◌, length, map, slice_range, Option, Some, None, if◌then◌else◌, ◌==◌}
use Rattle.std.specs.List.{All, flat_map, list_any}
use Rattle.wz_bytes.specs.Shortest.{shortest_unsigned}
use Rattle.wz_bytes.specs.Unsigned.{unsigned_at}
use Rattle.wz_types.specs.declared.types.RefKind.TheVariants as kind
use Rattle.wz_module.specs.declared.items.Span.{Span}
use Rattle.wz_module.specs.Elements.{DeclarativeElem, Elem, function_reference}
use Rattle.wz_encode.specs.Vectors.{vector_text}

-- ---- the old segments

-- the bytes that a span covers
abbrev pub covered_by : List ℕ → Span → List ℕ
covered_by payload span = slice_range payload span.at (span.at + span.len)

-- the old segments, one by one
abbrev pub all_covered : List ℕ → List Span → List (List ℕ)
all_covered payload spans = map (λ span. covered_by payload span) spans

abbrev pub old_segments : Option (List ℕ) → List Span → List (List ℕ)
old_segments None spans = []
old_segments (Some payload) spans = all_covered payload spans

-- the spans end within the old payload
abbrev pub LieWithin : Option (List ℕ) → List Span → Type 0
LieWithin None spans = Unit {0}
LieWithin (Some payload) spans = All (λ span. span.at + span.len ≤ length payload) spans

-- Flags 1 and 5 say passive, 3 and 7 declarative: 1 and 3 with functions, 5 and 7 with expressions.
abbrev pub declarative_flag : ℕ → ℕ
declarative_flag passive = if passive == 5 then 0x07 else 0x03

abbrev pub with_declarative_flag : Option (ℕ × List ℕ) → List ℕ
with_declarative_flag None = []
with_declarative_flag (Some flag) = declarative_flag flag.0 ∷ flag.1

-- a passive segment, with a declarative one's flag in the place of its own
abbrev pub declarative_text : List ℕ → List ℕ
declarative_text segment = with_declarative_flag (unsigned_at 32 segment)

abbrev pub is_dropped : List ℕ → ℕ → Bool
is_dropped dropped number = list_any (λ other. other == number) dropped

abbrev pub segment_text : Bool → List ℕ → List ℕ
segment_text dropped segment = if dropped then declarative_text segment else segment

-- the segments from this number on, those of the dropped numbers as declarative ones
abbrev pub kept_segments_text : List ℕ → ℕ → List (List ℕ) → List ℕ
kept_segments_text dropped number [] = []
kept_segments_text dropped number (segment ∷ segments) =
    segment_text (is_dropped dropped number) segment ++ kept_segments_text dropped (number + 1) segments

-- ---- the new one

-- 3:u32 elemkind vec(funcidx), a declarative segment of functions
abbrev pub declaration_text : List ℕ → List ℕ
declaration_text functions = 0x03 ∷ 0x00 ∷ vector_text shortest_unsigned functions

-- it is there where there are functions to declare
abbrev pub declarations : List ℕ → List (List ℕ)
declarations [] = []
declarations (function ∷ functions) = (function ∷ functions) ∷ []

-- ---- the payload

-- elemsec ::= vec(elem)
abbrev pub elements_anew : List (List ℕ) → List ℕ → List ℕ → List ℕ
elements_anew segments dropped functions =
    shortest_unsigned (length segments + length (declarations functions))
    ++ (kept_segments_text dropped 0 segments ++ flat_map declaration_text (declarations functions))

-- An old payload of these segments stays as it is where none of them is dropped and no function is to be declared.
abbrev pub elements_text : Option (List ℕ) → List (List ℕ) → List ℕ → List ℕ → List ℕ
elements_text None segments dropped functions = elements_anew segments dropped functions
elements_text (Some payload) segments dropped functions =
    if (length dropped == 0) && (length functions == 0) then payload
    else elements_anew segments dropped functions

abbrev pub elements_by_spans : Option (List ℕ) → List Span → List ℕ → List ℕ → List ℕ
elements_by_spans old spans dropped functions = elements_text old (old_segments old spans) dropped functions

-- ---- the segments that this payload spells

abbrev pub as_declarative : Elem → Elem
as_declarative elem = record elem { mode = DeclarativeElem }

-- the segments from this number on, those of the dropped numbers as declarative ones
abbrev pub kept_elements : List ℕ → ℕ → List Elem → List Elem
kept_elements dropped number [] = []
kept_elements dropped number (elem ∷ elements) = (if is_dropped dropped number then as_declarative elem else elem) ∷ kept_elements dropped (number + 1) elements

-- a declarative segment of functions
abbrev pub declaring : List ℕ → Elem
declaring functions = record { mode = DeclarativeElem; kind = kind.Func; init = map function_reference functions }

abbrev pub elements_with : List Elem → List ℕ → List ℕ → List Elem
elements_with elements dropped functions = kept_elements dropped 0 elements ++ map declaring (declarations functions)
