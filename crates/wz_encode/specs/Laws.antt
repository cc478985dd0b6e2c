-- What is written spells what it is written for, by the grammar of sections (chapter 5 of the Core Specification).
use Rattle.std.specs.Prelude.{◌≡◌, ℕ, ◌+◌, ◌^◌, ◌<◌, List, [], ◌∷◌, ◌++◌, length, map, Option, Some, None, IfSome, IsTrue, IsUtf8}
use Rattle.std.specs.List.{All, AllZip, concat, zip}
use Rattle.wz_bytes.specs.Shortest.{shortest_unsigned}
use Rattle.wz_bytes.specs.Forms.{AreBytes, IsByte, IsBytes, Both}
use Rattle.wz_types.specs.declared.types.MemType.{MemType}
use Rattle.wz_types.specs.declared.types.GlobalType.{GlobalType}
use Rattle.wz_types.specs.declared.value.Reference.TheVariants.{Null, Fn, Foreign}
use Rattle.wz_types.specs.declared.value.Value.{Value}
use Rattle.wz_types.specs.declared.value.Value.TheVariants.{I32, I64, F32, F64, Ref}
use Rattle.wz_module.specs.declared.items.ExportTarget.{ExportTarget}
use Rattle.wz_module.specs.declared.items.ExportTarget.TheVariants.{Func, Table, Memory, Global}
use Rattle.wz_module.specs.declared.items.Span.{Span}
use Rattle.wz_module.specs.Exports.{Export}
use Rattle.wz_module.specs.Elements.{PassiveElem, Elem}
use Rattle.wz_decode_code.specs.Instructions.{IsU32}
use Rattle.wz_decode_code.specs.Code.{IsExpression}
use Rattle.wz_decode_sections.specs.MemorySection.{IsMemorySection}
use Rattle.wz_decode_sections.specs.GlobalSection.{IsGlobalSection}
use Rattle.wz_decode_sections.specs.ExportSection.{IsExport, IsExportSection}
use Rattle.wz_decode_sections.specs.ElementSection.{IsElem, IsElementSection}
use Rattle.wz_decode_sections.specs.Spans.{HasSpans}
use Rattle.wz_decode_sections.specs.DataSection.{IsData, IsDataSection}
use Rattle.wz_decode_sections.specs.DataCountSection.{IsDataCountSection}
use Rattle.wz_encode.specs.Vectors.{vector_text}
use Rattle.wz_encode.specs.SectionText.{section_text}
use Rattle.wz_encode.specs.Limits.{memories_text}
use Rattle.wz_encode.specs.Constants.{constant_code, constant_expression_text}
use Rattle.wz_encode.specs.Globals.{globals_text, global_with}
use Rattle.wz_encode.specs.Exports.{export_text, exports_text}
use Rattle.wz_encode.specs.Elements.{all_covered, LieWithin, is_dropped, elements_text, elements_with}
use Rattle.wz_encode.specs.Datas.{Slot, PassiveSlot, EmptySlot, HeadSlot, slot_text, segment_of}

-- ---- what can be written

-- fewer than 2^32 items, each of which can be written
abbrev pub CanBeVector : {X : Type 0} → (X → Type 0) → List X → Type 0
CanBeVector CanBe items = (length items < 2 ^ 32) × All CanBe items

abbrev pub CanBeBytes : List ℕ → Type 0
CanBeBytes bytes = CanBeVector (λ b. b < 256) bytes

abbrev pub CanBeIndex : ℕ → Type 0
CanBeIndex n = n < 2 ^ 32

abbrev pub CanBeMemory : MemType → Type 0
CanBeMemory type = (type.limits.min < 2 ^ 32) × IfSome type.limits.max (λ max. max < 2 ^ 32)

-- a number of its width, null, or a function
abbrev pub CanBeConstant : Value → Type 0
CanBeConstant (I32 bits) = bits < 2 ^ 32
CanBeConstant (I64 bits) = bits < 2 ^ 64
CanBeConstant (F32 bits) = bits < 2 ^ 32
CanBeConstant (F64 bits) = bits < 2 ^ 64
CanBeConstant (Ref (Null kind)) = Unit {0}
CanBeConstant (Ref (Fn index)) = CanBeIndex index
CanBeConstant (Ref (Foreign id sort)) = ⊥

abbrev pub target_index : ExportTarget → ℕ
target_index (Func index) = index
target_index (Table index) = index
target_index (Memory index) = index
target_index (Global index) = index

abbrev pub CanBeExport : Export → Type 0
CanBeExport export = IsUtf8 export.name × (length export.name < 2 ^ 32) × CanBeIndex (target_index export.target)

-- the payload is a spelling of the number of its segments, and then these, one behind the other, each of which spells its element segment
pub record AreSegmentsOf (payload : List ℕ) (segments : List (List ℕ)) (elements : List Elem) : Type 0 where
  pub count : List ℕ
  pub parts : payload ≡ count ++ concat segments
  pub many : IsU32 count (length elements)
  pub each : AllZip (λ text elem. IsElem text elem) segments elements

-- the segments of the dropped numbers, from this number on, are passive
abbrev pub DroppedArePassive : List ℕ → ℕ → List Elem → Type 0
DroppedArePassive dropped number [] = Unit {0}
DroppedArePassive dropped number (elem ∷ elements) = (IsTrue (is_dropped dropped number) → elem.mode ≡ PassiveElem) × DroppedArePassive dropped (number + 1) elements

-- a slot with the bytes that follow it: those that it says, and none where it has its own
abbrev pub CanBeSegment : Slot → List ℕ → Type 0
CanBeSegment (PassiveSlot bytes) behind = CanBeBytes bytes × (behind ≡ [])
CanBeSegment EmptySlot behind = behind ≡ []
CanBeSegment (HeadSlot memory at len) behind = CanBeIndex memory × CanBeIndex at × (length behind ≡ len) × CanBeBytes behind

-- ---- the laws

abbrev pub SectionIsSpelled : Type 0
SectionIsSpelled = (id : ℕ) (payload : List ℕ) → id < 256 → CanBeBytes payload → Both IsByte IsBytes (section_text id payload) (id, payload)

abbrev pub MemoriesAreSpelled : Type 0
MemoriesAreSpelled = (memories : List MemType) → CanBeVector CanBeMemory memories → IsMemorySection (memories_text memories) memories

abbrev pub ConstantIsSpelled : Type 0
ConstantIsSpelled = (value : Value) → CanBeConstant value → IsExpression (constant_expression_text value) (constant_code value)

abbrev pub GlobalsAreSpelled : Type 0
GlobalsAreSpelled = (kinds : List GlobalType) (values : List Value) → length kinds ≡ length values → CanBeVector CanBeConstant values
    → IsGlobalSection (globals_text kinds values) (map global_with (zip kinds values))

abbrev pub ExportIsSpelled : Type 0
ExportIsSpelled = (export : Export) → CanBeExport export → IsExport (export_text export.name export.target) export

abbrev pub ExportsAreSpelled : Type 0
ExportsAreSpelled = (exports : List Export) → CanBeVector CanBeExport exports → IsExportSection (exports_text exports) exports

-- where there was no element section
abbrev pub DeclarationIsSpelled : Type 0
DeclarationIsSpelled = (dropped functions : List ℕ) → CanBeVector CanBeIndex functions
    → IsElementSection (elements_text None [] dropped functions) (elements_with [] dropped functions)

-- where there was one
abbrev pub ElementsAreSpelled : Type 0
ElementsAreSpelled = (payload : List ℕ) (segments : List (List ℕ)) (elements : List Elem) (dropped functions : List ℕ) → AreSegmentsOf payload segments elements
    → length elements + 1 < 2 ^ 32 → DroppedArePassive dropped 0 elements → CanBeVector CanBeIndex functions
    → IsElementSection (elements_text (Some payload) segments dropped functions) (elements_with elements dropped functions)

-- the spans of a payload's segments lie within it and cover them
abbrev pub SpansLieWithin : Type 0
SpansLieWithin = (payload : List ℕ) (elements : List Elem) (spans : List Span) → HasSpans payload elements spans → LieWithin (Some payload) spans

abbrev pub SpansCoverSegments : Type 0
SpansCoverSegments = (payload : List ℕ) (elements : List Elem) (spans : List Span) → HasSpans payload elements spans → AreSegmentsOf payload (all_covered payload spans) elements

-- a slot, with the bytes that follow it
abbrev pub DataIsSpelled : Type 0
DataIsSpelled = (slot : Slot) (behind : List ℕ) → CanBeSegment slot behind → IsData (slot_text slot ++ behind) (segment_of slot behind)

-- the whole section, of slots with the bytes that follow each
abbrev pub DatasAreSpelled : Type 0
DatasAreSpelled = (slots : List (Slot × List ℕ)) → CanBeVector (λ s. CanBeSegment s.0 s.1) slots
    → IsDataSection (vector_text (λ s. slot_text s.0 ++ s.1) slots) (map (λ s. segment_of s.0 s.1) slots)

abbrev pub CountIsSpelled : Type 0
CountIsSpelled = (count : ℕ) → CanBeIndex count → IsDataCountSection (shortest_unsigned count) count

-- ---- what is written are bytes

abbrev pub MemoriesAreBytes : Type 0
MemoriesAreBytes = (memories : List MemType) → CanBeVector CanBeMemory memories → AreBytes (memories_text memories)

abbrev pub GlobalsAreBytes : Type 0
GlobalsAreBytes = (kinds : List GlobalType) (values : List Value) → CanBeVector CanBeConstant values → AreBytes (globals_text kinds values)

abbrev pub ExportsAreBytes : Type 0
ExportsAreBytes = (exports : List Export) → CanBeVector CanBeExport exports → AreBytes (exports_text exports)

abbrev pub ElementsAreBytes : Type 0
ElementsAreBytes = (old : Option (List ℕ)) (segments : List (List ℕ)) (dropped functions : List ℕ) → IfSome old AreBytes → All AreBytes segments
    → length segments + 1 < 2 ^ 32 → CanBeVector CanBeIndex functions → AreBytes (elements_text old segments dropped functions)

abbrev pub DatasAreBytes : Type 0
DatasAreBytes = (slots : List (Slot × List ℕ)) → CanBeVector (λ s. CanBeSegment s.0 s.1) slots → AreBytes (vector_text (λ s. slot_text s.0 ++ s.1) slots)

abbrev pub CountIsBytes : Type 0
CountIsBytes = (count : ℕ) → CanBeIndex count → AreBytes (shortest_unsigned count)
