-- The readings of element and data segments are exact.
use Rattle.std.proofs.Common.{◌≡◌, ℕ, List, [], ◌∷◌, map, Some, refl, ap, subst, inl, inr}
use Rattle.std.specs.Prelude.{◌==◌}
use Rattle.std.proofs.lemmas.Bool.{eqb-true}
use Rattle.wz_bytes.specs.Reading.{Form, Reading, Front, IsExact}
use Rattle.wz_bytes.specs.Forms.{IsBytes, bytes_at}
use Rattle.wz_bytes.proofs.ReadingLemmas.{guarded, some_is}
use Rattle.wz_bytes.proofs.FormLaws.{both_exact, made_exact, vector_exact, bytes_exact}
use Rattle.wz_bytes.proofs.SwitchLaws.{HasRow, switch_exact}
use Rattle.wz_types.specs.declared.types.RefKind.{RefKind}
use Rattle.wz_module.specs.Elements.{PassiveElem, DeclarativeElem, Elem, function_reference}
use Rattle.wz_module.specs.Datas.{PassiveData, ActiveData, DataSegment}
use Rattle.wz_decode_code.specs.Types.{IsRefKind, kind_at}
use Rattle.wz_decode_code.specs.Instructions.{IsU32}
use Rattle.wz_decode_code.specs.InstrReading.{u32_at}
use Rattle.wz_decode_code.specs.Code.{IsExpression}
use Rattle.wz_decode_code.specs.Reading.{expression_at}
use Rattle.wz_decode_code.proofs.TypeLaws.{kind_exact}
use Rattle.wz_decode_code.proofs.CodeLaws.{expression_exact}
use Rattle.wz_decode_sections.specs.Productions.{IsSegmentFlag}
use Rattle.wz_decode_sections.specs.Offsets.{AtOffset, offset_at, AtPlace, place_at}
use Rattle.wz_decode_sections.specs.ElementSection.{IsElemKind, elem_kind_at, AreFunctions, functions_at, AreExpressions, expressions_at, IsFunctionList, function_list_at, IsExpressionList, expression_list_at, elem_from, elem_in_first, elem_in_table, IsElem, elem_rows, elem_at}
use Rattle.wz_decode_sections.specs.DataSection.{data_from, IsData, data_rows, data_at}
use Rattle.wz_decode_sections.proofs.ProductionLaws.{FindsBehind, row_or, no_row, row_found, row_again}
use Rattle.wz_decode_sections.proofs.TypeFormLaws.{u32_exact}
use Rattle.wz_decode_sections.proofs.ItemLaws.{indices_exact}

-- ---- what segments have in front

pub offset_exact : {X : Type 0} (S : Form X) (p : Reading X) → IsExact S p → IsExact (λ t x. AtOffset S t x) (λ b. offset_at p b)
offset_exact S p exact = both_exact (λ t code. IsExpression t code) S (λ b. expression_at b) p expression_exact exact

pub place_exact : {X : Type 0} (S : Form X) (p : Reading X) → IsExact S p → IsExact (λ t x. AtPlace S t x) (λ b. place_at p b)
place_exact S p exact = both_exact (λ t n. IsU32 t n) (λ t y. AtOffset S t y) (λ b. u32_at b) (λ b. offset_at p b) u32_exact (offset_exact S p exact)

-- ---- elements

elem_kind_found : (bytes : List ℕ) (x : RefKind) (rest : List ℕ) → elem_kind_at bytes ≡ Some (x, rest) → Front (λ t x. IsElemKind t x) bytes x rest
elem_kind_found [] x rest e = absurd cc
elem_kind_found (b ∷ bytes) x rest e =
    let g = guarded (b == 0x00) _ _ e in
    subst (λ (w : RefKind × List ℕ). Front (λ t x. IsElemKind t x) (b ∷ bytes) w.0 w.1) (some_is _ _ g.1)
    (record { text = 0x00 ∷ []; parts = ap (λ (n : ℕ). n ∷ bytes) (eqb-true b 0x00 g.0); spelled = (refl, refl) })

pub elem_kind_exact : IsExact (λ t x. IsElemKind t x) (λ b. elem_kind_at b)
elem_kind_exact = record { found = elem_kind_found; again = λ text x rest h. rw (h.0, h.1) refl }

pub functions_exact : IsExact (λ t init. AreFunctions t init) (λ b. functions_at b)
functions_exact = made_exact (λ indices. map function_reference indices) _ _ indices_exact

pub expressions_exact : IsExact (λ t init. AreExpressions t init) (λ b. expressions_at b)
expressions_exact = vector_exact (λ t code. IsExpression t code) (λ b. expression_at b) expression_exact

pub function_list_exact : IsExact (λ t x. IsFunctionList t x) (λ b. function_list_at b)
function_list_exact = both_exact (λ t x. IsElemKind t x) (λ t init. AreFunctions t init) (λ b. elem_kind_at b) (λ b. functions_at b) elem_kind_exact functions_exact

pub expression_list_exact : IsExact (λ t x. IsExpressionList t x) (λ b. expression_list_at b)
expression_list_exact = both_exact (λ t kind. IsRefKind t kind) (λ t init. AreExpressions t init) (λ b. kind_at b) (λ b. expressions_at b) kind_exact expressions_exact

in_first_exact : IsExact (λ t x. AtOffset (λ t init. AreFunctions t init) t x) (λ b. offset_at (λ b. functions_at b) b)
in_first_exact = offset_exact (λ t init. AreFunctions t init) (λ b. functions_at b) functions_exact

in_table_exact : IsExact (λ t x. AtPlace (λ t x. IsFunctionList t x) t x) (λ b. place_at (λ b. function_list_at b) b)
in_table_exact = place_exact (λ t x. IsFunctionList t x) (λ b. function_list_at b) function_list_exact

all_in_first_exact : IsExact (λ t x. AtOffset (λ t init. AreExpressions t init) t x) (λ b. offset_at (λ b. expressions_at b) b)
all_in_first_exact = offset_exact (λ t init. AreExpressions t init) (λ b. expressions_at b) expressions_exact

all_in_table_exact : IsExact (λ t x. AtPlace (λ t x. IsExpressionList t x) t x) (λ b. place_at (λ b. expression_list_at b) b)
all_in_table_exact = place_exact (λ t x. IsExpressionList t x) (λ b. expression_list_at b) expression_list_exact

elem_found : (flag : ℕ) (bytes : List ℕ) → FindsBehind (λ t x. IsElem t x) (λ t n. IsSegmentFlag t n) flag bytes (elem_rows flag bytes)
elem_found flag bytes =
    row_or (λ t x. IsElem t x) (λ t n. IsSegmentFlag t n) flag bytes (flag == 0) _ _
    (row_found (λ t x. IsElem t x) (λ t n. IsSegmentFlag t n) 0 (λ x. elem_in_first x) _ _ in_first_exact (λ t x h. inl h) flag bytes)
    (row_or (λ t x. IsElem t x) (λ t n. IsSegmentFlag t n) flag bytes (flag == 1) _ _
    (row_found (λ t x. IsElem t x) (λ t n. IsSegmentFlag t n) 1 (λ x. elem_from PassiveElem x) _ _ function_list_exact (λ t x h. inr (inl h)) flag bytes)
    (row_or (λ t x. IsElem t x) (λ t n. IsSegmentFlag t n) flag bytes (flag == 2) _ _
    (row_found (λ t x. IsElem t x) (λ t n. IsSegmentFlag t n) 2 (λ x. elem_in_table x) _ _ in_table_exact (λ t x h. inr (inr (inl h))) flag bytes)
    (row_or (λ t x. IsElem t x) (λ t n. IsSegmentFlag t n) flag bytes (flag == 3) _ _
    (row_found (λ t x. IsElem t x) (λ t n. IsSegmentFlag t n) 3 (λ x. elem_from DeclarativeElem x) _ _ function_list_exact (λ t x h. inr (inr (inr (inl h)))) flag bytes)
    (row_or (λ t x. IsElem t x) (λ t n. IsSegmentFlag t n) flag bytes (flag == 4) _ _
    (row_found (λ t x. IsElem t x) (λ t n. IsSegmentFlag t n) 4 (λ x. elem_in_first x) _ _ all_in_first_exact (λ t x h. inr (inr (inr (inr (inl h))))) flag bytes)
    (row_or (λ t x. IsElem t x) (λ t n. IsSegmentFlag t n) flag bytes (flag == 5) _ _
    (row_found (λ t x. IsElem t x) (λ t n. IsSegmentFlag t n) 5 (λ x. elem_from PassiveElem x) _ _ expression_list_exact (λ t x h. inr (inr (inr (inr (inr (inl h)))))) flag bytes)
    (row_or (λ t x. IsElem t x) (λ t n. IsSegmentFlag t n) flag bytes (flag == 6) _ _
    (row_found (λ t x. IsElem t x) (λ t n. IsSegmentFlag t n) 6 (λ x. elem_in_table x) _ _ all_in_table_exact (λ t x h. inr (inr (inr (inr (inr (inr (inl h))))))) flag bytes)
    (row_or (λ t x. IsElem t x) (λ t n. IsSegmentFlag t n) flag bytes (flag == 7) _ _
    (row_found (λ t x. IsElem t x) (λ t n. IsSegmentFlag t n) 7 (λ x. elem_from DeclarativeElem x) _ _ expression_list_exact (λ t x h. inr (inr (inr (inr (inr (inr (inr h))))))) flag bytes)
    (no_row (λ t x. IsElem t x) (λ t n. IsSegmentFlag t n) flag bytes))))))))

pub elem_again : (text : List ℕ) (x : Elem) → IsElem text x → HasRow (λ t n. IsSegmentFlag t n) (λ flag b. elem_rows flag b) text x
elem_again text x (inl h) = row_again (λ t n. IsSegmentFlag t n) (λ flag b. elem_rows flag b) 0 (λ x. elem_in_first x) _ _ in_first_exact (λ b. refl) text x h
elem_again text x (inr (inl h)) = row_again (λ t n. IsSegmentFlag t n) (λ flag b. elem_rows flag b) 1 (λ x. elem_from PassiveElem x) _ _ function_list_exact (λ b. refl) text x h
elem_again text x (inr (inr (inl h))) = row_again (λ t n. IsSegmentFlag t n) (λ flag b. elem_rows flag b) 2 (λ x. elem_in_table x) _ _ in_table_exact (λ b. refl) text x h
elem_again text x (inr (inr (inr (inl h)))) = row_again (λ t n. IsSegmentFlag t n) (λ flag b. elem_rows flag b) 3 (λ x. elem_from DeclarativeElem x) _ _ function_list_exact (λ b. refl) text x h
elem_again text x (inr (inr (inr (inr (inl h))))) =
    row_again (λ t n. IsSegmentFlag t n) (λ flag b. elem_rows flag b) 4 (λ x. elem_in_first x) _ _ all_in_first_exact (λ b. refl) text x h
elem_again text x (inr (inr (inr (inr (inr (inl h)))))) = row_again (λ t n. IsSegmentFlag t n) (λ flag b. elem_rows flag b) 5 (λ x. elem_from PassiveElem x) _ _ expression_list_exact (λ b. refl) text x h
elem_again text x (inr (inr (inr (inr (inr (inr (inl h))))))) = row_again (λ t n. IsSegmentFlag t n) (λ flag b. elem_rows flag b) 6 (λ x. elem_in_table x) _ _ all_in_table_exact (λ b. refl) text x h
elem_again text x (inr (inr (inr (inr (inr (inr (inr h))))))) = row_again (λ t n. IsSegmentFlag t n) (λ flag b. elem_rows flag b) 7 (λ x. elem_from DeclarativeElem x) _ _ expression_list_exact (λ b. refl) text x h

pub elem_exact : IsExact (λ t x. IsElem t x) (λ b. elem_at b)
elem_exact = switch_exact (λ t x. IsElem t x) (λ t n. IsSegmentFlag t n) (λ b. u32_at b) u32_exact (λ flag b. elem_rows flag b) elem_found elem_again

-- ---- data

bytes_in_first_exact : IsExact (λ t x. AtOffset IsBytes t x) (λ b. offset_at (λ b. bytes_at b) b)
bytes_in_first_exact = offset_exact IsBytes (λ b. bytes_at b) bytes_exact

bytes_in_memory_exact : IsExact (λ t x. AtPlace IsBytes t x) (λ b. place_at (λ b. bytes_at b) b)
bytes_in_memory_exact = place_exact IsBytes (λ b. bytes_at b) bytes_exact

data_found : (flag : ℕ) (bytes : List ℕ) → FindsBehind (λ t x. IsData t x) (λ t n. IsSegmentFlag t n) flag bytes (data_rows flag bytes)
data_found flag bytes =
    row_or (λ t x. IsData t x) (λ t n. IsSegmentFlag t n) flag bytes (flag == 0) _ _
    (row_found (λ t x. IsData t x) (λ t n. IsSegmentFlag t n) 0 (λ x. data_from (ActiveData 0 x.0) x.1) _ _ bytes_in_first_exact (λ t x h. inl h) flag bytes)
    (row_or (λ t x. IsData t x) (λ t n. IsSegmentFlag t n) flag bytes (flag == 1) _ _
    (row_found (λ t x. IsData t x) (λ t n. IsSegmentFlag t n) 1 (λ x. data_from PassiveData x) _ _ bytes_exact (λ t x h. inr (inl h)) flag bytes)
    (row_or (λ t x. IsData t x) (λ t n. IsSegmentFlag t n) flag bytes (flag == 2) _ _
    (row_found (λ t x. IsData t x) (λ t n. IsSegmentFlag t n) 2 (λ x. data_from (ActiveData x.0 x.1.0) x.1.1) _ _ bytes_in_memory_exact (λ t x h. inr (inr h)) flag bytes)
    (no_row (λ t x. IsData t x) (λ t n. IsSegmentFlag t n) flag bytes)))

data_again : (text : List ℕ) (x : DataSegment) → IsData text x → HasRow (λ t n. IsSegmentFlag t n) (λ flag b. data_rows flag b) text x
data_again text x (inl h) =
    row_again (λ t n. IsSegmentFlag t n) (λ flag b. data_rows flag b) 0 (λ x. data_from (ActiveData 0 x.0) x.1) _ _ bytes_in_first_exact (λ b. refl) text x h
data_again text x (inr (inl h)) = row_again (λ t n. IsSegmentFlag t n) (λ flag b. data_rows flag b) 1 (λ x. data_from PassiveData x) _ _ bytes_exact (λ b. refl) text x h
data_again text x (inr (inr h)) = row_again (λ t n. IsSegmentFlag t n) (λ flag b. data_rows flag b) 2 (λ x. data_from (ActiveData x.0 x.1.0) x.1.1) _ _ bytes_in_memory_exact (λ b. refl) text x h

pub data_exact : IsExact (λ t x. IsData t x) (λ b. data_at b)
data_exact = switch_exact (λ t x. IsData t x) (λ t n. IsSegmentFlag t n) (λ b. u32_at b) u32_exact (λ flag b. data_rows flag b) data_found data_again
