-- Section 5.5.12 of the Core Specification: the element section.
use Rattle.std.specs.Prelude.{◌≡◌, ◌⊎◌, ℕ, List, [], ◌∷◌, map, Some, None, if◌then◌else◌, ◌==◌}
use Rattle.wz_bytes.specs.Reading.{Form, Reading}
use Rattle.wz_bytes.specs.Forms.{Both, both_at, Made, made_at, IsVector, vector_at, switch_at}
use Rattle.wz_types.specs.declared.types.RefKind.{RefKind}
use Rattle.wz_types.specs.declared.types.RefKind.TheVariants as kind
use Rattle.wz_code.specs.Trees.{Code}
use Rattle.wz_module.specs.Elements.{ElemMode, PassiveElem, ActiveElem, DeclarativeElem, Elem, function_reference}
use Rattle.wz_decode_code.specs.Types.{IsRefKind, kind_at}
use Rattle.wz_decode_code.specs.InstrReading.{u32_at}
use Rattle.wz_decode_code.specs.Code.{IsExpression}
use Rattle.wz_decode_code.specs.Reading.{expression_at}
use Rattle.wz_decode_sections.specs.Productions.{Production, IsSegmentFlag}
use Rattle.wz_decode_sections.specs.Offsets.{AtOffset, offset_at, AtPlace, place_at}
use Rattle.wz_decode_sections.specs.FunctionSection.{AreIndices, indices_at}

-- elemkind ::= 0x00, which is funcref
abbrev pub IsElemKind : Form RefKind
IsElemKind text type = (text ≡ 0x00 ∷ []) × (type ≡ kind.Func)

-- vec(funcidx), where each index y is short for the expression ref.func y
abbrev pub AreFunctions : Form (List Code)
AreFunctions text init = Made (λ indices. map function_reference indices) (λ t ns. AreIndices t ns) text init

-- vec(expr)
abbrev pub AreExpressions : Form (List Code)
AreExpressions text init = IsVector (λ t code. IsExpression t code) text init

-- the kind of a segment's references, and the expression of each
abbrev pub References : Type 0
References = RefKind × List Code

-- elemkind vec(funcidx)
abbrev pub IsFunctionList : Form References
IsFunctionList text x = Both (λ t kind. IsElemKind t kind) (λ t init. AreFunctions t init) text x

-- reftype vec(expr)
abbrev pub IsExpressionList : Form References
IsExpressionList text x = Both (λ t kind. IsRefKind t kind) (λ t init. AreExpressions t init) text x

abbrev pub elem_from : ElemMode → References → Elem
elem_from mode x = record { mode = mode; kind = x.0; init = x.1 }

-- an active segment of functions in table 0
abbrev pub elem_in_first : Code × List Code → Elem
elem_in_first x = elem_from (ActiveElem 0 x.0) (kind.Func, x.1)

-- an active segment with its table
abbrev pub elem_in_table : ℕ × (Code × References) → Elem
elem_in_table x = elem_from (ActiveElem x.0 x.1.0) x.1.1

-- elem ::= 0:u32 expr vec(funcidx)                     active in table 0
--        | 1:u32 elemkind vec(funcidx)                 passive
--        | 2:u32 tableidx expr elemkind vec(funcidx)   active
--        | 3:u32 elemkind vec(funcidx)                 declarative
--        | 4:u32 expr vec(expr)                        active in table 0
--        | 5:u32 reftype vec(expr)                     passive
--        | 6:u32 tableidx expr reftype vec(expr)       active
--        | 7:u32 reftype vec(expr)                     declarative
abbrev pub IsElem : Form Elem
IsElem text elem =
    Production IsSegmentFlag 0 (λ x. elem_in_first x) (λ t x. AtOffset AreFunctions t x) text elem
    ⊎ (Production IsSegmentFlag 1 (λ x. elem_from PassiveElem x) IsFunctionList text elem
    ⊎ (Production IsSegmentFlag 2 (λ x. elem_in_table x) (λ t x. AtPlace IsFunctionList t x) text elem
    ⊎ (Production IsSegmentFlag 3 (λ x. elem_from DeclarativeElem x) IsFunctionList text elem
    ⊎ (Production IsSegmentFlag 4 (λ x. elem_in_first x) (λ t x. AtOffset AreExpressions t x) text elem
    ⊎ (Production IsSegmentFlag 5 (λ x. elem_from PassiveElem x) IsExpressionList text elem
    ⊎ (Production IsSegmentFlag 6 (λ x. elem_in_table x) (λ t x. AtPlace IsExpressionList t x) text elem
    ⊎ Production IsSegmentFlag 7 (λ x. elem_from DeclarativeElem x) IsExpressionList text elem))))))

-- elemsec ::= vec(elem)
abbrev pub IsElementSection : Form (List Elem)
IsElementSection payload elements = IsVector (λ t elem. IsElem t elem) payload elements

-- ---- what stands in front of bytes

abbrev pub elem_kind_at : Reading RefKind
elem_kind_at [] = None
elem_kind_at (b ∷ bytes) = if b == 0x00 then Some (kind.Func, bytes) else None

abbrev pub functions_at : Reading (List Code)
functions_at bytes = made_at (λ indices. map function_reference indices) (λ b. indices_at b) bytes

abbrev pub expressions_at : Reading (List Code)
expressions_at bytes = vector_at (λ b. expression_at b) bytes

abbrev pub function_list_at : Reading References
function_list_at bytes = both_at (λ b. elem_kind_at b) (λ b. functions_at b) bytes

abbrev pub expression_list_at : Reading References
expression_list_at bytes = both_at (λ b. kind_at b) (λ b. expressions_at b) bytes

abbrev pub elem_rows : ℕ → Reading Elem
elem_rows flag bytes =
    if flag == 0 then made_at (λ x. elem_in_first x) (λ b. offset_at (λ b. functions_at b) b) bytes
    else (if flag == 1 then made_at (λ x. elem_from PassiveElem x) (λ b. function_list_at b) bytes
    else (if flag == 2 then made_at (λ x. elem_in_table x) (λ b. place_at (λ b. function_list_at b) b) bytes
    else (if flag == 3 then made_at (λ x. elem_from DeclarativeElem x) (λ b. function_list_at b) bytes
    else (if flag == 4 then made_at (λ x. elem_in_first x) (λ b. offset_at (λ b. expressions_at b) b) bytes
    else (if flag == 5 then made_at (λ x. elem_from PassiveElem x) (λ b. expression_list_at b) bytes
    else (if flag == 6 then made_at (λ x. elem_in_table x) (λ b. place_at (λ b. expression_list_at b) b) bytes
    else (if flag == 7 then made_at (λ x. elem_from DeclarativeElem x) (λ b. expression_list_at b) bytes
    else None)))))))

abbrev pub elem_at : Reading Elem
elem_at bytes = switch_at (λ b. u32_at b) (λ flag b. elem_rows flag b) bytes
