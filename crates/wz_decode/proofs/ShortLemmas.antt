-- A module that few bytes spell has short lists.
use Rattle.std.proofs.Common.{◌≡◌, ℕ, ◌≤◌, List, [], ◌∷◌, length, None, refl, ap, arith}
use Rattle.std.proofs.lemmas.List.{length-append, length-map}
use Rattle.wz_bytes.specs.Reading.{Form, Reading, IsExact}
use Rattle.wz_bytes.specs.Unsigned.{unsigned_at}
use Rattle.wz_bytes.specs.Name.{IsName, name_at}
use Rattle.wz_bytes.specs.Forms.{Both, Made, IsVector, AreItems, IsBytes}
use Rattle.wz_bytes.proofs.ReadingLemmas.{none_given}
use Rattle.wz_code.specs.Trees.{Code}
use Rattle.wz_module.specs.Elements.{function_reference}
use Rattle.wz_decode_code.specs.Types.{IsValType, type_at, kind_at}
use Rattle.wz_decode_code.specs.Instructions.{IsU32}
use Rattle.wz_decode_code.specs.InstrReading.{u32_at}
use Rattle.wz_decode_code.specs.Code.{IsExpression}
use Rattle.wz_decode_sections.specs.Productions.{Production}
use Rattle.wz_decode_sections.specs.FunctionTypes.{IsResultType}
use Rattle.wz_decode_sections.specs.Limits.{table_type_at}
use Rattle.wz_decode_sections.specs.ImportSection.{import_at}
use Rattle.wz_decode_sections.specs.GlobalSection.{global_def_at}
use Rattle.wz_decode_sections.specs.ExportSection.{export_at}
use Rattle.wz_decode_sections.specs.Offsets.{AtOffset, AtPlace}
use Rattle.wz_decode_sections.specs.ElementSection.{AreFunctions, AreExpressions, IsFunctionList, IsExpressionList, elem_at}
use Rattle.wz_decode_sections.specs.CodeSection.{code_entry_at}
use Rattle.wz_decode_sections.specs.DataSection.{data_at}
use Rattle.wz_decode_sections.proofs.TypeFormLaws.{u32_exact}

-- ---- forms that take a byte at least

abbrev pub TakesSome : {X : Type 0} → Form X → Type 0
TakesSome {X = X} S = (x : X) → S [] x → ⊥

pub no_text : {X : Type 0} (S : Form X) (p : Reading X) → IsExact S p → p [] ≡ None → TakesSome S
no_text S p exact none x h = none_given (x, []) (p []) none (exact.again [] x [] h)

pub none_u32 : u32_at [] ≡ None
unfolding unsigned_at
none_u32 = refl

pub none_import : import_at [] ≡ None
unfolding name_at unsigned_at
none_import = refl

pub none_table : table_type_at [] ≡ None
unfolding kind_at
none_table = refl

pub none_global : global_def_at [] ≡ None
unfolding type_at
none_global = refl

pub none_export : export_at [] ≡ None
unfolding name_at unsigned_at
none_export = refl

pub none_elem : elem_at [] ≡ None
unfolding unsigned_at
none_elem = refl

pub none_entry : code_entry_at [] ≡ None
unfolding unsigned_at
none_entry = refl

pub none_data : data_at [] ≡ None
unfolding unsigned_at
none_data = refl

some_bytes : {X : Type 0} (S : Form X) → TakesSome S → (text : List ℕ) (x : X) → S text x → 1 ≤ length text
some_bytes S some [] x h = absurd (some x h)
some_bytes S some (b ∷ text) x h = omega arith

pub items_within : {X : Type 0} (S : Form X) → TakesSome S → (xs : List X) (text : List ℕ) → AreItems S text xs → length xs ≤ length text
items_within S some [] text h = omega arith
items_within S some (x ∷ xs) text h =
    omega (arith, items_within S some xs h.1 h.4, some_bytes S some h.0 x h.3, ap (λ (l : List ℕ). length l) h.2, length-append h.0 h.1)

pub vector_within : {X : Type 0} (S : Form X) → TakesSome S → (xs : List X) (text : List ℕ) → IsVector S text xs → length xs ≤ length text
vector_within S some xs text h = omega (arith, items_within S some xs h.1 h.4, ap (λ (l : List ℕ). length l) h.2, length-append h.0 h.1)

-- ---- what a form has in it is no longer than its text

abbrev pub Measures : {X : Type 0} → Form X → (X → ℕ) → Type 0
Measures {X = X} S size = (text : List ℕ) (x : X) → S text x → size x ≤ length text

pub first_within : {X Y : Type 0} (S : Form X) (T : Form Y) (size : X → ℕ) → Measures S size → Measures (Both S T) (λ z. size z.0)
first_within S T size m text z h = omega (arith, m h.0 z.0 h.3, ap (λ (l : List ℕ). length l) h.2, length-append h.0 h.1)

pub second_within : {X Y : Type 0} (S : Form X) (T : Form Y) (size : Y → ℕ) → Measures T size → Measures (Both S T) (λ z. size z.1)
second_within S T size m text z h = omega (arith, m h.1 z.1 h.4, ap (λ (l : List ℕ). length l) h.2, length-append h.0 h.1)

pub made_within : {X Y : Type 0} (f : Y → X) (S : Form Y) (size : X → ℕ) → Measures S (λ y. size (f y)) → Measures (Made f S) size
made_within {X = X} f S size m text x h = omega (arith, m text h.0 h.1, ap size h.2)

pub production_within : {X Y : Type 0} (IsTag : Form ℕ) (k : ℕ) (make : Y → X) (S : Form Y) (size : X → ℕ) → Measures S (λ y. size (make y)) → Measures (Production IsTag k make S) size
production_within IsTag k make S size m text x h = omega (arith, made_within make S size m h.1 x h.4, ap (λ (l : List ℕ). length l) h.2, length-append h.0 h.1)

pub bytes_within : Measures (λ t b. IsBytes t b) (λ b. length b)
bytes_within text b h = omega (arith, ap (λ (l : List ℕ). length l) h.1, length-append h.0 b)

pub name_within : Measures IsName (λ name. length name)
name_within text name h = bytes_within text name h.0

no_type : TakesSome (λ t type. IsValType t type)
no_type x h = let size : 0 ≡ 1 = ap (λ (l : List ℕ). length l) h in omega (arith, size)

no_expression : TakesSome (λ t code. IsExpression t code)
no_expression x h = omega (arith, ap (λ (l : List ℕ). length l) h.1, length-append h.0 (0x0B ∷ []))

pub result_within : Measures (λ t ts. IsResultType t ts) (λ ts. length ts)
result_within text ts h = vector_within (λ t type. IsValType t type) no_type ts text h

pub functions_within : Measures (λ t init. AreFunctions t init) (λ init. length init)
functions_within text init h =
    omega (arith, vector_within (λ t n. IsU32 t n) (no_text (λ t n. IsU32 t n) (λ b. u32_at b) u32_exact none_u32) h.0 text h.1, ap (λ (l : List Code). length l) h.2, length-map h.0 function_reference)

pub expressions_within : Measures (λ t init. AreExpressions t init) (λ init. length init)
expressions_within text init h = vector_within (λ t code. IsExpression t code) no_expression init text h

pub offset_within : {X : Type 0} (S : Form X) (size : X → ℕ) → Measures S size → Measures (λ t x. AtOffset S t x) (λ x. size x.1)
offset_within S size m text x h = second_within (λ t code. IsExpression t code) S size m text x h

pub place_within : {X : Type 0} (S : Form X) (size : X → ℕ) → Measures S size → Measures (λ t x. AtPlace S t x) (λ x. size x.1.1)
place_within S size m text x h = second_within (λ t n. IsU32 t n) (λ t y. AtOffset S t y) (λ y. size y.1) (offset_within S size m) text x h

pub function_list_within : Measures (λ t x. IsFunctionList t x) (λ x. length x.1)
function_list_within text x h = omega (arith, functions_within h.1 x.1 h.4, ap (λ (l : List ℕ). length l) h.2, length-append h.0 h.1)

pub expression_list_within : Measures (λ t x. IsExpressionList t x) (λ x. length x.1)
expression_list_within text x h = omega (arith, expressions_within h.1 x.1 h.4, ap (λ (l : List ℕ). length l) h.2, length-append h.0 h.1)
