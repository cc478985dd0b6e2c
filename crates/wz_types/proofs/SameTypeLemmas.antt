-- The tests of types are equality.
use Rattle.std.proofs.Common.{◌≡◌, List, [], ◌∷◌, Bool, true, false, IsTrue, refl, subst, ◌&&◌}
use Rattle.wz_types.specs.declared.types.ValType.{ValType}
use Rattle.wz_types.specs.declared.types.ValType.TheVariants.{I32, I64, F32, F64, FuncRef, ExternRef}
use Rattle.wz_types.specs.declared.types.RefKind.{RefKind}
use Rattle.wz_types.specs.declared.types.RefKind.TheVariants.{Func, Extern}
use Rattle.wz_types.specs.FunctionType.{FunctionType}
use Rattle.wz_types.specs.SameType.{same_type, same_kind, same_types, same_function_type}
use Rattle.wz_types.specs.Laws.{SameType, SameKind, SameTypes, SameFunctionType}

pub and-intro : (a b : Bool) → IsTrue a → IsTrue b → IsTrue (a && b)
and-intro true b ha hb = hb
and-intro false b ha hb = ha

pub and-parts : (a b : Bool) → IsTrue (a && b) → IsTrue a × IsTrue b
and-parts true b h = (refl, h)
and-parts false b h = absurd (cc)

pub same_type-itself : (a : ValType) → IsTrue (same_type a a)
same_type-itself I32 = refl
same_type-itself I64 = refl
same_type-itself F32 = refl
same_type-itself F64 = refl
same_type-itself FuncRef = refl
same_type-itself ExternRef = refl

pub same_type-true : (a b : ValType) → IsTrue (same_type a b) → a ≡ b
same_type-true I32 I32 h = refl
same_type-true I64 I64 h = refl
same_type-true F32 F32 h = refl
same_type-true F64 F64 h = refl
same_type-true FuncRef FuncRef h = refl
same_type-true ExternRef ExternRef h = refl
same_type-true a b h = cc

pub same_kind-itself : (a : RefKind) → IsTrue (same_kind a a)
same_kind-itself Func = refl
same_kind-itself Extern = refl

pub same_kind-true : (a b : RefKind) → IsTrue (same_kind a b) → a ≡ b
same_kind-true Func Func h = refl
same_kind-true Extern Extern h = refl
same_kind-true a b h = cc

pub same_types-itself : (types : List ValType) → IsTrue (same_types types types)
same_types-itself [] = refl
same_types-itself (a ∷ types) = and-intro (same_type a a) (same_types types types) (same_type-itself a) (same_types-itself types)

pub same_types-true : (one other : List ValType) → IsTrue (same_types one other) → one ≡ other
same_types-true [] [] h = refl
same_types-true (a ∷ one) (b ∷ other) h =
    let p = and-parts (same_type a b) (same_types one other) h in
    let first : a ≡ b = same_type-true a b p.0 in
    let rest : one ≡ other = same_types-true one other p.1 in
    cc
same_types-true [] (b ∷ other) h = cc
same_types-true (a ∷ one) [] h = cc

pub same_function_type-itself : (a : FunctionType) → IsTrue (same_function_type a a)
same_function_type-itself a = and-intro (same_types a.params a.params) (same_types a.results a.results) (same_types-itself a.params) (same_types-itself a.results)

type-from : List ValType → List ValType → FunctionType
type-from params results = record { params = params; results = results }

parts-same : (params results others : List ValType) (more : List ValType) → params ≡ others → results ≡ more → type-from params results ≡ type-from others more
parts-same params results others more e f = cc

pub same_function_type-true : (a b : FunctionType) → IsTrue (same_function_type a b) → a ≡ b
unfolding type-from
same_function_type-true a b h =
    let p = and-parts (same_types a.params b.params) (same_types a.results b.results) h in
    parts-same a.params a.results b.params b.results (same_types-true a.params b.params p.0) (same_types-true a.results b.results p.1)

-- ---- the laws

pub same_type_law : SameType
same_type_law a b = (same_type-true a b, λ e. (let P : ValType → Type 0 = λ x. IsTrue (same_type a x) in subst P e (same_type-itself a)))

pub same_kind_law : SameKind
same_kind_law a b = (same_kind-true a b, λ e. (let P : RefKind → Type 0 = λ x. IsTrue (same_kind a x) in subst P e (same_kind-itself a)))

pub same_types_law : SameTypes
same_types_law one other = (same_types-true one other, λ e. (let P : List ValType → Type 0 = λ x. IsTrue (same_types one x) in subst P e (same_types-itself one)))

pub same_function_type_law : SameFunctionType
same_function_type_law a b =
    let P : FunctionType → Type 0 = λ x. IsTrue (same_function_type a x) in
    (same_function_type-true a b, λ e. subst P e (same_function_type-itself a))
