-- What it is to fit a type, part by part.
use Rattle.std.proofs.Common.{◌≡◌, ℕ, ◌<◌, ◌^◌, nat_lt, [], ◌∷◌, map, IsTrue, refl, sym, subst, ◌&&◌}
use Rattle.std.proofs.lemmas.Bool.{ltb-true, lt-ltb}
use Rattle.wz_types.specs.declared.types.ValType.{ValType}
use Rattle.wz_types.specs.declared.types.ValType.TheVariants as valtype
use Rattle.wz_types.specs.declared.value.Sort.TheVariants as sort
use Rattle.wz_types.specs.declared.value.Reference.TheVariants.{Null, Fn, Foreign}
use Rattle.wz_types.specs.declared.value.Value.{Value}
use Rattle.wz_types.specs.declared.value.Value.TheVariants as value
use Rattle.wz_types.specs.SameType.{same_type}
use Rattle.wz_types.specs.Fits.{type_of_kind, type_of, value_fits, Fits, all_fit}
use Rattle.wz_types.specs.Zeros.{zero_of, zeros_of}
use Rattle.wz_types.specs.Laws.{IsFitting, FitsExactly, AllFitHaveTypes, ZeroFits, ZerosFit}
use Rattle.wz_types.proofs.SameTypeLemmas.{and-intro, and-parts, same_type-itself, same_type-true}

-- a type that is one with this, and a number below that
both-parts : (type own : ValType) (n limit : ℕ) → IsTrue (same_type type own && nat_lt n limit) → (own ≡ type) × (n < limit)
both-parts type own n limit h =
    let p = and-parts (same_type type own) (nat_lt n limit) h in
    (sym (same_type-true type own p.0), ltb-true n limit p.1)

both-intro : (type own : ValType) (n limit : ℕ) → own ≡ type → n < limit → IsTrue (same_type type own && nat_lt n limit)
both-intro type own n limit e less =
    let P : ValType → Type 0 = λ x. IsTrue (same_type x own) in
    and-intro (same_type type own) (nat_lt n limit) (subst P e (same_type-itself own)) (lt-ltb n limit less)

one-intro : (type own : ValType) → own ≡ type → IsTrue (same_type type own)
one-intro type own e = let P : ValType → Type 0 = λ x. IsTrue (same_type x own) in subst P e (same_type-itself own)

pub fits-parts : (value : Value) (type : ValType) (functions types : ℕ) → Fits value type functions types → IsFitting value type functions types
fits-parts (value.I32 bits) type functions types h = let p = both-parts type valtype.I32 bits (2 ^ 32) h in record { has_type = p.0; has_width = p.1; names_there = tt }
fits-parts (value.I64 bits) type functions types h = let p = both-parts type valtype.I64 bits (2 ^ 64) h in record { has_type = p.0; has_width = p.1; names_there = tt }
fits-parts (value.F32 bits) type functions types h = let p = both-parts type valtype.F32 bits (2 ^ 32) h in record { has_type = p.0; has_width = p.1; names_there = tt }
fits-parts (value.F64 bits) type functions types h = let p = both-parts type valtype.F64 bits (2 ^ 64) h in record { has_type = p.0; has_width = p.1; names_there = tt }
fits-parts (value.Ref (Null kind)) type functions types h = record { has_type = sym (same_type-true type (type_of_kind kind) h); has_width = tt; names_there = tt }
fits-parts (value.Ref (Fn index)) type functions types h =
    let p = both-parts type valtype.FuncRef index functions h in
    record { has_type = p.0; has_width = tt; names_there = p.1 }
fits-parts (value.Ref (Foreign id sort.Extern)) type functions types h = record { has_type = sym (same_type-true type valtype.ExternRef h); has_width = tt; names_there = tt }
fits-parts (value.Ref (Foreign id (sort.Func number))) type functions types h =
    let p = both-parts type valtype.FuncRef number types h in
    record { has_type = p.0; has_width = tt; names_there = p.1 }
fits-parts (value.Ref (Foreign id sort.OtherFunc)) type functions types h = record { has_type = sym (same_type-true type valtype.FuncRef h); has_width = tt; names_there = tt }

pub parts-fit : (value : Value) (type : ValType) (functions types : ℕ) → IsFitting value type functions types → Fits value type functions types
parts-fit (value.I32 bits) type functions types p = both-intro type valtype.I32 bits (2 ^ 32) p.has_type p.has_width
parts-fit (value.I64 bits) type functions types p = both-intro type valtype.I64 bits (2 ^ 64) p.has_type p.has_width
parts-fit (value.F32 bits) type functions types p = both-intro type valtype.F32 bits (2 ^ 32) p.has_type p.has_width
parts-fit (value.F64 bits) type functions types p = both-intro type valtype.F64 bits (2 ^ 64) p.has_type p.has_width
parts-fit (value.Ref (Null kind)) type functions types p = one-intro type (type_of_kind kind) p.has_type
parts-fit (value.Ref (Fn index)) type functions types p = both-intro type valtype.FuncRef index functions p.has_type p.names_there
parts-fit (value.Ref (Foreign id sort.Extern)) type functions types p = one-intro type valtype.ExternRef p.has_type
parts-fit (value.Ref (Foreign id (sort.Func number))) type functions types p = both-intro type valtype.FuncRef number types p.has_type p.names_there
parts-fit (value.Ref (Foreign id sort.OtherFunc)) type functions types p = one-intro type valtype.FuncRef p.has_type

pub fits_exactly : FitsExactly
fits_exactly value type functions types = (fits-parts value type functions types, parts-fit value type functions types)

pub all_fit_have_types : AllFitHaveTypes
all_fit_have_types [] [] functions types h = refl
all_fit_have_types (value ∷ values) (type ∷ expected) functions types h =
    let p = and-parts (value_fits value type functions types) (all_fit values expected functions types) h in
    let first : type_of value ≡ type = (fits-parts value type functions types p.0).has_type in
    let rest : map (λ value. type_of value) values ≡ expected = all_fit_have_types values expected functions types p.1 in
    cc
all_fit_have_types [] (type ∷ expected) functions types h = absurd (cc)
all_fit_have_types (value ∷ values) [] functions types h = absurd (cc)

pub zero_fits : ZeroFits
zero_fits valtype.I32 functions types = refl
zero_fits valtype.I64 functions types = refl
zero_fits valtype.F32 functions types = refl
zero_fits valtype.F64 functions types = refl
zero_fits valtype.FuncRef functions types = refl
zero_fits valtype.ExternRef functions types = refl

pub zeros_fit : ZerosFit
zeros_fit [] functions types = refl
zeros_fit (type ∷ expected) functions types =
    let first = value_fits (zero_of type) type functions types in
    let others = all_fit (zeros_of expected) expected functions types in
    and-intro first others (zero_fits type functions types) (zeros_fit expected functions types)
