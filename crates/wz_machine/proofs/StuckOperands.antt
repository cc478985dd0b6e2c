-- Operands that the rule of an instruction takes, and what it is for an effect to do what its rule says.
use Rattle.std.proofs.Common.{◌≡◌, ◌^◌, ◌∷◌, [], ℕ, if◌then◌else◌, Bool, true, false, refl, List, IsTrue, nat_lt, subst, sym, Option, slice_get, map, Some, option_map, None, reverse, drop, length}
use Rattle.std.proofs.lemmas.Option.{slice_get-map}
use Rattle.wz_types.specs.declared.value.Value.{Value}
use Rattle.wz_types.specs.declared.types.ValType.{ValType}
use Rattle.wz_types.specs.declared.value.Value.TheVariants.{I32, I64, F32, F64, Ref}
use Rattle.wz_types.specs.declared.value.Reference.TheVariants.{Null, Fn, Foreign}
use Rattle.wz_types.specs.declared.types.RefKind.{RefKind}
use Rattle.wz_types.specs.Fits.{type_of_kind, kind_of}
use Rattle.wz_types.specs.declared.value.Reference.{Reference}
use Rattle.wz_types.specs.SameType.{same_kind}
use Rattle.wz_types.specs.declared.types.ValType.TheVariants as valtype
use Rattle.wz_types.specs.declared.types.RefKind.TheVariants as kind
use Rattle.wz_types.specs.declared.value.Sort.TheVariants as sort
use Rattle.wz_valid_code.specs.Context.{TypingContext}
use Rattle.wz_valid_code.specs.Rules.{Rule, Leads, rule_from, Exchange}
use Rattle.wz_valid_code.specs.Operands.{Operands, pushed}
use Rattle.wz_machine.specs.TypedState.{HasType, state_context}
use Rattle.wz_machine.specs.State.{State}
use Rattle.wz_machine.specs.Outcomes.{Effect}
use Rattle.wz_machine.proofs.StuckRelations.{Have, Offered, EffectServes}
use Rattle.wz_machine.proofs.StuckValues.{stand-taken}

-- ---- tests

-- the arm of a test that holds
pub if-true : {A : Type 0} (P : A → Type 0) (b : Bool) (x y : A) → b ≡ true → P x → P (if b then x else y)
if-true P true x y e h = h
if-true P false x y e h = absurd (cc e)

-- the arm of a test, which is known there
pub if-tested : {A : Type 0} (P : A → Type 0) (b : Bool) (x y : A) → (b ≡ true → P x) → P y → P (if b then x else y)
if-tested P true x y h k = h refl
if-tested P false x y h k = k

-- ---- a number on top of the stack

-- an i32 stands on top
pub take-i32 : (context : TypingContext) (P : List Value → Type 0) (types : List ValType)
    → ((bits : ℕ) (values : List Value) → IsTrue (nat_lt bits (2 ^ 32)) → Offered context types values → P (I32 bits ∷ values))
    → (values : List Value) → Offered context (valtype.I32 ∷ types) values → P values
take-i32 context P types use_it [] h = absurd h
take-i32 context P types use_it (I32 bits ∷ values) h = use_it bits values h.0 h.1
take-i32 context P types use_it (I64 bits ∷ values) h = absurd (let e = h.0 in cc)
take-i32 context P types use_it (F32 bits ∷ values) h = absurd (let e = h.0 in cc)
take-i32 context P types use_it (F64 bits ∷ values) h = absurd (let e = h.0 in cc)
take-i32 context P types use_it (Ref (Null kind.Func) ∷ values) h = absurd (let e = h.0 in cc)
take-i32 context P types use_it (Ref (Null kind.Extern) ∷ values) h = absurd (let e = h.0 in cc)
take-i32 context P types use_it (Ref (Fn index) ∷ values) h = absurd (let e = h.0 in cc)
take-i32 context P types use_it (Ref (Foreign id sort.Extern) ∷ values) h = absurd (let e = h.0 in cc)
take-i32 context P types use_it (Ref (Foreign id (sort.Func number)) ∷ values) h = absurd (let e = h.0 in cc)
take-i32 context P types use_it (Ref (Foreign id sort.OtherFunc) ∷ values) h = absurd (let e = h.0 in cc)

-- ---- references

-- a value of a reference's type is a reference
ref-of : (context : TypingContext) (kind : RefKind) (value : Value) → HasType context value (type_of_kind kind) → (reference : Reference) × (value ≡ Ref reference)
ref-of context kind.Func (I32 bits) h = absurd (cc h)
ref-of context kind.Func (I64 bits) h = absurd (cc h)
ref-of context kind.Func (F32 bits) h = absurd (cc h)
ref-of context kind.Func (F64 bits) h = absurd (cc h)
ref-of context kind.Extern (I32 bits) h = absurd (cc h)
ref-of context kind.Extern (I64 bits) h = absurd (cc h)
ref-of context kind.Extern (F32 bits) h = absurd (cc h)
ref-of context kind.Extern (F64 bits) h = absurd (cc h)
ref-of context kind (Ref reference) h = (reference, refl)

-- a reference that fits a kind is of that kind
pub kind-fits : (context : TypingContext) (reference : Reference) (kind : RefKind) → HasType context (Ref reference) (type_of_kind kind)
    → same_kind (kind_of reference) kind ≡ true
kind-fits context (Null kind.Func) kind.Func h = refl
kind-fits context (Null kind.Extern) kind.Extern h = refl
kind-fits context (Null kind.Func) kind.Extern h = absurd (cc h)
kind-fits context (Null kind.Extern) kind.Func h = absurd (cc h)
kind-fits context (Fn index) kind.Func h = refl
kind-fits context (Fn index) kind.Extern h = absurd (cc h)
kind-fits context (Foreign id sort.Extern) kind.Func h = absurd (cc h)
kind-fits context (Foreign id sort.Extern) kind.Extern h = refl
kind-fits context (Foreign id (sort.Func number)) kind.Func h = refl
kind-fits context (Foreign id (sort.Func number)) kind.Extern h = absurd (cc h)
kind-fits context (Foreign id sort.OtherFunc) kind.Func h = refl
kind-fits context (Foreign id sort.OtherFunc) kind.Extern h = absurd (cc h)

pub take-ref : (context : TypingContext) (P : List Value → Type 0) (kind : RefKind) (types : List ValType)
    → ((reference : Reference) (values : List Value) → HasType context (Ref reference) (type_of_kind kind) → Offered context types values → P (Ref reference ∷ values))
    → (values : List Value) → Offered context (type_of_kind kind ∷ types) values → P values
take-ref context P kind types use_it [] h = absurd h
take-ref context P kind types use_it (value ∷ values) h =
    let r = ref-of context kind value h.0 in
    subst (λ (v : Value). P (v ∷ values)) (sym r.1) (use_it r.0 values (subst (λ (v : Value). HasType context v (type_of_kind kind)) r.1 h.0) h.1)

-- three numbers on top
pub take-three : (context : TypingContext) (P : List Value → Type 0) → ((c b a : ℕ) (values : List Value) → P (I32 c ∷ I32 b ∷ I32 a ∷ values))
    → (values : List Value) → Offered context (valtype.I32 ∷ valtype.I32 ∷ valtype.I32 ∷ []) values → P values
take-three context P use_it values h =
    take-i32 context P (valtype.I32 ∷ valtype.I32 ∷ [])
    (λ c vs lt off. take-i32 context (λ vs. P (I32 c ∷ vs)) (valtype.I32 ∷ [])
    (λ b vs lt off. take-i32 context (λ vs. P (I32 c ∷ I32 b ∷ vs)) []
    (λ a vs lt off. use_it c b a vs) vs off) vs off) values h

-- ---- rules of a lookup

pub rule-cases : {X Y : Type 0} (view : X → Y) (xs : List X) (i : ℕ) (R : Y → Rule) (P : Option X → Type 0) (before next : Operands)
    → Leads (rule_from (slice_get (map view xs) i) R) before next → ((x : X) → slice_get xs i ≡ Some x → Leads (R (view x)) before next → P (Some x)) → P (slice_get xs i)
rule-cases {X = X} {Y = Y} view xs i R P before next h use_it =
    by (slice_get xs i) refl (subst (λ (o : Option Y). Leads (rule_from o R) before next) (slice_get-map view xs i) h)
  where
    by : (o : Option X) → slice_get xs i ≡ o → Leads (rule_from (option_map view o) R) before next → P o
    by None is l = absurd l
    by (Some x) is l = use_it x is l

-- an effect does what a rule says that takes and gives these types
abbrev pub Serves : State → (List Value → Effect) → List ValType → List ValType → Type 0
Serves s f takes gives =
    (values : List Value) (below : Operands) → Offered (state_context s) (reverse takes) values → Have s (drop (length (reverse takes)) values) below
    → EffectServes s (pushed gives below) (f values)

pub by-rule : (s : State) (f : List Value → Effect) (takes gives : List ValType) (values : List Value) (before next : Operands) → Serves s f takes gives
    → Leads (Exchange takes gives) before next → Have s values before → EffectServes s next (f values)
by-rule s f takes gives values before next serves (below, t, is) st =
    let r = stand-taken (state_context s) (reverse takes) values before below t st in
    subst (λ (x : Operands). EffectServes s x (f values)) (sym is) (serves values below r.0 r.1)
