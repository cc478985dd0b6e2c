-- What the check's context and answers say of a module.
use Rattle.std.proofs.Common.{◌≡◌, ℕ, zero, suc, ◌<◌, ◌≤◌, List, [], ◌∷◌, ◌++◌, length, get_or, Option, Some, None, IsSomeAnd, MatchBool, IfOk, Result, Ok, Err, inl}
use Rattle.std.proofs.Common.{Bool, true, false, IsTrue, refl, sym, ap, subst, ◌∙◌, map, take, slice_get, All, arith}
use Rattle.std.specs.Prelude.{nat_lt, if◌then◌else◌}
use Rattle.std.proofs.lemmas.Bool.{ltb-true}
use Rattle.std.proofs.lemmas.List.{take-map}
use Rattle.std.proofs.lemmas.Option.{slice_get-get_or}
use Rattle.std.proofs.Math.ListN.{length-append}
use Rattle.wz_types.specs.declared.types.ValType.{ValType}
use Rattle.wz_types.specs.declared.types.ValType.TheVariants.{FuncRef}
use Rattle.wz_types.specs.declared.types.RefKind.{RefKind}
use Rattle.wz_types.specs.declared.types.RefKind.TheVariants.{Func}
use Rattle.wz_types.specs.Fits.{type_of_kind}
use Rattle.wz_types.specs.declared.types.GlobalType.{GlobalType}
use Rattle.wz_types.specs.FunctionType.{FunctionType}
use Rattle.wz_code.specs.Trees.{Code}
use Rattle.wz_valid_code.specs.Rules.{Exchange, Leads, rule_if}
use Rattle.wz_valid_code.specs.Context.{TypingContext, HasTypes, scope_of, if_constant, may_refer}
use Rattle.wz_valid_code.specs.Typing.{IsConstant}
use Rattle.wz_valid_code.specs.Laws.{Serves}
use Rattle.wz_module.specs.declared.items.Import as import
use Rattle.wz_module.specs.declared.items.ImportKind.{ImportKind}
use Rattle.wz_module.specs.declared.items.ImportKind.TheVariants as kind
use Rattle.wz_module.specs.Imports.{Import}
use Rattle.wz_module.specs.Elements.{function_reference}
use Rattle.wz_module.specs.Functions.{BodyTree}
use Rattle.wz_module.specs.Views.{import_of}
use Rattle.wz_module.specs.Module.{Module}
use Rattle.wz_valid.specs.declared.faults.Part.{Part}
use Rattle.wz_valid.specs.declared.faults.Part.TheVariants as part
use Rattle.wz_valid.specs.Indices.{global_import, imported_memories, imported_globals, all_functions}
use Rattle.wz_valid.specs.Contexts.{context_of, globals_context_of}
use Rattle.wz_valid.specs.Items.{IsImportOk, IsTreeTyped, IsBodyOk}
use Rattle.wz_valid.specs.Checking.{SaysSame, IsContextOf, TellsItem, AreItemsBeforeOk}
use Rattle.wz_valid.specs.Validity.{IsItemOk, part_rank}
use Rattle.wz_valid.proofs.ContextLemmas.{AgreeOnConstants, constants_agree}
use Rattle.wz_valid.proofs.ListLemmas.{item_at}
use Rattle.wz_valid.proofs.LawLemmas.{types_by_parts}

-- ---- answers

-- the answer to a question is that to another which holds where it does
pub tells_same : (P Q : Type 0) (b : Bool) → (P → Q) → (Q → P) → MatchBool b P (P → ⊥) → MatchBool b Q (Q → ⊥)
tells_same P Q true there back h = there h
tells_same P Q false there back h = λ q. h (back q)

pub tells_in : {E : Type 0} (P Q : Type 0) (r : Result Bool E) → (P → Q) → (Q → P) → IfOk r (λ ok. MatchBool ok P (P → ⊥)) → IfOk r (λ ok. MatchBool ok Q (Q → ⊥))
tells_in P Q (Ok b) there back h = tells_same P Q b there back h
tells_in P Q (Err e) there back h = tt

-- ---- contexts that say the same

pub says_back : (one other : TypingContext) → SaysSame one other → SaysSame other one
says_back one other same = record {
  types = sym same.types;
  functions = sym same.functions;
  tables = sym same.tables;
  memories = sym same.memories;
  globals = sym same.globals;
  imported_globals = sym same.imported_globals;
  elements = sym same.elements;
  datas = sym same.datas;
  declared = λ f. sym (same.declared f);
}

same_on_constants : (one other : TypingContext) → SaysSame one other → AgreeOnConstants one other
same_on_constants one other same = record {
  functions = same.functions;
  declared = same.declared;
  globals = λ index.
      ap (λ (n : ℕ). if nat_lt index n then if_constant (slice_get one.globals index) else None) same.imported_globals
      ∙ ap (λ (gs : List GlobalType). if nat_lt index other.imported_globals then if_constant (slice_get gs index) else None) same.globals;
}

-- what is constant in the one is in the other
pub constant_same : (one other : TypingContext) → SaysSame one other → (code : Code) (type : ValType) → IsConstant one code type → IsConstant other code type
constant_same one other same code type t = constants_agree one other (same_on_constants one other same) code [] type t

pub scopes_serve : (one other : TypingContext) → SaysSame one other → (type : FunctionType) (runs : List (ℕ × ValType)) → Serves (scope_of one type runs) (scope_of other type runs)
scopes_serve one other same type runs = record {
  types = same.types;
  functions = same.functions;
  tables = same.tables;
  memories = same.memories;
  globals = same.globals;
  elements = same.elements;
  datas = same.datas;
  locals = refl;
  results = refl;
  declared = λ f h. subst (λ (b : Bool). IsTrue b) (same.declared f) h;
}

-- ---- constant expressions read imported globals alone

first_items : {X : Type 0} (xs ys : List X) (i : ℕ) → i < length xs → slice_get (xs ++ ys) i ≡ slice_get xs i
first_items [] ys i less = absurd (omega (arith, less))
first_items (x ∷ xs) ys zero less = refl
first_items (x ∷ xs) ys (suc i) less = first_items xs ys i (omega (arith, less))

first_globals : (imported own : List GlobalType) (index : ℕ) → (if nat_lt index (length imported) then if_constant (slice_get (imported ++ own) index) else None)
    ≡ (if nat_lt index (length imported) then if_constant (slice_get imported index) else None)
first_globals imported own index = by (nat_lt index (length imported)) refl where
  by : (b : Bool) → nat_lt index (length imported) ≡ b
      → (if b then if_constant (slice_get (imported ++ own) index) else None) ≡ (if b then if_constant (slice_get imported index) else None)
  by true less = ap (λ (o : Option GlobalType). if_constant o) (first_items imported own index (ltb-true index (length imported) less))
  by false past = refl

globals_agree : (m : Module) → AgreeOnConstants (context_of m) (globals_context_of m)
globals_agree m = record {
  functions = refl;
  declared = λ f. refl;
  globals = λ index. first_globals (imported_globals m.imports) (map (λ g. g.kind) m.globals) index;
}

agree_back : (one other : TypingContext) → AgreeOnConstants one other → AgreeOnConstants other one
agree_back one other agree = record { functions = sym agree.functions; declared = λ f. sym (agree.declared f); globals = λ index. sym (agree.globals index) }

-- C and C' have the same constant expressions
pub constant_of_globals : (m : Module) (code : Code) (type : ValType) → IsConstant (context_of m) code type → IsConstant (globals_context_of m) code type
constant_of_globals m code type t = constants_agree (context_of m) (globals_context_of m) (globals_agree m) code [] type t

pub constant_of_all : (m : Module) (code : Code) (type : ValType) → IsConstant (globals_context_of m) code type → IsConstant (context_of m) code type
constant_of_all m code type t = constants_agree (globals_context_of m) (context_of m) (agree_back (context_of m) (globals_context_of m) (globals_agree m)) code [] type t

-- ---- items

-- a question of the item that is there
pub tells_some : {Y : Type 0} (P : Y → Type 0) (o : Option Y) (y : Y) (b : Bool) → o ≡ Some y → MatchBool b (P y) (P y → ⊥) → MatchBool b (IsSomeAnd o P) (IsSomeAnd o P → ⊥)
tells_some {Y = Y} P o y b here h = subst (λ (x : Option Y). MatchBool b (IsSomeAnd x P) (IsSomeAnd x P → ⊥)) (sym here) h

pub tells_at : {Y E : Type 0} (P : Y → Type 0) (o : Option Y) (y : Y) (r : Result Bool E) → o ≡ Some y → IfOk r (λ ok. MatchBool ok (P y) (P y → ⊥))
    → IfOk r (λ ok. MatchBool ok (IsSomeAnd o P) (IsSomeAnd o P → ⊥))
tells_at {Y = Y} P o y r here h = subst (λ (x : Option Y). IfOk r (λ ok. MatchBool ok (IsSomeAnd x P) (IsSomeAnd x P → ⊥))) (sym here) h

pub none_at : {Y : Type 0} (P : Y → Type 0) (o : Option Y) → o ≡ None → IsSomeAnd o P → ⊥
none_at {Y = Y} P o none h = subst (λ (x : Option Y). IsSomeAnd x P) none h

-- ---- the types of functions, which are there behind the first two parts

pub types_before : (m : Module) (one : Part) (index : ℕ) → 1 < part_rank one → AreItemsBeforeOk m one index → (context : TypingContext) → IsContextOf m context → HasTypes context
types_before m one index late before context says =
    subst (λ (functions : List ℕ). All (λ n. n < length context.types) functions) (sym says.functions)
    (subst (λ (types : List FunctionType). All (λ n. n < length types) (all_functions m)) (sym says.types)
    (types_by_parts m (λ i less. before part.Import i less (inl (omega (arith, late)))) (λ i less. before part.Function i less (inl (omega (arith, late))))))

-- ---- imports

pub import_tells : (m : Module) (imports : List import.Import) (i : ℕ) (d : import.Import) (r : Bool) → map import_of imports ≡ m.imports → i < length imports
    → MatchBool r (IsImportOk m (length (imported_memories (map import_of (take i imports)))) (get_or imports i d).kind)
    (IsImportOk m (length (imported_memories (map import_of (take i imports)))) (get_or imports i d).kind → ⊥)
    → TellsItem m part.Import i r
import_tells m imports i d r lent less tells =
    let P : ℕ → Import → Type 0 = λ n x. IsImportOk m n x.kind in
    let before = λ (xs : List Import). length (imported_memories xs) in
    let same : before (map import_of (take i imports)) ≡ before (take i m.imports) =
    ap before (sym (take-map import_of i imports)) ∙ ap (λ (xs : List Import). before (take i xs)) lent in
    tells_some (P (before (take i m.imports))) (slice_get m.imports i) (import_of (get_or imports i d)) r
    (item_at import_of imports m.imports i (get_or imports i d) lent (slice_get-get_or imports i d less))
    (subst (λ (n : ℕ). MatchBool r (P n (import_of (get_or imports i d))) (P n (import_of (get_or imports i d)) → ⊥)) same tells)

-- ---- expressions

-- the reference to a function is constant where it may be made
reference_tells : (context : TypingContext) (f : ℕ) (r : Bool) → r ≡ may_refer context f
    → MatchBool r (IsConstant context (function_reference f) FuncRef) (IsConstant context (function_reference f) FuncRef → ⊥)
reference_tells context f true may =
    (Some FuncRef ∷ [], subst (λ (b : Bool). Leads (rule_if b (Exchange [] (FuncRef ∷ []))) [] (Some FuncRef ∷ [])) may ([], refl, refl), (refl, refl))
reference_tells context f false may =
    λ t. let none : ⊥ = subst (λ (b : Bool). Leads (rule_if b (Exchange [] (FuncRef ∷ []))) [] t.0) (sym may) t.1 in none

pub reference_of_kind : (one other : TypingContext) (f : ℕ) (sort : RefKind) (r : Bool) → SaysSame one other → sort ≡ Func → r ≡ may_refer one f
    → MatchBool r (IsConstant other (function_reference f) (type_of_kind sort)) (IsConstant other (function_reference f) (type_of_kind sort) → ⊥)
reference_of_kind one other f sort r same is may =
    subst (λ (k : RefKind). MatchBool r (IsConstant other (function_reference f) (type_of_kind k)) (IsConstant other (function_reference f) (type_of_kind k) → ⊥)) (sym is)
    (tells_same (IsConstant one (function_reference f) FuncRef) (IsConstant other (function_reference f) FuncRef) r (constant_same one other same (function_reference f) FuncRef)
    (constant_same other one (says_back one other same) (function_reference f) FuncRef) (reference_tells one f r may))

-- the one fact is known, and the answer is that to the other
pub both_tell : {E : Type 0} (P Q : Type 0) (r : Result Bool E) → P → IfOk r (λ ok. MatchBool ok Q (Q → ⊥)) → IfOk r (λ ok. MatchBool ok (P × Q) (P × Q → ⊥))
both_tell P Q r p h = tells_in Q (P × Q) r (λ q. (p, q)) (λ both. both.1) h

pub tells_true : (P : Type 0) (b : Bool) → b ≡ true → MatchBool b P (P → ⊥) → P
tells_true P true is h = h
tells_true P false is h = absurd cc

pub tells_false : (P : Type 0) (b : Bool) → b ≡ false → MatchBool b P (P → ⊥) → P → ⊥
tells_false P true is h = absurd cc
tells_false P false is h = h

pub constant_at : (context : TypingContext) (code other : Code) (type wanted : ValType) → code ≡ other → type ≡ wanted → IsConstant context code type
    → IsConstant context other wanted
constant_at context code other type wanted same is t =
    subst (λ (v : ValType). IsConstant context other v) is (subst (λ (x : Code). IsConstant context x type) same t)

-- ---- bodies

pub body_tells : {E : Type 0} (m : Module) (i number : ℕ) (signature : FunctionType) (body : BodyTree) (r : Result Bool E) → slice_get m.bodies i ≡ Some body
    → slice_get m.functions i ≡ Some number → slice_get m.types number ≡ Some signature
    → IfOk r (λ ok. MatchBool ok (IsTreeTyped (context_of m) signature body) (IsTreeTyped (context_of m) signature body → ⊥)) → IfOk r (λ ok. TellsItem m part.Code i ok)
body_tells m i number signature body r body_here function_here type_here h =
    tells_at (λ b. IsBodyOk m i b) (slice_get m.bodies i) body r body_here
    (tells_at (λ type. IsSomeAnd (slice_get m.types type) (λ signature. IsTreeTyped (context_of m) signature body)) (slice_get m.functions i) number r function_here
    (tells_at (λ type. IsTreeTyped (context_of m) type body) (slice_get m.types number) signature r type_here h))

pub no_body_type : (m : Module) (i number : ℕ) (body : BodyTree) → slice_get m.bodies i ≡ Some body → slice_get m.functions i ≡ Some number → slice_get m.types number ≡ None
    → IsItemOk m part.Code i → ⊥
no_body_type m i number body body_here function_here none ok =
    let P : Option BodyTree → Type 0 = λ o. IsSomeAnd o (λ b. IsBodyOk m i b) in
    let fine : IsBodyOk m i body = subst P body_here ok in
    let Q : Option ℕ → Type 0 = λ o. IsSomeAnd o (λ type. IsSomeAnd (slice_get m.types type) (λ signature. IsTreeTyped (context_of m) signature body)) in
    none_at (λ signature. IsTreeTyped (context_of m) signature body) (slice_get m.types number) none (subst Q function_here fine)

-- ---- imported globals are among the imports

one_global : (k : ImportKind) → length (global_import k) ≤ 1
one_global (kind.Func type) = omega arith
one_global (kind.Table type) = omega arith
one_global (kind.Memory type) = omega arith
one_global (kind.Global type) = omega arith

pub few_imported_globals : (imports : List Import) → length (imported_globals imports) ≤ length imports
few_imported_globals [] = omega arith
few_imported_globals (i ∷ imports) =
    let one = one_global i.kind in
    let rest = few_imported_globals imports in
    omega (arith, one, rest, length-append (global_import i.kind) (imported_globals imports))
