-- A constant expression of a valid module in the tool's profile is one constant instruction, and has the value of that instruction.
use Rattle.std.proofs.Common.{◌≡◌, ℕ, zero, suc, ◌+◌, ◌^◌, ◌<◌, ◌≤◌, nat_lt, List, [], ◌∷◌, ◌++◌, Option, Some, None, Bool, true, false, IsTrue, is_some, if◌then◌else◌, length, slice_get, option_and_then, refl, sym, ap, subst, ◌∙◌, arith, length-append}
use Rattle.std.specs.List.{All}
use Rattle.std.proofs.Common.{ltb-true, lt-ltb}
use Rattle.std.proofs.lemmas.Option.{slice_get_within}
use Rattle.std.proofs.lemmas.List.Elements.{All-head, All-tail}
use Rattle.std.proofs.Math.ListN.{length-map}
use Rattle.wz_types.specs.declared.types.ValType.{ValType}
use Rattle.wz_types.specs.declared.types.ValType.TheVariants.{I32, I64, F32, F64, FuncRef}
use Rattle.wz_types.specs.declared.types.GlobalType.{GlobalType}
use Rattle.wz_types.specs.declared.value.Reference.TheVariants.{Null, Fn}
use Rattle.wz_types.specs.declared.value.Value.{Value}
use Rattle.wz_types.specs.declared.value.Value.TheVariants as value
use Rattle.wz_types.specs.Fits.{type_of_kind, Fits}
use Rattle.wz_types.proofs.SameTypeLemmas.{and-parts, same_type-itself, same_type-true}
use Rattle.wz_code.specs.declared.instr.Instr.{Instr}
use Rattle.wz_code.specs.declared.instr.Instr.TheVariants.{I32Const, I64Const, F32Const, F64Const, RefNull, RefFunc, GlobalGet}
use Rattle.wz_code.specs.BodyParts.{BodyParts, block_at}
use Rattle.wz_code.specs.Trees.{Code, End, Then, Plain, expand, leaf_in, tree_of, tree_in, tree_by}
use Rattle.wz_code.specs.References.{has_number}
use Rattle.wz_valid_code.specs.Operands.{Operands, Takes}
use Rattle.wz_valid_code.specs.Rules.{Rule, Exchange, rule_if, rule_from, Leads, Lead}
use Rattle.wz_valid_code.specs.Context.{TypingContext, may_refer, constant_global, if_constant}
use Rattle.wz_valid_code.specs.ConstantInstructions.{constant_instr_rule}
use Rattle.wz_valid_code.specs.Blocks.{constant_rules}
use Rattle.wz_valid_code.specs.Typing.{IsConstant, LeadsToConstant}
use Rattle.wz_valid_code.proofs.LawLemmas.{constant-flat}
use Rattle.wz_module.specs.declared.items.ImportKind.{ImportKind}
use Rattle.wz_module.specs.declared.items.ImportKind.TheVariants as import
use Rattle.wz_module.specs.Imports.{Import}
use Rattle.wz_module.specs.Module.{Module}
use Rattle.wz_valid.specs.Indices.{imported_functions, imported_globals, function_import, global_import, all_functions}
use Rattle.wz_valid.specs.Profile.{IsFunctionImport, IsFunctionKind}
use Rattle.wz_machine.specs.State.{FunctionInstance}
use Rattle.wz_machine.specs.Outcomes.{Does}
use Rattle.wz_machine.specs.ReferenceSteps.{ref_func_step}
use Rattle.wz_init.specs.Functions.{import_function, import_functions, own_functions, stored_functions, functions_in, function_in}
use Rattle.wz_init.specs.Constants.{outcome_values, values_behind, single_value, auxiliary_state, constant_value}
use Rattle.wz_init.specs.Plain.{block_value}
use Rattle.wz_init.proofs.BehindLemmas.{as_many_own}

-- ---- each constant instruction pushes one operand

pub pushes : (type : ValType) (before next : Operands) → Leads (Exchange [] (type ∷ [])) before next → next ≡ Some type ∷ before
pushes type before next h = h.2 ∙ ap (λ (below : Operands). Some type ∷ below) (sym h.1)

pub if_leads : (b : Bool) (rule : Rule) (before next : Operands) → Leads (rule_if b rule) before next → IsTrue b × Leads rule before next
if_leads true rule before next h = (refl, h)
if_leads false rule before next h = absurd h

pub from_leads : (o : Option ValType) (before next : Operands) → Leads (rule_from o (λ type. Exchange [] (type ∷ []))) before next
    → (type : ValType) × (o ≡ Some type) × (next ≡ Some type ∷ before)
from_leads None before next h = absurd h
from_leads (Some type) before next h = (type, refl, pushes type before next h)

pub one_more : (context : TypingContext) (instr : Instr) (before next : Operands) → Leads (constant_instr_rule context instr) before next
    → (type : ValType) × (next ≡ Some type ∷ before)
one_more context (I32Const bits) before next h = (I32, pushes I32 before next (if_leads (nat_lt bits (2 ^ 32)) (Exchange [] (I32 ∷ [])) before next h).1)
one_more context (I64Const bits) before next h = (I64, pushes I64 before next (if_leads (nat_lt bits (2 ^ 64)) (Exchange [] (I64 ∷ [])) before next h).1)
one_more context (F32Const bits) before next h = (F32, pushes F32 before next (if_leads (nat_lt bits (2 ^ 32)) (Exchange [] (F32 ∷ [])) before next h).1)
one_more context (F64Const bits) before next h = (F64, pushes F64 before next (if_leads (nat_lt bits (2 ^ 64)) (Exchange [] (F64 ∷ [])) before next h).1)
one_more context (RefNull kind) before next h = (type_of_kind kind, pushes (type_of_kind kind) before next h)
one_more context (RefFunc function) before next h =
    (FuncRef, pushes FuncRef before next (if_leads (may_refer context function) (Exchange [] (FuncRef ∷ [])) before next h).1)
one_more context (GlobalGet index) before next h = let found = from_leads (constant_global context index) before next h in (found.0, found.2)
one_more context instr before next h = absurd h

-- so none may stand where there is an operand already
at_most_one : (context : TypingContext) (block : List Instr) (before : Operands) (type : ValType) → Lead (constant_rules context block) before (type ∷ [])
    → length before + length block ≤ 1
at_most_one context [] [] type h = absurd h
at_most_one context [] (found ∷ below) type h = omega (arith, ap length h.1)
at_most_one context (instr ∷ rest) before type h =
    omega (arith, ap length (one_more context instr before h.0 h.1).1, at_most_one context rest h.0 type h.2)

-- ---- the functions of which references are made are there

pub as_many_imports : (number : ℕ) (imports : List Import) → length (import_functions number imports) ≡ length (imported_functions imports)
as_many_imports number [] = refl
as_many_imports number (i ∷ imports) =
    omega (
      arith,
      length-append (import_function number i.kind) (import_functions (number + 1) imports),
      length-append (function_import i.kind) (imported_functions imports),
      alike number i.kind,
      as_many_imports (number + 1) imports,
    )
  where
    alike : (number : ℕ) (kind : ImportKind) → length (import_function number kind) ≡ length (function_import kind)
    alike number (import.Func type) = refl
    alike number (import.Table type) = refl
    alike number (import.Memory type) = refl
    alike number (import.Global type) = refl

pub as_many_functions : (m : Module) → length (functions_in m) ≡ length (all_functions m)
as_many_functions m =
    length-map (stored_functions m) (λ function. function_in m.bodies function)
    ∙ omega (
      arith,
      length-append (import_functions 0 m.imports) (own_functions 0 m.functions),
      length-append (imported_functions m.imports) m.functions,
      as_many_imports 0 m.imports,
      as_many_own 0 m.functions,
    )

pub no_global_imports : (imports : List Import) → All IsFunctionImport imports → imported_globals imports ≡ []
no_global_imports [] h = refl
no_global_imports (i ∷ imports) h =
    ap (λ (gs : List GlobalType). gs ++ imported_globals imports) (none i.kind (All-head (λ (i : Import). IsFunctionImport i) i imports h))
    ∙ no_global_imports imports (All-tail (λ (i : Import). IsFunctionImport i) i imports h)
  where
    none : (kind : ImportKind) → IsFunctionKind kind → global_import kind ≡ []
    none (import.Func type) h = refl
    none (import.Table type) h = absurd h
    none (import.Memory type) h = absurd h
    none (import.Global type) h = absurd h

-- ---- the value

-- a context of the module in which expressions read no global
pub record ReadsNone (m : Module) (context : TypingContext) : Type 0 where
  pub functions : context.functions ≡ all_functions m
  pub globals : context.imported_globals ≡ 0

pub record HasPlainValue (m : Module) (block : List Instr) (code : Code) (type : ValType) : Type 0 where
  pub content : Value
  pub plain : block_value block ≡ Some content
  pub evaluated : constant_value m code ≡ Some content
  pub fitting : Fits content type (length (all_functions m)) (length m.types)

there : {X : Type 0} (xs : List X) (i : ℕ) → IsTrue (is_some (slice_get xs i)) → i < length xs
there xs i h = inside (slice_get xs i) refl h
  where
    inside : (o : Option _) → slice_get xs i ≡ o → IsTrue (is_some o) → i < length xs
    inside None e h = absurd (cc h)
    inside (Some x) e h = slice_get_within xs i x e

some_at : {X : Type 0} (xs : List X) (i : ℕ) → i < length xs → (x : X) × (slice_get xs i ≡ Some x)
some_at [] i h = absurd (omega (arith, h))
some_at (x ∷ xs) zero h = (x, refl)
some_at (x ∷ xs) (suc i) h = some_at xs i (omega (arith, h))

pub may_refer_there : (m : Module) (context : TypingContext) (function : ℕ) → ReadsNone m context → IsTrue (may_refer context function)
    → function < length (all_functions m)
may_refer_there m context function reads may =
    subst (λ (fs : List ℕ). function < length fs) reads.functions
    (there context.functions function (and-parts (is_some (slice_get context.functions function)) (has_number function context.declared) may).0)

-- the reference of a function that is there
pub reference_value : (m : Module) (function : ℕ) → function < length (all_functions m)
    → constant_value m (Then (Plain (RefFunc function)) End) ≡ Some (value.Ref (Fn function))
unfolding constant_value
reference_value m function less =
    let found = some_at (functions_in m) function (subst (λ (n : ℕ). function < n) (sym (as_many_functions m)) less) in
    ap (λ (o : Option FunctionInstance). single_value (option_and_then (λ left. values_behind (auxiliary_state m) End left) (outcome_values (Does (ref_func_step function o [])))))
    found.1

pub reads_no_global : (m : Module) (context : TypingContext) (index : ℕ) (type : ValType) → ReadsNone m context → constant_global context index ≡ Some type → ⊥
reads_no_global m context index type reads h =
    let none : constant_global context index ≡ None = below (nat_lt index context.imported_globals) refl in cc (sym h ∙ none)
  where
    below : (b : Bool) → nat_lt index context.imported_globals ≡ b → (if b then if_constant (slice_get context.globals index) else None) ≡ None
    below true e = absurd (omega (arith, ltb-true index context.imported_globals e, reads.globals))
    below false e = refl

pub referred : (context : TypingContext) (function : ℕ) (before next : Operands) → Leads (constant_instr_rule context (RefFunc function)) before next
    → IsTrue (may_refer context function)
referred context function before next h = (if_leads (may_refer context function) (Exchange [] (FuncRef ∷ [])) before next h).0

-- the type that is left is the one that is asked for
pub left_type : (found type : ValType) (next : Operands) → next ≡ Some found ∷ [] → Takes (type ∷ []) next [] → found ≡ type
left_type found type next e takes = same_type-true found type (subst (λ (stack : Operands). Takes (type ∷ []) stack []) e takes).0

pub along : (content : Value) (found type : ValType) (functions types : ℕ) → found ≡ type → Fits content found functions types → Fits content type functions types
along content found type functions types e h = subst (λ (t : ValType). Fits content t functions types) e h

plain_block : (m : Module) (context : TypingContext) (body : BodyParts) (inner : ℕ → Code) (block : List Instr) (type : ValType) → ReadsNone m context
    → Lead (constant_rules context block) [] (type ∷ []) → HasPlainValue m block (expand (λ instr. leaf_in body instr) inner block) type
unfolding constant_value
plain_block m context body inner [] type reads h = absurd h
plain_block m context body inner (instr ∷ other ∷ rest) type reads h =
    absurd (omega (arith, at_most_one context (instr ∷ other ∷ rest) [] type h))
plain_block m context body inner (I32Const bits ∷ []) type reads h =
    let led = if_leads (nat_lt bits (2 ^ 32)) (Exchange [] (I32 ∷ [])) [] h.0 h.1 in
    let same = left_type I32 type h.0 (pushes I32 [] h.0 led.1) h.2 in
    record { content = value.I32 bits; plain = refl; evaluated = refl; fitting = along (value.I32 bits) I32 type (length (all_functions m)) (length m.types) same led.0 }
plain_block m context body inner (I64Const bits ∷ []) type reads h =
    let led = if_leads (nat_lt bits (2 ^ 64)) (Exchange [] (I64 ∷ [])) [] h.0 h.1 in
    let same = left_type I64 type h.0 (pushes I64 [] h.0 led.1) h.2 in
    record { content = value.I64 bits; plain = refl; evaluated = refl; fitting = along (value.I64 bits) I64 type (length (all_functions m)) (length m.types) same led.0 }
plain_block m context body inner (F32Const bits ∷ []) type reads h =
    let led = if_leads (nat_lt bits (2 ^ 32)) (Exchange [] (F32 ∷ [])) [] h.0 h.1 in
    let same = left_type F32 type h.0 (pushes F32 [] h.0 led.1) h.2 in
    record { content = value.F32 bits; plain = refl; evaluated = refl; fitting = along (value.F32 bits) F32 type (length (all_functions m)) (length m.types) same led.0 }
plain_block m context body inner (F64Const bits ∷ []) type reads h =
    let led = if_leads (nat_lt bits (2 ^ 64)) (Exchange [] (F64 ∷ [])) [] h.0 h.1 in
    let same = left_type F64 type h.0 (pushes F64 [] h.0 led.1) h.2 in
    record { content = value.F64 bits; plain = refl; evaluated = refl; fitting = along (value.F64 bits) F64 type (length (all_functions m)) (length m.types) same led.0 }
plain_block m context body inner (RefNull kind ∷ []) type reads h =
    let same = left_type (type_of_kind kind) type h.0 (pushes (type_of_kind kind) [] h.0 h.1) h.2 in
    record {
      content = value.Ref (Null kind);
      plain = refl;
      evaluated = refl;
      fitting = along (value.Ref (Null kind)) (type_of_kind kind) type (length (all_functions m)) (length m.types) same (same_type-itself (type_of_kind kind));
    }
plain_block m context body inner (RefFunc function ∷ []) type reads h =
    let led = if_leads (may_refer context function) (Exchange [] (FuncRef ∷ [])) [] h.0 h.1 in
    let same = left_type FuncRef type h.0 (pushes FuncRef [] h.0 led.1) h.2 in
    let less = may_refer_there m context function reads led.0 in
    record {
      content = value.Ref (Fn function);
      plain = refl;
      evaluated = reference_value m function less;
      fitting = along (value.Ref (Fn function)) FuncRef type (length (all_functions m)) (length m.types) same (lt-ltb function (length (all_functions m)) less);
    }
plain_block m context body inner (GlobalGet index ∷ []) type reads h =
    let found = from_leads (constant_global context index) [] h.0 h.1 in absurd (reads_no_global m context index found.0 reads found.1)
plain_block m context body inner (instr ∷ []) type reads h = absurd h.1

-- the tree of a body is made of its first block
first_block : (body : BodyParts) → (inner : ℕ → Code) × (tree_of body 0 ≡ expand (λ instr. leaf_in body instr) inner (block_at body.blocks 0))
unfolding tree_in tree_by
first_block body = by body.blocks
  where
    by : (blocks : List (List Instr)) → (inner : ℕ → Code) × (tree_in (λ instr. leaf_in body instr) blocks 0 ≡ expand (λ instr. leaf_in body instr) inner (block_at blocks 0))
    by [] = ((λ k. End), refl)
    by (block ∷ blocks) = ((λ k. tree_by (length blocks) (λ instr. leaf_in body instr) (block ∷ blocks) k), refl)

pub plain_body : (m : Module) (context : TypingContext) (body : BodyParts) (type : ValType) → ReadsNone m context → IsConstant context (tree_of body 0) type
    → HasPlainValue m (block_at body.blocks 0) (tree_of body 0) type
plain_body m context body type reads h =
    let tree = first_block body in
    let led =
    constant-flat context body tree.0 (block_at body.blocks 0) [] type (subst (λ (code : Code). LeadsToConstant context code [] type) tree.1 h) in
    subst (λ (code : Code). HasPlainValue m (block_at body.blocks 0) code type) (sym tree.1) (plain_block m context body tree.0 (block_at body.blocks 0) type reads led)
