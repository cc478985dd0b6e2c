-- Constant instructions that give a value, globals that begin with it, and chosen ranges as data segments.
use Rattle.std.proofs.Common.{◌≡◌, ℕ, ◌^◌, ◌<◌, List, [], ◌∷◌, ◌++◌, length, map, Some, Bool, true, false, IsTrue, nat_lt}
use Rattle.std.proofs.Common.{refl, ap, subst, ◌∙◌, slice_get, All}
use Rattle.std.specs.Prelude.{is_some}
use Rattle.std.specs.List.{flat_map, AllZip, zip}
use Rattle.std.proofs.lemmas.Bool.{lt-ltb}
use Rattle.std.proofs.lemmas.List.Elements.{All-nil, All-cons, All-head, All-tail}
use Rattle.wz_types.specs.declared.types.ValType.{ValType}
use Rattle.wz_types.specs.declared.types.ValType.TheVariants as valtype
use Rattle.wz_types.specs.declared.types.GlobalType.{GlobalType}
use Rattle.wz_types.specs.declared.value.Reference.TheVariants.{Null, Fn, Foreign}
use Rattle.wz_types.specs.declared.value.Value.{Value}
use Rattle.wz_types.specs.declared.value.Value.TheVariants as value
use Rattle.wz_types.specs.Fits.{type_of_kind, type_of, Fits}
use Rattle.wz_types.specs.Laws.{HasWidth, NamesThere}
use Rattle.wz_types.proofs.FitsLemmas.{fits-parts}
use Rattle.wz_types.proofs.SameTypeLemmas.{and-intro, same_type-itself}
use Rattle.wz_code.specs.declared.instr.Instr.TheVariants as instr
use Rattle.wz_code.specs.Trees.{End, Then, Leaf, Plain}
use Rattle.wz_code.specs.References.{has_number, referred_in, AreIn}
use Rattle.wz_code.proofs.NumberLemmas.{Has, has-here, has-first, has-second}
use Rattle.wz_module.specs.Elements.{function_reference}
use Rattle.wz_module.specs.Globals.{GlobalDef}
use Rattle.wz_valid_code.specs.Operands.{Operands}
use Rattle.wz_valid_code.specs.Rules.{Rule, Exchange, rule_if, Leads}
use Rattle.wz_valid_code.specs.Context.{TypingContext, may_refer}
use Rattle.wz_valid_code.specs.Instructions.{constant_of}
use Rattle.wz_valid_code.specs.ConstantInstructions.{constant_rule}
use Rattle.wz_valid_code.specs.Typing.{IsConstant}
use Rattle.wz_encode.specs.Constants.{constant_code}
use Rattle.wz_encode.specs.Globals.{global_with}
use Rattle.wz_exports.specs.Undeclared.{value_refs}
use Rattle.wz_rewrite.specs.ValidOutput.{IsNotForeign}
use Rattle.wz_rewrite.proofs.ItemLemmas.{below-there}

-- ---- one instruction

if-true : (b : Bool) (rule : Rule) (s n : Operands) → IsTrue b → Leads rule s n → Leads (rule_if b rule) s n
if-true true rule s n h l = l
if-true false rule s n h l = absurd cc

gives-one : (t : ValType) → Leads (Exchange [] (t ∷ [])) [] (Some t ∷ [])
gives-one t = ([], refl, refl)

one-leaf : (context : TypingContext) (leaf : Leaf) (t : ValType) → Leads (constant_rule context leaf) [] (Some t ∷ []) → IsConstant context (Then leaf End) t
one-leaf context leaf t l = (Some t ∷ [], l, (same_type-itself t, refl))

sized : (t : ValType) (width bits : ℕ) → bits < 2 ^ width → Leads (constant_of t width bits) [] (Some t ∷ [])
sized t width bits less = if-true (nat_lt bits (2 ^ width)) (Exchange [] (t ∷ [])) [] (Some t ∷ []) (lt-ltb bits (2 ^ width) less) (gives-one t)

-- a function that is there and declared
pub function-ok : (context : TypingContext) (f : ℕ) → IsTrue (is_some (slice_get context.functions f)) → Has f context.declared
    → IsConstant context (function_reference f) valtype.FuncRef
function-ok context f there declared =
    one-leaf context (Plain (instr.RefFunc f)) valtype.FuncRef
    (if-true (may_refer context f) (Exchange [] (valtype.FuncRef ∷ [])) [] (Some valtype.FuncRef ∷ [])
    (and-intro (is_some (slice_get context.functions f)) (has_number f context.declared) there declared) (gives-one valtype.FuncRef))

pub value-ok : (context : TypingContext) (v : Value) (types : ℕ) → HasWidth v → NamesThere v (length context.functions) types → IsNotForeign v
    → AreIn (value_refs v) context.declared → IsConstant context (constant_code v) (type_of v)
value-ok context (value.I32 bits) types width there own inside = one-leaf context (Plain (instr.I32Const bits)) valtype.I32 (sized valtype.I32 32 bits width)
value-ok context (value.I64 bits) types width there own inside = one-leaf context (Plain (instr.I64Const bits)) valtype.I64 (sized valtype.I64 64 bits width)
value-ok context (value.F32 bits) types width there own inside = one-leaf context (Plain (instr.F32Const bits)) valtype.F32 (sized valtype.F32 32 bits width)
value-ok context (value.F64 bits) types width there own inside = one-leaf context (Plain (instr.F64Const bits)) valtype.F64 (sized valtype.F64 64 bits width)
value-ok context (value.Ref (Null kind)) types width there own inside = one-leaf context (Plain (instr.RefNull kind)) (type_of_kind kind) (gives-one (type_of_kind kind))
value-ok context (value.Ref (Fn index)) types width there own inside =
    function-ok context index (below-there context.functions index there) (inside index (has-here index []))
value-ok context (value.Ref (Foreign id sort)) types width there own inside = absurd own

-- an address
pub address-ok : (context : TypingContext) (at : ℕ) → at < 2 ^ 32 → IsConstant context (constant_code (value.I32 at)) valtype.I32
address-ok context at less = one-leaf context (Plain (instr.I32Const at)) valtype.I32 (sized valtype.I32 32 at less)

-- ---- globals

value-same : (v : Value) → referred_in (constant_code v) ≡ value_refs v
value-same (value.I32 bits) = refl
value-same (value.I64 bits) = refl
value-same (value.F32 bits) = refl
value-same (value.F64 bits) = refl
value-same (value.Ref (Null kind)) = refl
value-same (value.Ref (Fn index)) = refl
value-same (value.Ref (Foreign id sort)) = refl

abbrev pub begun : List GlobalDef → List Value → List GlobalDef
begun globals values = map global_with (zip (map (λ global. global.kind) globals) values)

module _ (R : GlobalDef → Value → Type 0) where
  pub begun-refs : (globals : List GlobalDef) (values : List Value) → AllZip R globals values
      → flat_map (λ g. referred_in g.init) (begun globals values) ≡ flat_map value_refs values
  begun-refs [] [] h = refl
  begun-refs [] (v ∷ values) h = absurd h
  begun-refs (g ∷ globals) [] h = absurd h
  begun-refs (g ∷ globals) (v ∷ values) h =
      ap (λ (ns : List ℕ). ns ++ flat_map (λ (x : GlobalDef). referred_in x.init) (begun globals values)) (value-same v)
      ∙ ap (λ (ns : List ℕ). value_refs v ++ ns) (begun-refs globals values h.1)

  pub begun-kinds : (globals : List GlobalDef) (values : List Value) → AllZip R globals values → map (λ g. g.kind) (begun globals values) ≡ map (λ g. g.kind) globals
  begun-kinds [] [] h = refl
  begun-kinds [] (v ∷ values) h = absurd h
  begun-kinds (g ∷ globals) [] h = absurd h
  begun-kinds (g ∷ globals) (v ∷ values) h = ap (λ (kinds : List GlobalType). g.kind ∷ kinds) (begun-kinds globals values h.1)

pub begun-ok : (context : TypingContext) (types : ℕ) (globals : List GlobalDef) (values : List Value)
    → AllZip (λ g v. Fits v g.kind.value (length context.functions) types) globals values → All IsNotForeign values → AreIn (flat_map value_refs values) context.declared
    → All (λ g. IsConstant context g.init g.kind.value) (begun globals values)
begun-ok context types [] [] h own inside = All-nil (λ (g : GlobalDef). IsConstant context g.init g.kind.value)
begun-ok context types [] (v ∷ values) h own inside = absurd h
begun-ok context types (g ∷ globals) [] h own inside = absurd h
begun-ok context types (g ∷ globals) (v ∷ values) h own inside =
    let fit = fits-parts v g.kind.value (length context.functions) types h.0 in
    let here = value-ok context v types fit.has_width fit.names_there (All-head IsNotForeign v values own)
    (λ f i. inside f (has-first f (value_refs v) (flat_map value_refs values) i)) in
    All-cons (λ (x : GlobalDef). IsConstant context x.init x.kind.value) (global_with (g.kind, v)) (begun globals values)
    (subst (λ (t : ValType). IsConstant context (constant_code v) t) fit.has_type here)
    (begun-ok context types globals values h.1 (All-tail IsNotForeign v values own) (λ f i. inside f (has-second f (value_refs v) (flat_map value_refs values) i)))
