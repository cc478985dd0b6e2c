-- Typing in a wider context.
use Rattle.std.proofs.Common.{ℕ, zero, suc, ◌≤◌, List, [], ◌∷◌, ◌++◌, Option, Bool, true, false, IsTrue, slice_get, ◌&&◌, arith, nat_lt}
use Rattle.std.specs.Prelude.{is_some}
use Rattle.std.proofs.lemmas.Bool.{ltb-true, lt-ltb}
use Rattle.wz_types.specs.declared.types.ValType.{ValType}
use Rattle.wz_types.specs.declared.types.ValType.TheVariants.{I32, FuncRef}
use Rattle.wz_types.specs.declared.types.RefKind.{RefKind}
use Rattle.wz_code.specs.declared.instr.Instr.TheVariants.{RefFunc, TableInit, ElemDrop, MemoryInit, DataDrop}
use Rattle.wz_code.specs.Trees.{Code, End, Then, InBlock, InLoop, InIf, Leaf, Plain, TableBranch, TypedSelect}
use Rattle.wz_code.specs.References.{has_number, referred_in_leaf, referred_in, AreIn}
use Rattle.wz_code.proofs.NumberLemmas.{has-here, in-first, in-second}
use Rattle.wz_valid_code.specs.Operands.{Operands, pushed}
use Rattle.wz_valid_code.specs.Rules.{Rule, Exchange, rule_if, Leads}
use Rattle.wz_valid_code.specs.Context.{TypingContext, Scope, Labels, shape_type, is_one_kind, may_refer}
use Rattle.wz_valid_code.specs.Instructions.{rule_of}
use Rattle.wz_valid_code.specs.ConstantInstructions.{constant_rule}
use Rattle.wz_valid_code.specs.Typing.{IsTyped, LeadsToConstant}
use Rattle.wz_valid_code.specs.Widening.{widened, widened_scope, TypingWidens, ConstantWidens}
use Rattle.wz_valid_code.proofs.LawLemmas.{if-more, some-more}

if-inner : (a : Bool) (rule other : Rule) (s m : Operands) → (Leads rule s m → Leads other s m) → Leads (rule_if a rule) s m → Leads (rule_if a other) s m
if-inner true rule other s m more l = more l
if-inner false rule other s m more l = absurd l

and-other : (a b c : Bool) → IsTrue c → IsTrue (a && b) → IsTrue (a && c)
and-other true b c k h = k
and-other false b c k h = h

-- what is there stays in a longer list
there-more : (xs ys : List RefKind) (i : ℕ) → IsTrue (is_some (slice_get xs i)) → IsTrue (is_some (slice_get (xs ++ ys) i))
there-more [] ys i h = absurd cc
there-more (x ∷ xs) ys zero h = h
there-more (x ∷ xs) ys (suc i) h = there-more xs ys i h

kind-more : (xs ys : List RefKind) (i : ℕ) (other : Option RefKind) → IsTrue (is_one_kind (slice_get xs i) other) → IsTrue (is_one_kind (slice_get (xs ++ ys) i) other)
kind-more [] ys i other h = absurd cc
kind-more (x ∷ xs) ys zero other h = h
kind-more (x ∷ xs) ys (suc i) other h = kind-more xs ys i other h

below-more : (i n m : ℕ) → n ≤ m → IsTrue (nat_lt i n) → IsTrue (nat_lt i m)
below-more i n m le h = let less = ltb-true i n h in lt-ltb i m (omega (arith, le, less))

leaf-wider : (scope : Scope) (more : List RefKind) (datas : ℕ) (declared : List ℕ) → scope.context.datas ≤ datas
    → (labels : Labels) (leaf : Leaf) (s m : Operands) → AreIn (referred_in_leaf leaf) declared → Leads (rule_of scope labels leaf) s m
    → Leads (rule_of (widened_scope scope more datas declared) labels leaf) s m
leaf-wider scope more datas declared few labels (Plain (RefFunc function)) s m refers l =
    let is_function = is_some (slice_get scope.context.functions function) in
    let was = has_number function scope.context.declared in
    let now = has_number function declared in
    if-more (may_refer scope.context function) (is_function && now) (Exchange [] (FuncRef ∷ [])) s m (and-other is_function was now (refers function (has-here function []))) l
leaf-wider scope more datas declared few labels (Plain (TableInit segment table)) s m refers l =
    if-more (is_one_kind (slice_get scope.context.elements segment) (slice_get scope.context.tables table))
    (is_one_kind (slice_get (scope.context.elements ++ more) segment) (slice_get scope.context.tables table))
    (Exchange (I32 ∷ I32 ∷ I32 ∷ []) []) s m (kind-more scope.context.elements more segment (slice_get scope.context.tables table)) l
leaf-wider scope more datas declared few labels (Plain (ElemDrop segment)) s m refers l =
    if-more (is_some (slice_get scope.context.elements segment)) (is_some (slice_get (scope.context.elements ++ more) segment)) (Exchange [] []) s m
    (there-more scope.context.elements more segment) l
leaf-wider scope more datas declared few labels (Plain (MemoryInit segment memory)) s m refers l =
    let rule = Exchange (I32 ∷ I32 ∷ I32 ∷ []) [] in
    if-inner (nat_lt memory scope.context.memories) (rule_if (nat_lt segment scope.context.datas) rule) (rule_if (nat_lt segment datas) rule) s m
    (if-more (nat_lt segment scope.context.datas) (nat_lt segment datas) rule s m (below-more segment scope.context.datas datas few)) l
leaf-wider scope more datas declared few labels (Plain (DataDrop segment)) s m refers l =
    if-more (nat_lt segment scope.context.datas) (nat_lt segment datas) (Exchange [] []) s m (below-more segment scope.context.datas datas few) l
leaf-wider scope more datas declared few labels (Plain instr) s m refers l = l
leaf-wider scope more datas declared few labels (TableBranch numbers last) s m refers l = l
leaf-wider scope more datas declared few labels (TypedSelect types) s m refers l = l

module _ (scope : Scope) (more : List RefKind) (datas : ℕ) (declared : List ℕ) (few : scope.context.datas ≤ datas) where
  code-wider : (labels : Labels) (code : Code) (s : Operands) (after : List ValType) → AreIn (referred_in code) declared → IsTyped scope labels code s after
      → IsTyped (widened_scope scope more datas declared) labels code s after
  code-wider labels End s after r t = t
  code-wider labels (Then leaf rest) s after r t =
      let one = in-first (referred_in_leaf leaf) (referred_in rest) declared r in
      let other = in-second (referred_in_leaf leaf) (referred_in rest) declared r in
      (t.0, leaf-wider scope more datas declared few labels leaf s t.0 one t.1, code-wider labels rest t.0 after other t.2)
  code-wider labels (InBlock shape inner rest) s after r t =
      let one = in-first (referred_in inner) (referred_in rest) declared r in
      let other = in-second (referred_in inner) (referred_in rest) declared r in
      some-more (shape_type scope.context shape) _ _ (λ type p. (
        code-wider (type.results ∷ labels) inner (pushed type.params []) type.results one p.0,
        (p.1.0, p.1.1, code-wider labels rest p.1.0 after other p.1.2),
      )) t
  code-wider labels (InLoop shape inner rest) s after r t =
      let one = in-first (referred_in inner) (referred_in rest) declared r in
      let other = in-second (referred_in inner) (referred_in rest) declared r in
      some-more (shape_type scope.context shape) _ _ (λ type p. (
        code-wider (type.params ∷ labels) inner (pushed type.params []) type.results one p.0,
        (p.1.0, p.1.1, code-wider labels rest p.1.0 after other p.1.2),
      )) t
  code-wider labels (InIf shape first second rest) s after r t =
      let one = in-first (referred_in first) (referred_in second ++ referred_in rest) declared r in
      let others = in-second (referred_in first) (referred_in second ++ referred_in rest) declared r in
      let other = in-first (referred_in second) (referred_in rest) declared others in
      let last = in-second (referred_in second) (referred_in rest) declared others in
      some-more (shape_type scope.context shape) _ _ (λ type p. (
        code-wider (type.results ∷ labels) first (pushed type.params []) type.results one p.0,
        code-wider (type.results ∷ labels) second (pushed type.params []) type.results other p.1,
        (p.2.0, p.2.1, code-wider labels rest p.2.0 after last p.2.2),
      )) t

pub typing_widens : TypingWidens
typing_widens scope more datas declared few labels code before after refers typed = code-wider scope more datas declared few labels code before after refers typed

-- ---- constant expressions

constant-leaf-wider : (context : TypingContext) (more : List RefKind) (datas : ℕ) (declared : List ℕ) (leaf : Leaf) (s m : Operands) → AreIn (referred_in_leaf leaf) declared
    → Leads (constant_rule context leaf) s m → Leads (constant_rule (widened context more datas declared) leaf) s m
constant-leaf-wider context more datas declared (Plain (RefFunc function)) s m refers l =
    let is_function = is_some (slice_get context.functions function) in
    let was = has_number function context.declared in
    let now = has_number function declared in
    if-more (may_refer context function) (is_function && now) (Exchange [] (FuncRef ∷ [])) s m (and-other is_function was now (refers function (has-here function []))) l
constant-leaf-wider context more datas declared (Plain instr) s m refers l = l
constant-leaf-wider context more datas declared (TableBranch numbers last) s m refers l = l
constant-leaf-wider context more datas declared (TypedSelect types) s m refers l = l

leads-wider : (context : TypingContext) (more : List RefKind) (datas : ℕ) (declared : List ℕ) (code : Code) (s : Operands) (type : ValType) → AreIn (referred_in code) declared
    → LeadsToConstant context code s type → LeadsToConstant (widened context more datas declared) code s type
leads-wider context more datas declared End s type refers t = t
leads-wider context more datas declared (Then leaf rest) s type refers t =
    let one = in-first (referred_in_leaf leaf) (referred_in rest) declared refers in
    let other = in-second (referred_in_leaf leaf) (referred_in rest) declared refers in
    (t.0, constant-leaf-wider context more datas declared leaf s t.0 one t.1, leads-wider context more datas declared rest t.0 type other t.2)
leads-wider context more datas declared (InBlock shape inner rest) s type refers t = absurd t
leads-wider context more datas declared (InLoop shape inner rest) s type refers t = absurd t
leads-wider context more datas declared (InIf shape first second rest) s type refers t = absurd t

pub constant_widens : ConstantWidens
constant_widens context more datas declared code type refers t = leads-wider context more datas declared code [] type refers t
