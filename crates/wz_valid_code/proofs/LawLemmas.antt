-- The laws that the crates above cite.
use Rattle.std.proofs.Common.{◌≡◌, ℕ, List, [], ◌∷◌, Option, Some, None, IsSomeAnd, Bool, true, false, IsTrue, MatchBool, refl, sym, subst, slice_get, ◌&&◌}
use Rattle.std.specs.Prelude.{is_some}
use Rattle.wz_types.specs.declared.types.ValType.{ValType}
use Rattle.wz_types.specs.declared.types.ValType.TheVariants.{FuncRef}
use Rattle.wz_types.specs.declared.types.RefKind.{RefKind}
use Rattle.wz_types.specs.declared.types.GlobalType.{GlobalType}
use Rattle.wz_types.specs.FunctionType.{FunctionType}
use Rattle.wz_code.specs.declared.instr.Instr.{Instr}
use Rattle.wz_code.specs.declared.instr.Instr.TheVariants.{RefFunc, Block, Loop, If}
use Rattle.wz_code.specs.BodyParts.{BodyParts, block_at}
use Rattle.wz_code.specs.BlockRule.{NamesRise}
use Rattle.wz_code.specs.Trees.{Code, End, Then, InBlock, InLoop, InIf, Leaf, Plain, TableBranch, TypedSelect, leaf_in, tree_of, expand}
use Rattle.wz_code.specs.Laws.{TreeOfBlock}
use Rattle.wz_code.specs.References.{has_number}
use Rattle.wz_valid_code.specs.Operands.{Operands, pushed}
use Rattle.wz_valid_code.specs.Rules.{Rule, Exchange, rule_if, Leads, Lead}
use Rattle.wz_valid_code.specs.Context.{TypingContext, Scope, Labels, shape_type, may_refer}
use Rattle.wz_valid_code.specs.Instructions.{rule_of}
use Rattle.wz_valid_code.specs.Typing.{IsTyped, LeadsToConstant, IsConstant}
use Rattle.wz_valid_code.specs.Blocks.{constant_rules}
use Rattle.wz_valid_code.specs.Laws.{BlocksOfTree, TreeOfBlocks, Serves, TypingServes}
use Rattle.wz_valid_code.proofs.BlockLemmas.{flat-typed, typed-flat}

pub blocks_of_tree : TreeOfBlock → BlocksOfTree
blocks_of_tree law scope labels body number before after rise typed =
    let P : Code → Type 0 = λ code. IsTyped scope labels code before after in
    let r = typed-flat scope (λ instr. leaf_in body instr) (λ k. tree_of body k) labels after (block_at body.blocks number) before (subst P (law body number rise) typed) in
    record { lead = r.0; inner = r.1 }

pub tree_of_blocks : TreeOfBlock → TreeOfBlocks
tree_of_blocks law scope labels body number before after rise typed =
    let P : Code → Type 0 = λ code. IsTyped scope labels code before after in
    subst P (sym (law body number rise)) (flat-typed scope (λ instr. leaf_in body instr) (λ k. tree_of body k) labels after (block_at body.blocks number) before typed.lead
    typed.inner)

-- ---- what typing rests on

-- the same with other functions that may be referred to
abbrev other_declared : Scope → List ℕ → ℕ → Scope
other_declared scope declared imported = record scope { context = record scope.context { declared = declared; imported_globals = imported } }

-- where a rule with a condition leads anywhere, the condition holds
pub if-fits : (b : Bool) (rule : Rule) (s m : Operands) → Leads (rule_if b rule) s m → IsTrue b
if-fits true rule s m l = refl
if-fits false rule s m l = absurd l

pub if-more : (a b : Bool) (rule : Rule) (s m : Operands) → (IsTrue a → IsTrue b) → Leads (rule_if a rule) s m → Leads (rule_if b rule) s m
if-more true true rule s m more l = l
if-more true false rule s m more l = let wrong : IsTrue false = more refl in absurd (cc)
if-more false b rule s m more l = absurd l

and-more : (a b c : Bool) → (IsTrue b → IsTrue c) → IsTrue (a && b) → IsTrue (a && c)
and-more true b c more h = more h
and-more false b c more h = h

pub some-more : (o : Option FunctionType) (P Q : FunctionType → Type 0) → ((type : FunctionType) → P type → Q type) → IsSomeAnd o P → IsSomeAnd o Q
some-more None P Q more h = h
some-more (Some type) P Q more h = more type h

module _ (scope : Scope) (declared : List ℕ) (imported : ℕ) (more : (function : ℕ) → IsTrue (has_number function scope.context.declared)
    → IsTrue (has_number function declared)) where
  leaf-more : (labels : Labels) (leaf : Leaf) (s m : Operands) → Leads (rule_of scope labels leaf) s m → Leads (rule_of (other_declared scope declared imported) labels leaf) s m
  leaf-more labels (Plain (RefFunc function)) s m l =
      if-more (may_refer scope.context function) (is_some (slice_get scope.context.functions function) && has_number function declared) (Exchange [] (FuncRef ∷ [])) s m
      (and-more (is_some (slice_get scope.context.functions function)) (has_number function scope.context.declared) (has_number function declared) (more function)) l
  leaf-more labels (Plain instr) s m l = l
  leaf-more labels (TableBranch numbers last) s m l = l
  leaf-more labels (TypedSelect types) s m l = l

  code-more : (labels : Labels) (code : Code) (s : Operands) (after : List ValType) → IsTyped scope labels code s after
      → IsTyped (other_declared scope declared imported) labels code s after
  code-more labels End s after t = t
  code-more labels (Then leaf rest) s after t = (t.0, leaf-more labels leaf s t.0 t.1, code-more labels rest t.0 after t.2)
  code-more labels (InBlock shape inner rest) s after t =
      some-more (shape_type scope.context shape) _ _ (λ type p. (
        code-more (type.results ∷ labels) inner (pushed type.params []) type.results p.0,
        (p.1.0, p.1.1, code-more labels rest p.1.0 after p.1.2),
      )) t
  code-more labels (InLoop shape inner rest) s after t =
      some-more (shape_type scope.context shape) _ _ (λ type p. (
        code-more (type.params ∷ labels) inner (pushed type.params []) type.results p.0,
        (p.1.0, p.1.1, code-more labels rest p.1.0 after p.1.2),
      )) t
  code-more labels (InIf shape first second rest) s after t =
      some-more (shape_type scope.context shape) _ _ (λ type p. (
        code-more (type.results ∷ labels) first (pushed type.params []) type.results p.0,
        code-more
            (type.results ∷ labels) second (pushed type.params []) type.results p.1,
        (p.2.0, p.2.1, code-more labels rest p.2.0 after p.2.2),
      )) t

scope_from : List FunctionType → List ℕ → List RefKind → ℕ → List GlobalType → ℕ → List RefKind → ℕ → List ℕ → List ValType → List ValType → Scope
scope_from types functions tables memories globals imported elements datas declared locals results = record {
  context = record {
    types = types;
    functions = functions;
    tables = tables;
    memories = memories;
    globals = globals;
    imported_globals = imported;
    elements = elements;
    datas =
        datas;
    declared = declared;
  };
  locals = locals;
  results = results;
}

same-parts : (scope other : Scope) → Serves scope other →
    scope_from scope.context.types scope.context.functions scope.context.tables scope.context.memories scope.context.globals other.context.imported_globals
    scope.context.elements scope.context.datas other.context.declared scope.locals scope.results
    ≡ scope_from other.context.types other.context.functions other.context.tables other.context.memories other.context.globals other.context.imported_globals
    other.context.elements other.context.datas other.context.declared other.locals other.results
same-parts scope other serves = cc (serves.types, serves.functions, serves.tables, serves.memories, serves.globals, serves.elements, serves.datas, serves.locals, serves.results)

same-scope : (scope other : Scope) → Serves scope other → other_declared scope other.context.declared other.context.imported_globals ≡ other
unfolding scope_from
same-scope scope other serves = same-parts scope other serves

pub typing_serves : TypingServes
typing_serves scope other serves labels code before after typed =
    let P : Scope → Type 0 = λ x. IsTyped x labels code before after in
    subst P (same-scope scope other serves) (code-more scope other.context.declared other.context.imported_globals serves.declared labels code before after typed)

-- ---- constant expressions

pub constant-flat : (context : TypingContext) (body : BodyParts) (tree : ℕ → Code) (code : List Instr) (s : Operands) (type : ValType)
    → LeadsToConstant context (expand (λ instr. leaf_in body instr) tree code) s type → Lead (constant_rules context code) s (type ∷ [])
constant-flat context body tree [] s type h = h
constant-flat context body tree (Block shape number ∷ rest) s type h = absurd h
constant-flat context body tree (Loop shape number ∷ rest) s type h = absurd h
constant-flat context body tree (If shape first second ∷ rest) s type h = absurd h
constant-flat context body tree (instr ∷ rest) s type h = (h.0, h.1, constant-flat context body tree rest h.0 type h.2)

pub flat-constant : (context : TypingContext) (body : BodyParts) (tree : ℕ → Code) (code : List Instr) (s : Operands) (type : ValType)
    → Lead (constant_rules context code) s (type ∷ []) → LeadsToConstant context (expand (λ instr. leaf_in body instr) tree code) s type
flat-constant context body tree [] s type h = h
flat-constant context body tree (Block shape number ∷ rest) s type h = h.1
flat-constant context body tree (Loop shape number ∷ rest) s type h = h.1
flat-constant context body tree (If shape first second ∷ rest) s type h = h.1
flat-constant context body tree (instr ∷ rest) s type h = (h.0, h.1, flat-constant context body tree rest h.0 type h.2)

match-both : (b : Bool) (P Q : Type 0) → (P → Q) → (Q → P) → MatchBool b P (P → ⊥) → MatchBool b Q (Q → ⊥)
match-both true P Q there back h = there h
match-both false P Q there back h = λ q. h (back q)

-- an expression is constant as the rules of its instructions lead
pub constant-by-rules : TreeOfBlock → (context : TypingContext) (body : BodyParts) (type : ValType) → NamesRise body.blocks → (b : Bool)
    → MatchBool b (Lead (constant_rules context (block_at body.blocks 0)) [] (type ∷ [])) (Lead (constant_rules context (block_at body.blocks 0)) [] (type ∷ []) → ⊥)
    → MatchBool b (IsConstant context (tree_of body 0) type) (IsConstant context (tree_of body 0) type → ⊥)
constant-by-rules law context body type rise b h =
    let P : Code → Type 0 = λ code. LeadsToConstant context code [] type in
    match-both b (Lead (constant_rules context (block_at body.blocks 0)) [] (type ∷ [])) (IsConstant context (tree_of body 0) type)
    (λ l. subst P (sym (law body 0 rise)) (flat-constant context body (λ k. tree_of body k) (block_at body.blocks 0) [] type l))
    (λ t. constant-flat context body (λ k. tree_of body k) (block_at body.blocks 0) [] type (subst P (law body 0 rise) t))
    h
