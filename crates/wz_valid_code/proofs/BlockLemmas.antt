-- A tree is typed where its own instructions lead and each block that they name is typed, and the other way.
use Rattle.std.proofs.Common.{◌≡◌, ◌≤◌, ◌<◌, ◌+◌, ℕ, List, [], ◌∷◌, ◌++◌, Option, Some, None, IsSomeAnd, Bool, true, false, arith, if◌then◌else◌}
use Rattle.wz_types.specs.declared.types.ValType.{ValType}
use Rattle.wz_types.specs.declared.types.ValType.TheVariants.{I32}
use Rattle.wz_types.specs.FunctionType.{FunctionType}
use Rattle.wz_code.specs.declared.instr.Instr.{Instr}
use Rattle.wz_code.specs.declared.instr.Instr.TheVariants.{Block, Loop, If}
use Rattle.wz_code.specs.Trees.{Code, End, Then, InBlock, InLoop, InIf, Leaf, expand, arm_of}
use Rattle.wz_valid_code.specs.Operands.{Operands, pushed}
use Rattle.wz_valid_code.specs.Rules.{Exchange, rule_from, Leads, Lead}
use Rattle.wz_valid_code.specs.Context.{Scope, Labels, shape_type}
use Rattle.wz_valid_code.specs.Typing.{IsTyped}
use Rattle.wz_valid_code.specs.Blocks.{outer_rules, Inner, inner_from, inner_in, AllTyped}

-- the sequences in a tree
abbrev pub size : Code → ℕ
size End = 1
size (Then leaf rest) = size rest
size (InBlock shape inner rest) = size inner + size rest
size (InLoop shape inner rest) = size inner + size rest
size (InIf shape first second rest) = size first + size second + size rest

abbrev pub total : (ℕ → Code) → List Inner → ℕ
total tree [] = 0
total tree (inner ∷ others) = size (arm_of tree inner.block) + total tree others

pub AllTyped-append : (scope : Scope) (inner : ℕ → Code) (a b : List Inner) → AllTyped scope inner a → AllTyped scope inner b → AllTyped scope inner (a ++ b)
AllTyped-append scope inner [] b ha hb = hb
AllTyped-append scope inner (p ∷ a) b ha hb = (ha.0, AllTyped-append scope inner a b ha.1 hb)

pub AllTyped-parts : (scope : Scope) (inner : ℕ → Code) (a b : List Inner) → AllTyped scope inner (a ++ b) → AllTyped scope inner a × AllTyped scope inner b
AllTyped-parts scope inner [] b h = (tt, h)
AllTyped-parts scope inner (p ∷ a) b h = let r = AllTyped-parts scope inner a b h.1 in ((h.0, r.0), r.1)

pub total-append : (inner : ℕ → Code) (a b : List Inner) → total inner (a ++ b) ≡ total inner a + total inner b
total-append inner [] b = omega arith
total-append inner (p ∷ a) b = omega (arith, total-append inner a b)

module _ (scope : Scope) (leaf : Instr → Leaf) (inner : ℕ → Code) (labels : Labels) (after : List ValType) where
  -- what is to be shown of a block and of what follows it
  abbrev InOne : Option FunctionType → Bool → Option ℕ → Operands → Code → Type 0
  InOne o again block s rest = IsSomeAnd o (λ g.
      IsTyped scope ((if again then g.params else g.results) ∷ labels) (arm_of inner block) (pushed g.params []) g.results
      × ((m : Operands) × Leads (Exchange g.params g.results) s m × IsTyped scope labels rest m after))

  abbrev InTwo : Option FunctionType → Option ℕ → Option ℕ → Operands → Code → Type 0
  InTwo o hit miss s rest = IsSomeAnd o (λ g.
      IsTyped scope (g.results ∷ labels) (arm_of inner hit) (pushed g.params []) g.results
      × IsTyped scope (g.results ∷ labels) (arm_of inner miss) (pushed g.params []) g.results
      × ((m : Operands) × Leads (Exchange (g.params ++ I32 ∷ []) g.results) s m × IsTyped scope labels rest m after))

  one-typed : (o : Option FunctionType) (again : Bool) (block : Option ℕ) (s m : Operands) (rest : Code) → Leads (rule_from o (λ g. Exchange g.params g.results)) s m
      → AllTyped scope inner (inner_from labels o again block) → IsTyped scope labels rest m after → InOne o again block s rest
  one-typed None again block s m rest l h t = absurd l
  one-typed (Some g) again block s m rest l h t = (h.0, (m, l, t))

  one-flat : (o : Option FunctionType) (again : Bool) (block : Option ℕ) (s : Operands) (rest : Code) → InOne o again block s rest → (m : Operands)
      × Leads (rule_from o (λ g. Exchange g.params g.results)) s m × AllTyped scope inner (inner_from labels o again block) × IsTyped scope labels rest m after
  one-flat None again block s rest h = absurd h
  one-flat (Some g) again block s rest h = (h.1.0, h.1.1, (h.0, tt), h.1.2)

  two-typed : (o : Option FunctionType) (hit miss : Option ℕ) (s m : Operands) (rest : Code) → Leads (rule_from o (λ g. Exchange (g.params ++ I32 ∷ []) g.results)) s m
      → AllTyped scope inner (inner_from labels o false hit) → AllTyped scope inner (inner_from labels o false miss) → IsTyped scope labels rest m after → InTwo o hit miss s rest
  two-typed None hit miss s m rest l h k t = absurd l
  two-typed (Some g) hit miss s m rest l h k t = (h.0, k.0, (m, l, t))

  two-flat : (o : Option FunctionType) (hit miss : Option ℕ) (s : Operands) (rest : Code) → InTwo o hit miss s rest → (m : Operands)
      × Leads (rule_from o (λ g. Exchange (g.params ++ I32 ∷ []) g.results)) s m × AllTyped scope inner (inner_from labels o false hit)
      × AllTyped scope inner (inner_from labels o false miss) × IsTyped scope labels rest m after
  two-flat None hit miss s rest h = absurd h
  two-flat (Some g) hit miss s rest h = (h.2.0, h.2.1, (h.0, tt), (h.1, tt), h.2.2)

  -- a sequence is typed where its own instructions are and each block that they name
  pub flat-typed : (is : List Instr) (s : Operands) → Lead (outer_rules scope labels leaf is) s after → AllTyped scope inner (inner_in scope labels is)
      → IsTyped scope labels (expand leaf inner is) s after
  flat-typed [] s f h = f
  flat-typed (Block shape body ∷ is) s f h =
      let p = AllTyped-parts scope inner (inner_from labels (shape_type scope.context shape) false (Some body)) (inner_in scope labels is) h in
      one-typed (shape_type scope.context shape) false (Some body) s f.0 (expand leaf inner is) f.1 p.0 (flat-typed is f.0 f.2 p.1)
  flat-typed (Loop shape body ∷ is) s f h =
      let p = AllTyped-parts scope inner (inner_from labels (shape_type scope.context shape) true (Some body)) (inner_in scope labels is) h in
      one-typed (shape_type scope.context shape) true (Some body) s f.0 (expand leaf inner is) f.1 p.0 (flat-typed is f.0 f.2 p.1)
  flat-typed (If shape hit miss ∷ is) s f h =
      let p = AllTyped-parts scope inner (inner_from labels (shape_type scope.context shape) false (Some hit) ++ inner_from labels (shape_type scope.context shape) false miss)
      (inner_in scope labels is) h in
      let q = AllTyped-parts scope inner (inner_from labels (shape_type scope.context shape) false (Some hit)) (inner_from labels (shape_type scope.context shape) false miss)
      p.0 in
      two-typed (shape_type scope.context shape) (Some hit) miss s f.0 (expand leaf inner is) f.1 q.0 q.1 (flat-typed is f.0 f.2 p.1)
  flat-typed (i ∷ is) s f h = (f.0, f.1, flat-typed is f.0 f.2 h)

  pub typed-flat : (is : List Instr) (s : Operands) → IsTyped scope labels (expand leaf inner is) s after → Lead (outer_rules scope labels leaf is) s after
      × AllTyped scope inner (inner_in scope labels is)
  typed-flat [] s t = (t, tt)
  typed-flat (Block shape body ∷ is) s t =
      let p = one-flat (shape_type scope.context shape) false (Some body) s (expand leaf inner is) t in
      let r = typed-flat is p.0 p.3 in
      ((p.0, p.1, r.0), AllTyped-append scope inner (inner_from labels (shape_type scope.context shape) false (Some body)) (inner_in scope labels is) p.2 r.1)
  typed-flat (Loop shape body ∷ is) s t =
      let p = one-flat (shape_type scope.context shape) true (Some body) s (expand leaf inner is) t in
      let r = typed-flat is p.0 p.3 in
      ((p.0, p.1, r.0), AllTyped-append scope inner (inner_from labels (shape_type scope.context shape) true (Some body)) (inner_in scope labels is) p.2 r.1)
  typed-flat (If shape hit miss ∷ is) s t =
      let p = two-flat (shape_type scope.context shape) (Some hit) miss s (expand leaf inner is) t in
      let r = typed-flat is p.0 p.4 in (
        (p.0, p.1, r.0),
        AllTyped-append scope inner (inner_from labels (shape_type scope.context shape) false (Some hit) ++ inner_from labels (shape_type scope.context shape) false miss)
            (inner_in scope labels is)
            (AllTyped-append scope inner (inner_from labels (shape_type scope.context shape) false (Some hit)) (inner_from labels (shape_type scope.context shape) false miss)
            p.2 p.3) r.1,
      )
  typed-flat (i ∷ is) s t = let r = typed-flat is t.0 t.2 in ((t.0, t.1, r.0), r.1)

-- the pieces of a block are less than the block
from-total : (inner : ℕ → Code) (labels : Labels) (o : Option FunctionType) (again : Bool) (block : Option ℕ)
    → total inner (inner_from labels o again block) ≤ size (arm_of inner block)
from-total inner labels None again block = omega arith
from-total inner labels (Some g) again block = omega arith

pub inner-total : (scope : Scope) (leaf : Instr → Leaf) (inner : ℕ → Code) (labels : Labels) (is : List Instr)
    → total inner (inner_in scope labels is) < size (expand leaf inner is)
inner-total scope leaf inner labels [] = omega arith
inner-total scope leaf inner labels (Block shape body ∷ is) =
    omega (
      arith,
      inner-total scope leaf inner labels is,
      from-total inner labels (shape_type scope.context shape) false (Some body),
      total-append inner
          (inner_from labels (shape_type scope.context shape) false (Some body)) (inner_in scope labels is),
    )
inner-total scope leaf inner labels (Loop shape body ∷ is) =
    omega (
      arith,
      inner-total scope leaf inner labels is,
      from-total inner labels (shape_type scope.context shape) true (Some body),
      total-append inner
          (inner_from labels (shape_type scope.context shape) true (Some body)) (inner_in scope labels is),
    )
inner-total scope leaf inner labels (If shape hit miss ∷ is) =
    omega (
      arith,
      inner-total scope leaf inner labels is,
      from-total inner labels (shape_type scope.context shape) false (Some hit),
      from-total inner labels (shape_type scope.context shape) false miss,
      total-append inner (inner_from labels (shape_type scope.context shape) false (Some hit)) (inner_from labels (shape_type scope.context shape) false miss),
      total-append inner (inner_from labels (shape_type scope.context shape) false (Some hit) ++ inner_from labels (shape_type scope.context shape) false miss)
          (inner_in scope labels is),
    )
inner-total scope leaf inner labels (i ∷ is) = inner-total scope leaf inner labels is
