-- Contexts that say the same of a module.
use Rattle.std.proofs.Common.{◌≡◌, ℕ, List, [], ◌∷◌, Option, Bool, refl, ap, subst, ◌∙◌, slice_get, ◌&&◌}
use Rattle.std.specs.Prelude.{is_some}
use Rattle.wz_types.specs.declared.types.ValType.{ValType}
use Rattle.wz_types.specs.declared.types.ValType.TheVariants.{FuncRef}
use Rattle.wz_code.specs.declared.instr.Instr.TheVariants.{RefFunc, GlobalGet}
use Rattle.wz_code.specs.Trees.{Code, End, Then, InBlock, InLoop, InIf, Leaf, Plain, TableBranch, TypedSelect}
use Rattle.wz_code.specs.References.{has_number}
use Rattle.wz_valid_code.specs.Operands.{Operands}
use Rattle.wz_valid_code.specs.Rules.{Rule, Exchange, Leads, rule_if, rule_from}
use Rattle.wz_valid_code.specs.Context.{TypingContext, constant_global}
use Rattle.wz_valid_code.specs.ConstantInstructions.{constant_rule}
use Rattle.wz_valid_code.specs.Typing.{LeadsToConstant}
use Rattle.wz_valid.specs.DeclaredFunctions.{HaveSameNumbers}

-- what constant expressions rest on
pub record AgreeOnConstants (one other : TypingContext) : Type 0 where
  pub functions : one.functions ≡ other.functions
  pub declared : HaveSameNumbers one.declared other.declared
  pub globals : (index : ℕ) → constant_global one index ≡ constant_global other index

leaf-same : (one other : TypingContext) → AgreeOnConstants one other → (leaf : Leaf) → constant_rule one leaf ≡ constant_rule other leaf
leaf-same one other agree (Plain (RefFunc f)) =
    ap (λ (b : Bool). rule_if (is_some (slice_get one.functions f) && b) (Exchange [] (FuncRef ∷ []))) (agree.declared f)
    ∙ ap (λ (fs : List ℕ). rule_if (is_some (slice_get fs f) && has_number f other.declared) (Exchange [] (FuncRef ∷ []))) agree.functions
leaf-same one other agree (Plain (GlobalGet index)) = ap (λ (o : Option ValType). rule_from o (λ type. Exchange [] (type ∷ []))) (agree.globals index)
leaf-same one other agree (Plain instr) = refl
leaf-same one other agree (TableBranch numbers last) = refl
leaf-same one other agree (TypedSelect types) = refl

pub constants_agree : (one other : TypingContext) → AgreeOnConstants one other → (code : Code) (s : Operands) (type : ValType)
    → LeadsToConstant one code s type → LeadsToConstant other code s type
constants_agree one other agree End s type t = t
constants_agree one other agree (Then leaf rest) s type t =
    (t.0, subst (λ (rule : Rule). Leads rule s t.0) (leaf-same one other agree leaf) t.1, constants_agree one other agree rest t.0 type t.2)
constants_agree one other agree (InBlock shape inner rest) s type t = absurd t
constants_agree one other agree (InLoop shape inner rest) s type t = absurd t
constants_agree one other agree (InIf shape first second rest) s type t = absurd t
