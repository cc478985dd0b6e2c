-- Sections 3.3.9 and 3.3.10 of the Core Specification: when a sequence of instructions is typed, and a constant expression.
-- A sequence is typed where stacks between its instructions exist. Stacks are whole, so what an instruction leaves alone is
-- part of them, and at the end of a block, too, `any` fits the type that is asked for.
use Rattle.std.specs.Prelude.{List, [], ◌∷◌, ◌++◌, IsSomeAnd, reverse}
use Rattle.wz_types.specs.declared.types.ValType.{ValType}
use Rattle.wz_types.specs.declared.types.ValType.TheVariants.{I32}
use Rattle.wz_types.specs.FunctionType.{FunctionType}
use Rattle.wz_code.specs.Trees.{Code, End, Then, InBlock, InLoop, InIf, tree_of}
use Rattle.wz_code.specs.BodyParts.{BodyParts}
use Rattle.wz_valid_code.specs.Operands.{Operands, Takes, pushed}
use Rattle.wz_valid_code.specs.Rules.{Exchange, Leads}
use Rattle.wz_valid_code.specs.Context.{TypingContext, Scope, Labels, scope_of, shape_type}
use Rattle.wz_valid_code.specs.Instructions.{rule_of}
use Rattle.wz_valid_code.specs.ConstantInstructions.{constant_rule}

-- Instructions lead from the stack `before` to operands of just the types `after`, which stand in the order of pushing.
abbrev pub IsTyped : Scope → Labels → Code → Operands → List ValType → Type 0
IsTyped scope labels End before after = Takes (reverse after) before []
IsTyped scope labels (Then leaf rest) before after = (next : Operands) × Leads (rule_of scope labels leaf) before next × IsTyped scope labels rest next after
IsTyped scope labels (InBlock shape inner rest) before after = IsSomeAnd (shape_type scope.context shape) (λ type.
    IsTyped scope (type.results ∷ labels) inner (pushed type.params []) type.results
    × ((next : Operands) × Leads (Exchange type.params type.results) before next × IsTyped scope labels rest next after))
IsTyped scope labels (InLoop shape inner rest) before after = IsSomeAnd (shape_type scope.context shape) (λ type.
    IsTyped scope (type.params ∷ labels) inner (pushed type.params []) type.results
    × ((next : Operands) × Leads (Exchange type.params type.results) before next × IsTyped scope labels rest next after))
IsTyped scope labels (InIf shape first second rest) before after = IsSomeAnd (shape_type scope.context shape) (λ type.
    IsTyped scope (type.results ∷ labels) first (pushed type.params []) type.results
    × IsTyped scope (type.results ∷ labels) second (pushed type.params []) type.results
    × ((next : Operands) × Leads (Exchange (type.params ++ I32 ∷ []) type.results) before next × IsTyped scope labels rest next after))

-- the body of a function of this type is typed
abbrev pub IsBodyTyped : TypingContext → FunctionType → BodyParts → Type 0
IsBodyTyped context type body = IsTyped (scope_of context type body.locals) (type.results ∷ []) (tree_of body 0) [] type.results

-- Constant instructions lead from the stack to one operand of this type.
abbrev pub LeadsToConstant : TypingContext → Code → Operands → ValType → Type 0
LeadsToConstant context End before type = Takes (type ∷ []) before []
LeadsToConstant context (Then leaf rest) before type = (next : Operands) × Leads (constant_rule context leaf) before next × LeadsToConstant context rest next type
LeadsToConstant context code before type = ⊥

-- constant instructions, and a value of this type
abbrev pub IsConstant : TypingContext → Code → ValType → Type 0
IsConstant context code type = LeadsToConstant context code [] type
