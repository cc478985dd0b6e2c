-- Typing in a wider context (section 3.1 of the Core Specification): with more segments, and other functions that may be referred to.
use Rattle.std.specs.Prelude.{ℕ, ◌≤◌, List, ◌++◌}
use Rattle.wz_types.specs.declared.types.ValType.{ValType}
use Rattle.wz_types.specs.declared.types.RefKind.{RefKind}
use Rattle.wz_code.specs.Trees.{Code}
use Rattle.wz_code.specs.References.{referred_in, AreIn}
use Rattle.wz_valid_code.specs.Operands.{Operands}
use Rattle.wz_valid_code.specs.Context.{TypingContext, Scope, Labels}
use Rattle.wz_valid_code.specs.Typing.{IsTyped, IsConstant}

-- the context with more element segments, another number of data segments and other functions that may be referred to
abbrev pub widened : TypingContext → List RefKind → ℕ → List ℕ → TypingContext
widened context more datas declared = record context { elements = context.elements ++ more; datas = datas; declared = declared }

abbrev pub widened_scope : Scope → List RefKind → ℕ → List ℕ → Scope
widened_scope scope more datas declared = record scope { context = widened scope.context more datas declared }

abbrev pub TypingWidens : Type 0
TypingWidens = (scope : Scope) (more : List RefKind) (datas : ℕ) (declared : List ℕ) → scope.context.datas ≤ datas
    → (labels : Labels) (code : Code) (before : Operands) (after : List ValType) → AreIn (referred_in code) declared
    → IsTyped scope labels code before after → IsTyped (widened_scope scope more datas declared) labels code before after

abbrev pub ConstantWidens : Type 0
ConstantWidens = (context : TypingContext) (more : List RefKind) (datas : ℕ) (declared : List ℕ) (code : Code) (type : ValType) → AreIn (referred_in code) declared
    → IsConstant context code type → IsConstant (widened context more datas declared) code type
