-- Section 2.5.3 of the Core Specification: what a module's own function has besides its type.
use Rattle.std.specs.Prelude.{ℕ, List}
use Rattle.wz_types.specs.declared.types.ValType.{ValType}
use Rattle.wz_code.specs.BodyParts.{BodyParts}
use Rattle.wz_code.specs.Trees.{Code, tree_of}

-- runs of locals, so many of one type, and the instructions
abbrev pub BodyTree : Type 0
BodyTree = List (ℕ × ValType) × Code

-- what a body in numbered blocks is of this
abbrev pub body_tree_of : BodyParts → BodyTree
body_tree_of body = (body.locals, tree_of body 0)
