-- Section 5.5.13 of the Core Specification: what stands in an entry of the code section, within its size.
use Rattle.std.specs.Prelude.{ℕ, ◌+◌, ◌^◌, ◌<◌, nat_lt, List, [], ◌∷◌, Option, Some, None, if◌then◌else◌}
use Rattle.wz_bytes.specs.Reading.{◌>>=◌}
use Rattle.wz_bytes.specs.Unsigned.{unsigned_at}
use Rattle.wz_bytes.specs.Forms.{Both, both_at, IsVector, vector_at}
use Rattle.wz_types.specs.declared.types.ValType.{ValType}
use Rattle.wz_code.specs.BodyParts.{BodyParts}
use Rattle.wz_code.specs.Trees.{Code, tree_of}
use Rattle.wz_decode_code.specs.Types.{IsValType, type_at}
use Rattle.wz_decode_code.specs.Instructions.{IsU32}
use Rattle.wz_decode_code.specs.Code.{IsExpression}

-- so many locals of one type
abbrev pub Run : Type 0
Run = ℕ × ValType

abbrev pub IsLocalsRun : List ℕ → Run → Type 0
IsLocalsRun text run = Both (λ t n. IsU32 t n) (λ t type. IsValType t type) text run

-- how many locals the runs are in all
abbrev pub locals_count : List Run → ℕ
locals_count [] = 0
locals_count (run ∷ runs) = run.0 + locals_count runs

-- the locals of a function: runs of them, and fewer than 2^32 in all
abbrev pub IsLocals : List ℕ → List Run → Type 0
IsLocals text runs = IsVector (λ t run. IsLocalsRun t run) text runs × (locals_count runs < 2 ^ 32)

-- a function's locals and its instructions
abbrev pub CodeEntry : Type 0
CodeEntry = List Run × Code

abbrev pub IsEntry : List ℕ → CodeEntry → Type 0
IsEntry text entry = Both (λ t runs. IsLocals t runs) (λ t code. IsExpression t code) text entry

-- what a body is of this
abbrev pub code_entry_of : BodyParts → CodeEntry
code_entry_of body = (body.locals, tree_of body 0)

-- ---- what stands in front of bytes

abbrev pub run_at : List ℕ → Option (Run × List ℕ)
run_at bytes = both_at (λ b. unsigned_at 32 b) (λ b. type_at b) bytes

abbrev pub checked : List Run × List ℕ → Option (List Run × List ℕ)
checked x = if nat_lt (locals_count x.0) (2 ^ 32) then Some x else None

abbrev pub locals_at : List ℕ → Option (List Run × List ℕ)
locals_at bytes = vector_at (λ b. run_at b) bytes >>= λ x. checked x
