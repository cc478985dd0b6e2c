-- The table of the numeric operations, read backwards.
use Rattle.std.proofs.Common.{◌≡◌, ◌≢◌, ℕ, Option, Some, None, Bool, true, false, IfSome, IsNone, ◌==◌, ◌&&◌, refl, sym, ap, ◌∙◌}
use Rattle.std.proofs.lemmas.Bool.{eqb-true}
use Rattle.wz_code.specs.declared.numeric.NumOp.{NumOp}
use Rattle.wz_code.specs.declared.numeric.NumOp.TheVariants.{I32Eqz}
use Rattle.wz_code.proofs.FindLemmas.{find-holds, find-none}
use Rattle.wz_code.specs.Numeric.{opcode_of, operations, is_number, has_opcode, op_at, NamesOperation, OperationNamed}

pub operation_named : OperationNamed
unfolding op_at
operation_named I32Eqz = refl
operation_named op = refl

number-is : (a b : Option ℕ) → is_number a b ≡ true → a ≡ b
number-is None None h = refl
number-is None (Some b) h = absurd (cc h)
number-is (Some a) None h = absurd (cc h)
number-is (Some a) (Some b) h = ap (λ (n : ℕ). Some n) (eqb-true a b h)

both : (a b : Bool) → (a && b) ≡ true → (a ≡ true) × (b ≡ true)
both true b h = (refl, h)
both false b h = absurd (cc h)

code-is : (o : ℕ × Option ℕ) (byte : ℕ) (number : Option ℕ) → ((o.0 == byte) && is_number o.1 number) ≡ true → o ≡ (byte, number)
code-is o byte number h =
    let parts = both (o.0 == byte) (is_number o.1 number) h in
    let first : o ≡ (byte, o.1) = ap (λ (b : ℕ). let p : ℕ × Option ℕ = (b, o.1) in p) (eqb-true o.0 byte parts.0) in
    first ∙ ap (λ (n : Option ℕ). let p : ℕ × Option ℕ = (byte, n) in p) (number-is o.1 number parts.1)

opcode-is : (byte : ℕ) (number : Option ℕ) (op : NumOp) → has_opcode byte number op ≡ true → opcode_of op ≡ (byte, number)
opcode-is byte number op h = code-is (opcode_of op) byte number h

pub names_operation : NamesOperation
unfolding op_at
names_operation byte number op h = opcode-is byte number op (find-holds (λ op. has_opcode byte number op) operations op h)

fails : (byte : ℕ) (number : Option ℕ) (op : NumOp) → opcode_of op ≢ (byte, number) → has_opcode byte number op ≡ false
fails byte number op h = at (has_opcode byte number op) refl where
  at : (b : Bool) → has_opcode byte number op ≡ b → b ≡ false
  at true e = absurd (h (opcode-is byte number op e))
  at false e = refl

-- the row that was found, if any has the opcode, is the one that the table names
pub op_at-is : (row : Option NumOp) (byte : ℕ) (number : Option ℕ) → IfSome row (λ op. opcode_of op ≡ (byte, number))
    → (IsNone row → (op : NumOp) → opcode_of op ≢ (byte, number)) → row ≡ op_at byte number
unfolding op_at
op_at-is None byte number found none = sym (find-none (λ op. has_opcode byte number op) (λ op. fails byte number op (none refl op)) operations)
op_at-is (Some op) byte number found none = sym (ap (λ (o : ℕ × Option ℕ). op_at o.0 o.1) (sym found) ∙ operation_named op)
