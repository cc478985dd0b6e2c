-- The table of the accesses, read backwards.
use Rattle.std.proofs.Common.{◌≡◌, ◌≢◌, ℕ, Option, Some, None, Bool, true, false, IfSome, IsNone, ◌==◌, refl, sym, ap, ◌∙◌}
use Rattle.std.proofs.lemmas.Bool.{eqb-true}
use Rattle.wz_code.specs.declared.accesses.MemOp.{MemOp}
use Rattle.wz_code.specs.declared.accesses.MemOp.TheVariants.{I32Load}
use Rattle.wz_code.proofs.FindLemmas.{find-holds, find-none}
use Rattle.wz_code.specs.Accesses.{access_opcode_of, all_accesses, access_at, NamesAccess, AccessNamed}

pub access_named : AccessNamed
unfolding access_at
access_named I32Load = refl
access_named op = refl

pub names_access : NamesAccess
unfolding access_at
names_access byte op h = eqb-true (access_opcode_of op) byte (find-holds (λ op. access_opcode_of op == byte) all_accesses op h)

fails : (byte : ℕ) (op : MemOp) → access_opcode_of op ≢ byte → (access_opcode_of op == byte) ≡ false
fails byte op h = at (access_opcode_of op == byte) refl where
  at : (b : Bool) → (access_opcode_of op == byte) ≡ b → b ≡ false
  at true e = absurd (h (eqb-true (access_opcode_of op) byte e))
  at false e = refl

-- the row that was found, if any has the opcode, is the one that the table names
pub access_at-is : (row : Option MemOp) (byte : ℕ) → IfSome row (λ op. access_opcode_of op ≡ byte) → (IsNone row → (op : MemOp) → access_opcode_of op ≢ byte) → row ≡ access_at byte
unfolding access_at
access_at-is None byte found none = sym (find-none (λ op. access_opcode_of op == byte) (λ op. fails byte op (none refl op)) all_accesses)
access_at-is (Some op) byte found none = sym (ap (λ (b : ℕ). access_at b) (sym found) ∙ access_named op)
