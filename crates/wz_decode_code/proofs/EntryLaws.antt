-- The locals and instructions of a function are read exactly.
use Rattle.std.proofs.Common.{ℕ, ◌^◌, List, refl, sym, subst, ◌∙◌}
use Rattle.std.specs.Prelude.{nat_lt}
use Rattle.std.proofs.lemmas.Bool.{ltb-true, lt-ltb}
use Rattle.wz_bytes.specs.Reading.{Front, IsExact}
use Rattle.wz_bytes.specs.Forms.{IsVector, vector_at}
use Rattle.wz_bytes.proofs.ReadingLemmas.{bind_some, some_is, guarded}
use Rattle.wz_bytes.proofs.FormLaws.{both_exact, vector_exact, all_again}
use Rattle.wz_decode_code.specs.Types.{IsValType, type_at}
use Rattle.wz_decode_code.specs.Instructions.{IsU32}
use Rattle.wz_decode_code.specs.InstrReading.{u32_at}
use Rattle.wz_decode_code.specs.Code.{IsExpression}
use Rattle.wz_decode_code.specs.Entry.{Run, IsLocalsRun, locals_count, IsLocals, IsEntry, run_at, locals_at}
use Rattle.wz_decode_code.specs.Reading.{expression_at, entry_at}
use Rattle.wz_decode_code.specs.Laws.{OneEntry}
use Rattle.wz_decode_code.proofs.TypeLaws.{type_exact}
use Rattle.wz_decode_code.proofs.OperandLaws.{u32_exact}
use Rattle.wz_decode_code.proofs.CodeLaws.{expression_exact}

pub run_exact : IsExact (λ t run. IsLocalsRun t run) (λ b. run_at b)
run_exact = both_exact (λ t n. IsU32 t n) (λ t type. IsValType t type) (λ b. u32_at b) (λ b. type_at b) u32_exact type_exact

runs_exact : IsExact (λ t runs. IsVector (λ t run. IsLocalsRun t run) t runs) (λ b. vector_at (λ b. run_at b) b)
runs_exact = vector_exact (λ t run. IsLocalsRun t run) (λ b. run_at b) run_exact

pub locals_exact : IsExact (λ t runs. IsLocals t runs) (λ b. locals_at b)
locals_exact = record {
  found = λ bytes runs rest e.
      let x = bind_some (vector_at (λ b. run_at b) bytes) _ _ e in
      let g = guarded (nat_lt (locals_count x.0.0) (2 ^ 32)) _ _ x.2 in
      let f = runs_exact.found bytes x.0.0 x.0.1 x.1 in
      subst (λ (w : List Run × List ℕ). Front (λ t runs. IsLocals t runs) bytes w.0 w.1) (some_is _ _ g.1)
      (record { text = f.text; parts = f.parts; spelled = (f.spelled, ltb-true _ _ g.0) });
  again = λ text runs rest h. let few = lt-ltb _ _ h.1 in rw (runs_exact.again text runs rest h.0, few) refl;
}

pub entry_exact : IsExact (λ t entry. IsEntry t entry) (λ b. entry_at b)
entry_exact = both_exact (λ t runs. IsLocals t runs) (λ t code. IsExpression t code) (λ b. locals_at b) (λ b. expression_at b) locals_exact expression_exact

pub one_entry : OneEntry
one_entry bytes a b ha hb = some_is a b (sym (all_again (λ t entry. IsEntry t entry) (λ b. entry_at b) entry_exact bytes a ha)
    ∙ all_again (λ t entry. IsEntry t entry) (λ b. entry_at b) entry_exact bytes b hb)
