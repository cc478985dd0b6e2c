use Rattle.std.proofs.Common.{ℕ, List, slice_get, ap, ◌∙◌, arith}
use Rattle.wz_module.specs.Meaning.{module_of}
use Rattle.wz_exports.proofs.SignatureLemmas.{found_here, one_behind, other_kind, own_left, read_number}
use Rattle.wz_exports.proofs.signatures.signature_number.Goals as goal
use Rattle.wz_exports.proofs.signatures.signature_number.Goals.{in-Func+else-left-eq0, in_default}

pub returns-then-left-eq0 : goal.returns-then-left-eq0
returns-then-left-eq0 c =
    found_here c.imports-import-items.result.now c.loop-import.import-index _ (module_of c.args.«module».now).functions c.loop-import.left _ c.loop-import-test.true
    c.loop-import.invariant
    c.in-Func.number c.in-Func.is c.if-left-eq0.true

pub loop-import-preserved : goal.loop-import-preserved
loop-import-preserved c =
    let imports = c.imports-import-items.result.now in
    let i = c.loop-import.import-index in
    let own = (module_of c.args.«module».now).functions in
    elim c.match-import.branch [
      | in-Func+else-left-eq0 w ↦ one_behind imports i _ own c.loop-import.left _ c.loop-import-test.true c.loop-import.invariant w.in-Func.number c.match-import.left
          w.in-Func.is (omega arith) w.left-is
      | in_default w ↦ other_kind imports i _ own c.loop-import.left _ c.loop-import-test.true c.loop-import.invariant c.match-import.left w.in_default.not-Func w.left-is
    ]

pub returns : goal.returns
returns c =
    let asked = own_left c.imports-import-items.result.now c.loop-import.import-index (module_of c.args.«module».now).functions c.loop-import.left _ c.loop-import-test.false
    c.loop-import.invariant in
    c.copied.ensures
    ∙ read_number c.get.result c.functions.result.now c.loop-import.left c.get.ensures.lookup.1 c.get.ensures.lookup.3
    ∙ ap (λ (own : List ℕ). slice_get own c.loop-import.left) c.functions.ensures
    ∙ asked
