use Rattle.std.proofs.Common.{◌≡◌, ◌+◌, length, ap, ◌∙◌, arith}
use Rattle.std.specs.Prelude.{vec_len}
use Rattle.wz_code.specs.Laid.{parts_of}
use Rattle.wz_code.specs.declared.body.Whole.{Whole}
use Rattle.wz_code.specs.BodyParts.{BodyParts}
use Rattle.wz_code.proofs.LayoutLemmas.{length-cut}
use Rattle.wz_code.proofs.body.Body.block_count.Goals as goal

-- as many starts as there are blocks behind block 0
counted : (c : goal.After-len) → c.len.result + 1 ≡ length (parts_of c.self.inside.parts).blocks
counted c =
    let w = c.in-Whole.whole.value in
    let starts : c.len.result ≡ length w.starts.items = c.len.ensures ∙ ap (λ (w : Whole). vec_len w.starts) c.deref.ensures ∙ w.starts.ok.0 in
    rw c.in-Whole.is (omega (arith, length-cut w.code.items 0 w.starts.items))

pub overflow_cast-result : goal.overflow_cast-result
overflow_cast-result c = omega (arith, counted c, c.self.invariant.body.short.blocks)

pub overflow_add-result : goal.overflow_add-result
overflow_add-result c = omega (arith, counted c, c.self.invariant.body.short.blocks)

pub returns-in-Whole-clause-count : goal.returns-in-Whole-clause-count
returns-in-Whole-clause-count c = omega (arith, counted c, ap (λ (b : BodyParts). length b.blocks) c.self.view_is)
