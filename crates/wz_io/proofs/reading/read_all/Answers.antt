use Rattle.std.proofs.Common.{ℕ, List, ◌++◌, take, sym, ap, ◌∙◌}
use Rattle.std.specs.Prelude.{Option}
use Rattle.std.specs.Io.KnownBytes.{prepend_known}
use Rattle.wz_io.proofs.ReadingLemmas.{prepend-append}
use Rattle.wz_io.proofs.reading.read_all.Goals as goal

pub returns-then-is_err-clause-begun : goal.returns-then-is_err-clause-begun
returns-then-is_err-clause-begun g c = (
  c.loop-count.all.items ++ take c.in-Ok.count c.read.new.buffer,
  c.loop-count.invariant.left
      ∙ ap (λ (left : Option (List ℕ)). prepend_known c.loop-count.all.items left) c.in-Ok.ensures.did.left
      ∙ sym (prepend-append _ _ _),
)
