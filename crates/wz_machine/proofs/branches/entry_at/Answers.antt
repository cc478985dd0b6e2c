use Rattle.std.proofs.Common.{◌∙◌, Some, ap, sym, arith}
use Rattle.wz_machine.specs.declared.stacks.Opened.{Opened}
use Rattle.wz_machine.specs.Kept.{entry_of}
use Rattle.wz_machine.proofs.KeptLemmas.{entry-get}
use Rattle.wz_machine.proofs.branches.entry_at.Goals as goal

pub returns : goal.returns
returns c =
    entry-get c.args.outer.now c.args.top c.index-outer-outer.result _ (omega arith) c.requires
    ∙ ap (λ (o : Opened). Some (entry_of o)) (sym c.index-outer-outer.is)
