use Rattle.std.proofs.Common.{ℕ, ◌-◌, sym, subst, arith}
use Rattle.std.proofs.lemmas.Bool.{eqb-true}
use Rattle.wz_machine.specs.Stacks.{Entry}
use Rattle.wz_machine.specs.Landing.{IsLeft}
use Rattle.wz_machine.specs.Kept.{entry_of}
use Rattle.wz_machine.proofs.AdvanceLemmas.{ends_within}
use Rattle.wz_machine.proofs.stacks.Stacks.ends.Goals as goal

pub returns : goal.returns
returns c =
    let top = entry_of c.innermost-top.result in
    let count : ℕ = c.used-have.result - top.height in
    let left : IsLeft c.args.self.now 0 top.base c.used-have.result count c.leave_last.new.self =
    subst (λ (e : Entry). IsLeft c.args.self.now 0 e.base c.used-have.result count c.leave_last.new.self) (sym c.innermost-top.ensures.entry) c.leave_last.ensures in
    ends_within c.args.self.now c.leave_last.new.self top c.innermost-top.result.rest.now c.used-have.result c.innermost-top.ensures.stacked c.innermost-top.ensures.entry
    c.innermost-top.ensures.rest (eqb-true _ _ (sym c.if-not-is_empty.ensures)) c.used-have.ensures.count (omega arith) c.if-has_other.ensures left
