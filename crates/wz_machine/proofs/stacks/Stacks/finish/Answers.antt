use Rattle.std.proofs.Common.{ℕ, ◌-◌, refl, sym, subst, arith}
use Rattle.wz_machine.specs.Stacks.{Entry}
use Rattle.wz_machine.specs.Landing.{IsLeft}
use Rattle.wz_machine.specs.Kept.{entry_of}
use Rattle.wz_machine.proofs.StepLemmas.{end-stuck-by, end-done-by, end-left-by}
use Rattle.wz_machine.proofs.stacks.Stacks.finish.Goals as goal

pub returns-then-has_other : goal.returns-then-has_other
returns-then-has_other c = λ st. (
  end-stuck-by st c.args.self.now (entry_of c.innermost-top.result) c.used-have.result c.innermost-top.ensures.stacked c.requires c.innermost-top.ensures.entry
      c.used-have.ensures.count c.if-has_other.ensures.0 c.if-has_other.ensures.1,
  refl,
)

pub returns : goal.returns
returns c = λ st.
    let top = entry_of c.innermost-top.result in
    let count : ℕ = c.used-have.result - top.height in
    let left : IsLeft c.args.self.now 0 top.base c.used-have.result count c.leave_last.new.self =
    subst (λ (e : Entry). IsLeft c.args.self.now 0 e.base c.used-have.result count c.leave_last.new.self) (sym c.innermost-top.ensures.entry) c.leave_last.ensures in
    end-left-by st c.args.self.now c.leave_last.new.self top c.used-have.result c.innermost-top.ensures.stacked c.requires
    c.innermost-top.ensures.entry c.used-have.ensures.count c.if-has_other.ensures left

pub returns-then-around-eq0 : goal.returns-then-around-eq0
returns-then-around-eq0 c = λ st. record {
  done =
      end-done-by st c.args.self.now (entry_of c.innermost-top.result) c.used-have.result c.innermost-top.ensures.stacked c.requires
      c.innermost-top.ensures.entry c.used-have.ensures.count (omega arith) c.if-has_other.ensures;
  within = omega arith;
  same = refl;
}
