use Rattle.std.proofs.Common.{◌≤◌, ◌+◌, refl, arith, inl, inr, ap}
use Rattle.wz_machine.specs.declared.stacks.Kind.{Kind}
use Rattle.wz_machine.specs.Kept.{entry_kind, entry_of}
use Rattle.wz_machine.proofs.BranchLemmas.{branch-few, branch-ends, branch-left, branch-again}
use Rattle.wz_machine.proofs.stacks.Stacks.branch.Goals as goal

pub returns-then-label-around : goal.returns-then-label-around
returns-then-label-around c =
    let enough : c.args.self.now.top.height + c.target-target.result.arity ≤ c.args.have = omega arith in
    record {
      done = branch-ends c.args.self.now c.args.label c.args.have (entry_of c.target-target.result) c.target-target.ensures.here (omega arith) c.requires.values enough;
      within = omega (arith, enough, c.requires.values);
      same = refl;
    }

pub returns-in-Call : goal.returns-in-Call
returns-in-Call c =
    branch-left c.args.self.now c.leave.new.self c.args.label c.args.have (entry_of c.target-target.result) c.target-target.ensures.here c.requires.values (omega arith)
    (inl (ap (λ (k : Kind). entry_kind k) c.in-Call.is)) c.leave.ensures

pub returns-in-Block : goal.returns-in-Block
returns-in-Block c =
    branch-left c.args.self.now c.leave-in-Block.new.self c.args.label c.args.have (entry_of c.target-target.result) c.target-target.ensures.here c.requires.values (omega arith)
    (inr (ap (λ (k : Kind). entry_kind k) c.in-Block.is)) c.leave-in-Block.ensures

pub returns-in-Loop : goal.returns-in-Loop
returns-in-Loop c =
    branch-again c.args.self.now c.begin_again.new.self c.args.label c.args.have (entry_of c.target-target.result) c.in-Loop.again.now c.target-target.ensures.here (omega arith)
    c.requires.values (omega arith) (ap (λ (k : Kind). entry_kind k) c.in-Loop.is) c.begin_again.ensures

pub returns-then-have-height : goal.returns-then-have-height
returns-then-have-height c =
    (branch-few c.args.self.now c.args.label c.args.have (entry_of c.target-target.result) c.target-target.ensures.here c.requires.values (omega arith), refl)
