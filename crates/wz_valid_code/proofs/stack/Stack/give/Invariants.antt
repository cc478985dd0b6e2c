use Rattle.std.proofs.Common.{◌≡◌, drop}
use Rattle.wz_valid_code.specs.Operands.{pushed}
use Rattle.wz_valid_code.proofs.stack.Stack.give.Given as goal

abbrev pub invariant-loop-kind : goal.invariant-loop-kind
invariant-loop-kind l = record {
  same : l.self.dead ≡ l.initial.self.dead;
  rest : pushed (drop l.kind-index l.types) l.self.items ≡ pushed l.types l.initial.self.items;
}
