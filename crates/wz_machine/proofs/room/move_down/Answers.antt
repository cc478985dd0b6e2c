use Rattle.std.proofs.Common.{◌≡◌, ◌+◌, ℕ, ◌++◌, take, drop, subst}
use Rattle.std.proofs.Math.Seq.{take-add}
use Rattle.wz_machine.proofs.room.move_down.Goals as goal

pub returns-then-to-from-clause-moved : goal.returns-then-to-from-clause-moved
returns-then-to-from-clause-moved c =
    let items = c.args.values.now.items in
    subst (λ (n : ℕ). take (c.args.to + c.args.count) items ≡ take c.args.to items ++ take c.args.count (drop n items)) c.if-to-from.true
    (take-add c.args.to c.args.count items)
