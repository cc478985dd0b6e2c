use Rattle.std.proofs.Common.{◌≡◌, length, sym, ◌∙◌, arith}
use Rattle.wz_rewrite.proofs.TestLemmas.{none_small, one_small, where_at_most}
use Rattle.wz_rewrite.proofs.tests.is_small.Goals as goal

pub returns-in-None-clause-small : goal.returns-in-None-clause-small
returns-in-None-clause-small c = (none_small c.args.store.now.memories c.in-None.ensures).1

pub returns-then-memory_count-eq1-clause-small : goal.returns-then-memory_count-eq1-clause-small
returns-then-memory_count-eq1-clause-small c =
    let one : length c.args.store.now.memories ≡ 1 = omega (arith, c.memory_count.ensures) in
    where_at_most c.in-Some.kind.limits.min 16384 (one_small c.args.store.now.memories c.in-Some.kind c.in-Some.ensures one)
