use Rattle.std.proofs.Common.{◌++◌, drop, arith}
use Rattle.std.proofs.lemmas.Grind.{common_steps}
use Rattle.wz_io.proofs.MemoryLemmas.{taken-rest}
use Rattle.wz_io.proofs.memory.take_some.Goals as goal

pub returns-clause-bytes : goal.returns-clause-bytes
returns-clause-bytes c =
    taken-rest c.args.input.now (c.copy_from_slice.new.self ++ drop c.min-count.result c.args.buffer.now) c.args.at c.min-count.result
    (grind (arith, common_steps))
