use Rattle.std.proofs.Common.{arith}
use Rattle.wz_machine.proofs.CallLemmas.{put_length, put_moved}
use Rattle.wz_machine.proofs.calls.put_called.Goals as goal

pub returns-clause-count : goal.returns-clause-count
returns-clause-count c = put_length _ _ _ _ _ c.requires.used c.in_ok-now.ensures.used c.in_ok-now.ensures.put

pub returns-clause-put : goal.returns-clause-put
returns-clause-put c =
    put_moved _ _ _ _ _ _ _ c.requires.used c.requires.have (omega arith) c.in_ok-now.ensures.put c.in_ok-now.ensures.kept c.move_down.ensures.moved
