use Rattle.wz_valid_code.proofs.TakeLemmas.{after_taking-on}
use Rattle.wz_valid_code.proofs.stack.Stack.exchange_on.Goals as goal

pub returns : goal.returns
returns c = rw (after_taking-on, c.if-not-take_one.ensures.taken, ← c.if-not-take_one.ensures.same) c.exchange.ensures
