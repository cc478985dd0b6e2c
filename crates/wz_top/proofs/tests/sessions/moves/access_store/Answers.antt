use Rattle.std.proofs.Common.{arith}
use Rattle.wz_machine.specs.State.{state_of}
use Rattle.wz_top.proofs.tests.sessions.moves.access_store.Goals as goal

pub returns : goal.returns
returns c bodies stack typed =
    c.typed_states.ensures.contents (state_of bodies c.args.store.now) stack 0 c.size_pages-pages.result _ typed c.size_pages-pages.ensures.octets
    c.size_pages-pages.ensures.whole (omega (arith, c.size_pages-pages.ensures.bounded))
