use Rattle.std.proofs.Common.{ap, ◌-◌, ◌^◌}
use Rattle.wz_init.specs.Plain.{plain_element}
use Rattle.wz_store.specs.Made.{StoreState}
use Rattle.wz_init.proofs.BehindLemmas.{room_for_each}
use Rattle.wz_init.proofs.allocation.add_elements.Goals as goal

pub add_element-requires-clause-room : goal.add_element-requires-clause-room
add_element-requires-clause-room g c =
    room_for_each plain_element c.args.elements.now c.loop-element.element-index c.loop-element.store.elements c.args.store.now.elements (2 ^ 32 - 1)
    (ap (λ (s : StoreState). s.elements) c.loop-element.invariant) c.requires.room
