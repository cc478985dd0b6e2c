use Rattle.std.proofs.Common.{◌≡◌, map, drop}
use Rattle.wz_init.specs.Plain.{plain_element, elements_behind}
use Rattle.wz_init.proofs.allocation.add_elements.Given as goal

abbrev pub invariant-loop-element : goal.invariant-loop-element
invariant-loop-element g l =
    elements_behind l.store (map plain_element (drop l.element-index l.elements)) ≡ elements_behind l.initial.store (map plain_element l.elements)
