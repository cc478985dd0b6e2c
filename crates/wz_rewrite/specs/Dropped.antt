-- Passive segments that a run dropped (sections 4.4.6 and 4.4.7 of the WebAssembly Core Specification 2.0, `elem.drop` and `data.drop`):
-- those that have items in the module, and none in the state that was reached.
use Rattle.std.specs.Prelude.{ℕ, ◌+◌, Bool, true, false, not, ◌&&◌, List, [], ◌∷◌, slice_index_or, if◌then◌else◌}
use Rattle.wz_module.specs.Elements.{ElemMode, PassiveElem, ActiveElem, DeclarativeElem, Elem}
use Rattle.wz_module.specs.Module.{Module}
use Rattle.wz_snapshot.specs.Recorded.{has_no_items}
use Rattle.wz_rewrite.specs.OutputState.{OutputState}

-- the list of a segment has items in the module, and the state's is empty
abbrev pub was_emptied : {X : Type 0} → List X → Bool → Bool
was_emptied items empty = not (has_no_items items) && empty

abbrev pub is_passive : ElemMode → Bool
is_passive PassiveElem = true
is_passive (ActiveElem table offset) = false
is_passive DeclarativeElem = false

-- an element segment, and whether it is empty in the state
abbrev pub was_dropped : Elem → Bool → Bool
was_dropped e empty = is_passive e.mode && was_emptied e.init empty

-- of marks, that of this number; where there is none, the segment isn't empty
abbrev pub is_empty_at : List Bool → ℕ → Bool
is_empty_at marks number = slice_index_or marks number false

-- the numbers of the element segments that were dropped, where the first of them has this number
abbrev pub dropped_from : List Bool → ℕ → List Elem → List ℕ
dropped_from marks number [] = []
dropped_from marks number (e ∷ elements) =
    if was_dropped e (is_empty_at marks number) then number ∷ dropped_from marks (number + 1) elements
    else dropped_from marks (number + 1) elements

abbrev pub dropped_elements : Module → OutputState → List ℕ
dropped_elements m o = dropped_from o.empty_elements 0 m.elements
