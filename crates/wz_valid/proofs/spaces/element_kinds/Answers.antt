use Rattle.std.proofs.Common.{List, map, ap, ◌∙◌, arith}
use Rattle.std.proofs.lemmas.List.{take_all}
use Rattle.wz_module.specs.Elements.{Elem}
use Rattle.wz_module.specs.Views.{elem_of}
use Rattle.wz_module.specs.declared.items.Elem as elem
use Rattle.wz_valid.proofs.ListLemmas.{map_twice}
use Rattle.wz_valid.proofs.spaces.element_kinds.Goals as goal

pub returns : goal.returns
returns c =
    let elements = c.elements-elements.result.now in
    c.loop-element.invariant
    ∙ ap (λ (es : List elem.Elem). map (λ (e : elem.Elem). e.kind) es) (take_all c.loop-element.element-index elements (omega arith))
    ∙ map_twice (λ (e : Elem). e.kind) elem_of elements
    ∙ ap (λ (es : List Elem). map (λ (e : Elem). e.kind) es) c.elements-elements.ensures
