use Rattle.std.proofs.Common.{◌≡◌, List, [], sym, subst}
use Rattle.std.specs.List.{All}
use Rattle.wz_module.specs.Sections.{Section}
use Rattle.wz_module.specs.ShortLists.{IsShortList}
use Rattle.wz_module.specs.declared.items.Section as item
use Rattle.wz_decode_sections.specs.ElementSection.{IsElementSection}
use Rattle.wz_rewrite.specs.Sources.{source_module}
use Rattle.wz_rewrite.proofs.PreparedLemmas.{at_section}
use Rattle.wz_rewrite.proofs.preparing.all_pieces.Goals as goal

pub add_place-requires-clause-elements : goal.add_place-requires-clause-elements
add_place-requires-clause-elements c =
    let P : Section → Type 0 = λ s. s.id ≡ 9 → IsElementSection s.payload (source_module c.args.sources.now).elements in
    let d : item.Section = record { id = 0; payload = record { ref_ptr = (0, 0); now = [] } } in
    let all = subst (λ (ss : List Section). All P ss) (sym c.sections-sections.ensures) c.requires.elements in
    at_section P c.sections-sections.result.now c.loop-section.section-index d all c.loop-section-test.true

pub add_place-requires-clause-short : goal.add_place-requires-clause-short
add_place-requires-clause-short c =
    let P : Section → Type 0 = λ s. IsShortList s.payload in
    let d : item.Section = record { id = 0; payload = record { ref_ptr = (0, 0); now = [] } } in
    let all = subst (λ (ss : List Section). All P ss) (sym c.sections-sections.ensures) c.args.sources.now.input.now.short_lists.payloads in
    at_section P c.sections-sections.result.now c.loop-section.section-index d all c.loop-section-test.true
