use Rattle.std.proofs.Common.{◌≡◌}
use Rattle.wz_module.specs.Views.{elem_of}
use Rattle.wz_decode_sections.specs.ElementSection.{IsElem, elem_at}
use Rattle.wz_bytes.specs.declared.vectors.ItemFault.TheVariants as item
use Rattle.wz_bytes.proofs.VectorLaws.{whole_vector, no_whole_vector}
use Rattle.wz_decode_sections.proofs.SegmentLaws.{elem_exact}
use Rattle.wz_decode_sections.proofs.ReaderLemmas.{item_was_bad}
use Rattle.wz_decode_sections.proofs.sections.read_elements.Goals as goal

pub returns-in-Ok-clause-found : goal.returns-in-Ok-clause-found
returns-in-Ok-clause-found c = whole_vector (λ t x. IsElem t x) (λ b. elem_at b) elem_exact (λ x. elem_of x) c.in-Ok.elements.items c.args.payload.now c.in-Ok.ensures.ok

pub returns-in-Err-clause-bad : goal.returns-in-Err-clause-bad
returns-in-Err-clause-bad c = λ bad.
    let was : c.in-Err.fault ≡ item.Bad = item_was_bad c.in-Err.fault (cc (bad, c.from.ensures)) in
    no_whole_vector (λ t x. IsElem t x) (λ b. elem_at b) elem_exact (λ x. elem_of x) c.args.payload.now (c.in-Err.ensures.bad (cc was))
