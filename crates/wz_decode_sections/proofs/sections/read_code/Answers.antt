use Rattle.std.proofs.Common.{◌≡◌}
use Rattle.wz_module.specs.Functions.{body_tree_of}
use Rattle.wz_decode_sections.specs.CodeSection.{IsCodeEntry, code_entry_at}
use Rattle.wz_bytes.specs.declared.vectors.ItemFault.TheVariants as item
use Rattle.wz_bytes.proofs.VectorLaws.{whole_vector, no_whole_vector}
use Rattle.wz_decode_sections.proofs.ItemLaws.{code_entry_exact}
use Rattle.wz_decode_sections.proofs.ReaderLemmas.{item_was_bad}
use Rattle.wz_decode_sections.proofs.sections.read_code.Goals as goal

pub returns-in-Ok-clause-found : goal.returns-in-Ok-clause-found
returns-in-Ok-clause-found c = whole_vector (λ t x. IsCodeEntry t x) (λ b. code_entry_at b) code_entry_exact (λ x. body_tree_of x) c.in-Ok.bodies.items c.args.payload.now c.in-Ok.ensures.ok

pub returns-in-Err-clause-bad : goal.returns-in-Err-clause-bad
returns-in-Err-clause-bad c = λ bad.
    let was : c.in-Err.fault ≡ item.Bad = item_was_bad c.in-Err.fault (cc (bad, c.from.ensures)) in
    no_whole_vector (λ t x. IsCodeEntry t x) (λ b. code_entry_at b) code_entry_exact (λ x. body_tree_of x) c.args.payload.now (c.in-Err.ensures.bad (cc was))
