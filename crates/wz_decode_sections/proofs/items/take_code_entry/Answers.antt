use Rattle.std.proofs.Common.{◌≡◌, arith}
use Rattle.wz_decode_code.specs.declared.fault.CodeFault.TheVariants as code
use Rattle.wz_decode_sections.proofs.ReaderLemmas.{bytes_within, entry_read, no_entry, code_was_bad}
use Rattle.wz_decode_sections.proofs.items.take_code_entry.Goals as goal

pub read_body-requires : goal.read_body-requires
read_body-requires c = omega (arith, c.requires, bytes_within _ _ _ c.in-Some.ensures)

pub returns-in-Ok-clause-ok : goal.returns-in-Ok-clause-ok
returns-in-Ok-clause-ok c = entry_read _ _ _ _ c.in-Some.ensures c.in-Ok.ensures.found

pub returns-in-Err-clause-bad : goal.returns-in-Err-clause-bad
returns-in-Err-clause-bad c = λ bad.
    let entry : c.in-Err.fault ≡ code.Bad = code_was_bad c.in-Err.fault (cc (bad, c.item_fault.ensures)) in
    no_entry _ _ _ c.in-Some.ensures (c.in-Err.ensures.bad (cc entry))
