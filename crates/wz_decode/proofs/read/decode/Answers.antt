use Rattle.wz_module.specs.Meaning.{module_of}
use Rattle.wz_decode.specs.declared.fault.DecodeFault.TheVariants.{NotWasm, BadSection, BadCounts}
use Rattle.wz_decode.proofs.CauseLaws.{ByCause, refuses, reads}
use Rattle.wz_decode.proofs.read.decode.Goals as goal

by_cause : (c : goal.After-read_module) → ByCause (λ m. module_of m) c.args.bytes.now c.read_module.result
by_cause c =
    let e = c.read_module.ensures in
    record { found = e.found; not_wasm = e.not_wasm; bad_section = e.bad_section; bad_counts = e.bad_counts }

pub returns-clause-reads : goal.returns-clause-reads
returns-clause-reads c = reads _ _ _ (by_cause c)

pub returns-clause-refuses_not_wasm : goal.returns-clause-refuses_not_wasm
returns-clause-refuses_not_wasm c = refuses _ _ _ (by_cause c) NotWasm

pub returns-clause-refuses_bad_section : goal.returns-clause-refuses_bad_section
returns-clause-refuses_bad_section c = λ at. refuses _ _ _ (by_cause c) (BadSection at)

pub returns-clause-refuses_bad_counts : goal.returns-clause-refuses_bad_counts
returns-clause-refuses_bad_counts c = refuses _ _ _ (by_cause c) BadCounts
