use Rattle.std.proofs.Common.{List, [], ap, map, take, length, arith, get_or}
use Rattle.std.proofs.Math.ListN.{length-append}
use Rattle.wz_types.specs.declared.types.MemType.{MemType}
use Rattle.wz_module.specs.declared.items.Import as import
use Rattle.wz_module.specs.declared.items.ImportKind.TheVariants as kind
use Rattle.wz_module.specs.Imports.{Import}
use Rattle.wz_module.specs.Views.{import_of}
use Rattle.wz_valid.specs.Indices.{memory_import, imported_memories}
use Rattle.wz_valid.proofs.ListLemmas.{flat_next}
use Rattle.wz_valid.proofs.item_rules.memory_count.Goals as goal

abbrev none : import.Import
none = record { «module» = record { ref_ptr = (0, 0); now = [] }; name = record { ref_ptr = (0, 0); now = [] }; kind = kind.Func 0 }

pub loop-import-preserved : goal.loop-import-preserved
loop-import-preserved c =
    let i = c.loop-import.import-index in
    let imports = c.args.imports.now in
    let next = flat_next (λ (x : Import). memory_import x.kind) import_of imports i none c.loop-import-test.true in
    let more = length-append (imported_memories (take i (map import_of imports))) (memory_import (get_or imports i none).kind) in (
      omega (arith, ap (λ (ms : List MemType). length ms) next, more, c.loop-import.invariant.0, c.memory_number-count.ensures.value),
      omega (arith, c.memory_number-count.ensures.one, c.loop-import.invariant.1),
    )
