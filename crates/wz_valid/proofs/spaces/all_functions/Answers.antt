use Rattle.std.proofs.Common.{ℕ, List, [], ◌++◌, get_or, sym, ap, ◌∙◌}
use Rattle.wz_module.specs.declared.items.Import as import
use Rattle.wz_module.specs.declared.items.ImportKind.TheVariants as kind
use Rattle.wz_module.specs.Imports.{Import}
use Rattle.wz_module.specs.Views.{import_of}
use Rattle.wz_valid.specs.Indices.{function_import}
use Rattle.wz_valid.proofs.ListLemmas.{flat_next}
use Rattle.wz_valid.proofs.spaces.all_functions.Goals as goal

abbrev none : import.Import
none = record { «module» = record { ref_ptr = (0, 0); now = [] }; name = record { ref_ptr = (0, 0); now = [] }; kind = kind.Func 0 }

pub loop-import-preserved : goal.loop-import-preserved
loop-import-preserved c =
    let i = c.loop-import.import-index in
    let imports = c.imports-imports.result.now in
    c.in_ok-add_function.ensures
    ∙ ap (λ (xs : List ℕ). xs ++ function_import (get_or imports i none).kind) c.loop-import.invariant
    ∙ sym (flat_next (λ (x : Import). function_import x.kind) import_of imports i none c.loop-import-test.true)
