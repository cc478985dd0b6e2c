use Rattle.std.proofs.Common.{List, [], All, subst, arith}
use Rattle.wz_module.specs.declared.items.Import as import
use Rattle.wz_module.specs.declared.items.ImportKind.TheVariants as kind
use Rattle.wz_module.specs.Imports.{Import}
use Rattle.wz_module.specs.Views.{import_of}
use Rattle.wz_valid.specs.Profile.{IsFunctionImport}
use Rattle.wz_valid.proofs.ListLemmas.{all_next, all_done}
use Rattle.wz_valid.proofs.profile_rules.check_imports.Goals as goal

abbrev none : import.Import
none = record { «module» = record { ref_ptr = (0, 0); now = [] }; name = record { ref_ptr = (0, 0); now = [] }; kind = kind.Func 0 }

pub loop-index-preserved : goal.loop-index-preserved
loop-index-preserved c =
    all_next IsFunctionImport import_of c.imports-imports.result.now c.loop-index.index none c.loop-index-test.true c.loop-index.invariant c.if-not-is_function_kind.ensures

pub returns-clause-functions : goal.returns-clause-functions
returns-clause-functions c =
    subst (λ (imports : List Import). All IsFunctionImport imports) c.imports-imports.ensures
    (all_done IsFunctionImport import_of c.imports-imports.result.now c.loop-index.index (omega arith) c.loop-index.invariant)
