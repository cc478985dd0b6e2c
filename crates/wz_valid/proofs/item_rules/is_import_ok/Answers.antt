use Rattle.std.proofs.Common.{[]}
use Rattle.wz_module.specs.declared.items.Import as import
use Rattle.wz_module.specs.declared.items.ImportKind.TheVariants as kind
use Rattle.wz_module.specs.Views.{import_of}
use Rattle.wz_module.specs.Meaning.{module_of}
use Rattle.wz_valid.proofs.ListLemmas.{past_items}
use Rattle.wz_valid.proofs.CheckLemmas.{import_tells}
use Rattle.wz_valid.proofs.item_rules.is_import_ok.Goals as goal

abbrev none : import.Import
none = record { «module» = record { ref_ptr = (0, 0); now = [] }; name = record { ref_ptr = (0, 0); now = [] }; kind = kind.Func 0 }

pub returns-then-index-imports : goal.returns-then-index-imports
returns-then-index-imports c =
    import_tells (module_of c.args.«module».now) c.imports-imports.result.now c.args.index none c.is_import_kind_ok.result c.imports-imports.ensures c.if-index-imports.true
    c.is_import_kind_ok.ensures

pub returns-else-index-imports : goal.returns-else-index-imports
returns-else-index-imports c =
    past_items _ import_of c.imports-imports.result.now (module_of c.args.«module».now).imports c.args.index c.imports-imports.ensures c.if-index-imports.false
