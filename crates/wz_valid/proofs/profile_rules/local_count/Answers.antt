use Rattle.std.proofs.Common.{◌≡◌, ℕ, ◌-◌, List, [], Some, slice_get, length, sym, ap, subst, ◌∙◌, get_or, arith}
use Rattle.std.proofs.Math.ListN.{length-map}
use Rattle.wz_module.specs.declared.items.Import as import
use Rattle.wz_module.specs.declared.items.ImportKind.TheVariants as kind
use Rattle.wz_module.specs.Imports.{Import}
use Rattle.wz_module.specs.Views.{import_of}
use Rattle.wz_module.specs.Meaning.{module_of}
use Rattle.wz_valid.specs.Profile.{own_counts}
use Rattle.wz_valid.proofs.ListLemmas.{slice_get_map}
use Rattle.wz_valid.proofs.ProfileLemmas.{count_of_import, count_of_own, counts_length}
use Rattle.wz_valid.proofs.profile_rules.local_count.Goals as goal

abbrev none : import.Import
none = record { «module» = record { ref_ptr = (0, 0); now = [] }; name = record { ref_ptr = (0, 0); now = [] }; kind = kind.Func 0 }

pub returns-then-function-imports : goal.returns-then-function-imports
returns-then-function-imports c =
    let m = module_of c.args.«module».now in
    let i = c.args.function in
    let found = import_of (get_or c.imports-imports.result.now i none) in
    let here : slice_get m.imports i ≡ Some found =
    ap (λ (imports : List Import). slice_get imports i) (sym c.imports-imports.ensures) ∙ slice_get_map import_of c.imports-imports.result.now i none c.if-function-imports.true in
    let e = count_of_import m i found c.requires.imports here in
    cc (e, c.import_params.ensures, c.types.ensures)

pub own_count-requires : goal.own_count-requires
own_count-requires c =
    omega (
      arith,
      counts_length (module_of c.args.«module».now) c.requires.imports,
      ap (λ (imports : List Import). length imports) c.imports-imports.ensures,
      length-map c.imports-imports.result.now import_of,
      c.requires.there,
    )

pub returns : goal.returns
returns c =
    let m = module_of c.args.«module».now in
    let i = c.args.function in
    let same : length c.imports-imports.result.now ≡ length m.imports =
    sym (length-map c.imports-imports.result.now import_of) ∙ ap (λ (imports : List Import). length imports) c.imports-imports.ensures in
    count_of_own m i c.own_count.result c.requires.imports (omega (arith, same))
    (subst (λ (n : ℕ). slice_get (own_counts m) (i - n) ≡ Some c.own_count.result) same c.own_count.ensures)
