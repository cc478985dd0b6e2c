use Rattle.std.proofs.Common.{ℕ, List, ap, length, arith}
use Rattle.std.proofs.Math.ListN.{length-map}
use Rattle.wz_module.specs.Imports.{Import}
use Rattle.wz_module.specs.Views.{import_of}
use Rattle.wz_module.specs.Meaning.{module_of}
use Rattle.wz_valid.proofs.ProfileLemmas.{counts_length}
use Rattle.wz_valid.proofs.profile_rules.function_count.Goals as goal

pub returns : goal.returns
returns c =
    omega (
      arith,
      counts_length (module_of c.args.«module».now) c.requires,
      ap (λ (imports : List Import). length imports) c.imports-imports.ensures,
      length-map c.imports-imports.result.now import_of,
      ap (λ (functions : List ℕ). length functions) c.functions-functions.ensures,
    )
