use Rattle.std.proofs.Common.{◌≡◌, ◌++◌, slice_get, drop, map}
use Rattle.std.specs.List.{flat_map}
use Rattle.wz_module.specs.Meaning.{module_of}
use Rattle.wz_module.specs.Views.{import_of}
use Rattle.wz_exports.specs.Functions.{import_signature, signatures_of}
use Rattle.wz_exports.proofs.signatures.signature_number.Given as goal

abbrev pub invariant-loop-import : goal.invariant-loop-import
invariant-loop-import l =
    slice_get (flat_map (λ i. import_signature i.kind) (map import_of (drop l.import-index l.import-items)) ++ (module_of l.«module»).functions) l.left
    ≡ slice_get (signatures_of (module_of l.«module»)) l.index
