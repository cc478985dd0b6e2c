-- Section 5.5.10 of the Core Specification: how exports are written.
use Rattle.std.specs.Prelude.{ℕ, List, ◌∷◌, ◌++◌}
use Rattle.wz_bytes.specs.Shortest.{shortest_unsigned}
use Rattle.wz_module.specs.declared.items.ExportTarget.{ExportTarget}
use Rattle.wz_module.specs.declared.items.ExportTarget.TheVariants.{Func, Table, Memory, Global}
use Rattle.wz_module.specs.Exports.{Export}
use Rattle.wz_encode.specs.Vectors.{vector_text, bytes_text}

-- exportdesc ::= 0x00 funcidx | 0x01 tableidx | 0x02 memidx | 0x03 globalidx
abbrev pub target_text : ExportTarget → List ℕ
target_text (Func index) = 0x00 ∷ shortest_unsigned index
target_text (Table index) = 0x01 ∷ shortest_unsigned index
target_text (Memory index) = 0x02 ∷ shortest_unsigned index
target_text (Global index) = 0x03 ∷ shortest_unsigned index

-- export ::= name exportdesc
abbrev pub export_text : List ℕ → ExportTarget → List ℕ
export_text name target = bytes_text name ++ target_text target

-- exportsec ::= vec(export)
abbrev pub exports_text : List Export → List ℕ
exports_text exports = vector_text (λ export. export_text export.name export.target) exports
