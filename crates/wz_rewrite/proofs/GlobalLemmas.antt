-- The types of globals, as the code reads them.
use Rattle.std.proofs.Common.{◌≡◌, List, [], ◌∷◌, map, refl, ap}
use Rattle.wz_types.specs.declared.types.GlobalType.{GlobalType}
use Rattle.wz_module.specs.Globals.{GlobalDef}
use Rattle.wz_module.specs.Views.{global_of}
use Rattle.wz_module.specs.declared.items.GlobalDef as global

abbrev pub kinds_of : List GlobalDef → List GlobalType
kinds_of globals = map (λ g. g.kind) globals

pub kinds_same : (globals : List global.GlobalDef) → map (λ g. g.kind) globals ≡ kinds_of (map global_of globals)
kinds_same [] = refl
kinds_same (g ∷ globals) = ap (λ (ts : List GlobalType). g.kind ∷ ts) (kinds_same globals)
