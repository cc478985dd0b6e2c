-- The functions to which element segments refer and which exports give (sections 2.5.7 and 2.5.10 of the Core Specification).
use Rattle.std.specs.Prelude.{ℕ, List, [], ◌∷◌, ◌++◌}
use Rattle.std.specs.List.{flat_map}
use Rattle.wz_code.specs.References.{referred_in}
use Rattle.wz_module.specs.declared.items.ExportTarget.{ExportTarget}
use Rattle.wz_module.specs.declared.items.ExportTarget.TheVariants as target
use Rattle.wz_module.specs.Elements.{ElemMode, PassiveElem, ActiveElem, DeclarativeElem, Elem}

abbrev pub referred_in_mode : ElemMode → List ℕ
referred_in_mode PassiveElem = []
referred_in_mode (ActiveElem table offset) = referred_in offset
referred_in_mode DeclarativeElem = []

abbrev pub referred_in_segment : Elem → List ℕ
referred_in_segment e = referred_in_mode e.mode ++ flat_map referred_in e.init

abbrev pub exported_function : ExportTarget → List ℕ
exported_function (target.Func index) = index ∷ []
exported_function (target.Table index) = []
exported_function (target.Memory index) = []
exported_function (target.Global index) = []
