use Rattle.std.proofs.Common.{List, ◌++◌, map, take, ap, ◌∙◌, arith}
use Rattle.std.proofs.lemmas.List.{take_all}
use Rattle.wz_types.specs.declared.types.GlobalType.{GlobalType}
use Rattle.wz_module.specs.Globals.{GlobalDef}
use Rattle.wz_module.specs.Views.{global_of}
use Rattle.wz_module.specs.Meaning.{module_of}
use Rattle.wz_module.specs.declared.items.GlobalDef as global
use Rattle.wz_valid.specs.Indices.{imported_globals}
use Rattle.wz_valid.proofs.ListLemmas.{map_twice}
use Rattle.wz_valid.proofs.spaces.add_own_globals.Goals as goal

pub returns : goal.returns
returns c =
    let own = c.globals-own.result.now in
    let behind = imported_globals (module_of c.args.«module».now).imports in
    c.loop-global.invariant
    ∙ ap (λ (xs : List GlobalType). xs ++ map (λ (g : global.GlobalDef). g.kind) (take c.loop-global.global-index own)) c.requires
    ∙ ap (λ (gs : List global.GlobalDef). behind ++ map (λ (g : global.GlobalDef). g.kind) gs) (take_all c.loop-global.global-index own (omega arith))
    ∙ ap (λ (xs : List GlobalType). behind ++ xs) (map_twice (λ (g : GlobalDef). g.kind) global_of own)
    ∙ ap (λ (gs : List GlobalDef). behind ++ map (λ (g : GlobalDef). g.kind) gs) c.globals-own.ensures
