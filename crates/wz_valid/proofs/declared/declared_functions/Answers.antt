use Rattle.std.proofs.Common.{ℕ, List, [], ◌++◌, subst}
use Rattle.std.specs.List.{flat_map}
use Rattle.wz_code.specs.References.{AddsFunctions, referred_in}
use Rattle.wz_code.proofs.NumberLemmas.{adds_both}
use Rattle.wz_module.specs.Exports.{Export}
use Rattle.wz_module.specs.Globals.{GlobalDef}
use Rattle.wz_module.specs.Elements.{Elem}
use Rattle.wz_module.specs.Module.{Module}
use Rattle.wz_module.specs.Meaning.{module_of}
use Rattle.wz_module.specs.References.{referred_in_segment, exported_function}
use Rattle.wz_valid.specs.DeclaredFunctions.{HaveSameNumbers, declared_in}
use Rattle.wz_valid.proofs.declared.declared_functions.Goals as goal

-- what the three parts of a module add, one after the other
declared_by : (m : Module) (first second third : List ℕ) → AddsFunctions [] first (flat_map (λ g. referred_in g.init) m.globals)
    → AddsFunctions first second (flat_map referred_in_segment m.elements) → AddsFunctions second third (flat_map (λ e. exported_function e.target) m.exports)
    → HaveSameNumbers third (declared_in m)
declared_by m first second third globals elements exports =
    let segments = flat_map referred_in_segment m.elements in
    let targets = flat_map (λ (e : Export). exported_function e.target) m.exports in
    let inits = flat_map (λ (g : GlobalDef). referred_in g.init) m.globals in
    adds_both [] first third inits (segments ++ targets) globals (adds_both first second third segments targets elements exports)

pub returns : goal.returns
returns c =
    let first = c.add_globals.new.declared.keys in
    let second = c.add_referred_in_segments.new.functions.keys in
    let third = c.add_exports.new.declared.keys in
    declared_by (module_of c.args.«module».now) first second third
    (subst (λ (none : List ℕ). AddsFunctions none first (flat_map (λ (g : GlobalDef). referred_in g.init) (module_of c.args.«module».now).globals)) c.new-declared.ensures.empty
    (subst (λ (gs : List GlobalDef). AddsFunctions c.new-declared.result.keys first (flat_map (λ g. referred_in g.init) gs)) c.globals.ensures c.in_ok-add_globals.ensures))
    (subst (λ (es : List Elem). AddsFunctions first second (flat_map referred_in_segment es)) c.elements.ensures c.in_ok-add_referred_in_segments.ensures)
    (subst (λ (es : List Export). AddsFunctions second third (flat_map (λ e. exported_function e.target) es)) c.exports.ensures c.in_ok-add_exports.ensures)
