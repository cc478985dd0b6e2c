use Rattle.std.proofs.Common.{◌≡◌, ℕ, ◌+◌, List, Some, slice_get, get_or, sym, ap, ◌∙◌}
use Rattle.wz_types.specs.FunctionType.{FunctionType}
use Rattle.wz_module.specs.Meaning.{module_of}
use Rattle.wz_valid.specs.Profile.{params_of, locals_length}
use Rattle.wz_valid.proofs.ProfileLemmas.{own_count_of}
use Rattle.wz_valid.proofs.profile_rules.own_count.Goals as goal

pub returns : goal.returns
returns c =
    let m = module_of c.args.«module».now in
    let i = c.args.index in
    let functions = c.functions.result.now in
    let bodies = c.bodies.result.now in
    let params : params_of (slice_get m.types (get_or functions i 0)) ≡ c.params_length-params.result =
    sym (c.params_length-params.ensures.count ∙ ap (λ (types : List FunctionType). params_of (slice_get types (get_or functions i 0))) c.types.ensures) in
    own_count_of m functions bodies i c.functions.ensures c.bodies.ensures c.requires
    ∙ ap (λ (n : ℕ). Some (n + locals_length (slice_get bodies i))) params
    ∙ ap (λ (n : ℕ). Some (c.params_length-params.result + n)) (sym c.locals_length.ensures.count)
