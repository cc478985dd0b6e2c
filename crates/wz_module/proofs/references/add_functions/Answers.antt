use Rattle.std.proofs.Common.{ℕ, List, [], ◌∷◌, subst, sym, arith}
use Rattle.std.proofs.lemmas.List.Folds.{flat_map-map}
use Rattle.wz_code.specs.References.{AddsFunctions, referred_in}
use Rattle.wz_code.proofs.NumberLemmas.{adds_all}
use Rattle.wz_module.specs.Elements.{function_reference}
use Rattle.wz_module.proofs.references.add_functions.Goals as goal

pub returns : goal.returns
returns c =
    subst (λ (more : List ℕ). AddsFunctions c.args.functions.now.keys c.loop-function.functions.keys more) (sym (flat_map-map referred_in function_reference c.args.indices.now))
    (adds_all (λ (n : ℕ). n ∷ []) c.args.indices.now c.loop-function.function-index
    c.args.functions.now.keys c.loop-function.functions.keys (omega arith) c.loop-function.invariant)
