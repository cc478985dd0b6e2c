use Rattle.std.proofs.Common.{ℕ, List, ◌≤◌, All, subst, arith}
use Rattle.std.proofs.lemmas.List.{take_all}
use Rattle.wz_module.specs.Meaning.{module_of}
use Rattle.wz_valid.specs.Profile.{locals_limit, local_counts}
use Rattle.wz_valid.proofs.ListLemmas.{all_next_get}
use Rattle.wz_valid.proofs.profile_rules.check_locals.Goals as goal

pub loop-function-preserved : goal.loop-function-preserved
loop-function-preserved c =
    all_next_get (λ count. count ≤ locals_limit) (local_counts (module_of c.args.«module».now)) c.loop-function.function c.local_count-count.result c.local_count-count.ensures
    c.loop-function.invariant (omega arith)

pub returns-clause-small : goal.returns-clause-small
returns-clause-small c =
    let counts = local_counts (module_of c.args.«module».now) in
    let P : List ℕ → Type 0 = λ xs. All (λ count. count ≤ locals_limit) xs in
    subst P (take_all c.loop-function.function counts (omega (arith, c.function_count-functions.ensures))) c.loop-function.invariant
