-- The laws.
use Rattle.std.proofs.Common.{◌≡◌, ℕ, ◌<◌, IsSomeAnd, length, List, [], ◌∷◌, Option, Some, None, map, slice_get, option_map, refl, sym, ap, ◌∙◌}
use Rattle.std.proofs.lemmas.Option.{slice_get-map}
use Rattle.wz_code.specs.BodyParts.{BodyParts}
use Rattle.wz_module.specs.Functions.{BodyTree, body_tree_of}
use Rattle.wz_types.specs.declared.types.MemType.{MemType}
use Rattle.wz_module.specs.Module.{Module}
use Rattle.wz_valid.specs.declared.faults.Part.TheVariants as part
use Rattle.wz_valid.specs.Limits.{IsMemoryOk}
use Rattle.wz_valid.specs.Items.{IsOnlyMemory}
use Rattle.wz_valid.specs.Validity.{IsValid}
use Rattle.wz_valid.specs.Laws.{GlobalsAreOk, ElementsAreOk}
use Rattle.wz_store.specs.declared.function.Function.{Function}
use Rattle.wz_store.specs.declared.function.Function.TheVariants as stored
use Rattle.wz_machine.specs.State.{FunctionInstance, FunctionBody, body_from, instance_of, state_of}
use Rattle.wz_init.specs.Functions.{body_of_tree, function_in}
use Rattle.wz_init.specs.Laws.{FreshIsReached, RunIsReached, StateByBodies}
use Rattle.wz_init.proofs.FirstLemmas.{fresh_left, ready_left}

-- the memories of a valid module
pub memories_ok : (m : Module) → IsValid m → (i : ℕ) → i < length m.memories → IsSomeAnd (slice_get m.memories i) IsMemoryOk
memories_ok m valid i less = by (slice_get m.memories i) (valid part.Memory i less)
  where
    by : (o : Option MemType) → IsSomeAnd o (λ memory. IsMemoryOk memory × IsOnlyMemory m i) → IsSomeAnd o IsMemoryOk
    by None h = h
    by (Some memory) h = h.0

pub fresh_is_reached : GlobalsAreOk → ElementsAreOk → FreshIsReached
fresh_is_reached globals elements m s valid profile e = fresh_left m s profile (memories_ok m valid) (globals m valid) (elements m valid) e

pub run_is_reached : GlobalsAreOk → ElementsAreOk → RunIsReached
run_is_reached globals elements m order s ticks valid profile e = ready_left m order s ticks profile (memories_ok m valid) (globals m valid) (elements m valid) e

body_same : (o : Option BodyParts) → body_of_tree (option_map body_tree_of o) ≡ body_from o
body_same None = refl
body_same (Some body) = refl

function_same : (trees : List BodyTree) (bodies : List BodyParts) → map body_tree_of bodies ≡ trees → (f : Function) → function_in trees f ≡ instance_of bodies f
function_same trees bodies e (stored.Own signature body) =
    ap (λ (b : FunctionBody). record { signature = signature; body = b })
    (ap (λ (ts : List BodyTree). body_of_tree (slice_get ts body)) (sym e) ∙ ap body_of_tree (slice_get-map body_tree_of bodies body) ∙ body_same (slice_get bodies body))
function_same trees bodies e (stored.Import signature import) = refl

functions_same : (trees : List BodyTree) (bodies : List BodyParts) → map body_tree_of bodies ≡ trees → (fs : List Function)
    → map (λ f. function_in trees f) fs ≡ map (λ f. instance_of bodies f) fs
functions_same trees bodies e [] = refl
functions_same trees bodies e (f ∷ fs) =
    ap (λ (x : FunctionInstance). x ∷ map (λ f. function_in trees f) fs) (function_same trees bodies e f)
    ∙ ap (λ (xs : List FunctionInstance). instance_of bodies f ∷ xs) (functions_same trees bodies e fs)

pub state_by_bodies : StateByBodies
state_by_bodies m bodies store e =
    ap (λ (fs : List FunctionInstance). record (state_of bodies store) { functions = fs }) (functions_same m.bodies bodies e store.functions)
