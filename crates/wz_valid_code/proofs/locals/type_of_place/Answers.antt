use Rattle.std.proofs.Common.{ℕ, List, sym, ap, subst, ◌∙◌}
use Rattle.std.specs.Option.{option_map}
use Rattle.wz_types.specs.declared.types.ValType.{ValType}
use Rattle.wz_types.specs.declared.types.ValType.TheVariants.{I32}
use Rattle.std.proofs.lemmas.Option.{slice_get-get_or, slice_get_past}
use Rattle.wz_valid_code.specs.Runs.{Rise}
use Rattle.wz_valid_code.proofs.RunLemmas.{ends-rise, place-type}
use Rattle.wz_valid_code.proofs.locals.type_of_place.Goals as goal

pub find_run-at-requires : goal.find_run-at-requires
find_run-at-requires c = let P : List ℕ → Type 0 = λ x. Rise x in subst P (sym c.requires) (ends-rise 0 c.args.runs.now)

pub returns-then-at-runs : goal.returns-then-at-runs
returns-then-at-runs c =
    let found = slice_get-get_or c.args.runs.now c.find_run-at.result (0, I32) c.if-at-runs.true in
    let is = place-type c.args.ends.now c.args.runs.now c.args.place c.find_run-at.result c.requires c.find_run-at.ensures in
    ap (option_map (λ (run : ℕ × ValType). run.1)) (sym found) ∙ is

pub returns-else-at-runs : goal.returns-else-at-runs
returns-else-at-runs c =
    let found = slice_get_past c.args.runs.now c.find_run-at.result c.if-at-runs.false in
    let is = place-type c.args.ends.now c.args.runs.now c.args.place c.find_run-at.result c.requires c.find_run-at.ensures in
    ap (option_map (λ (run : ℕ × ValType). run.1)) (sym found) ∙ is
