use Rattle.std.proofs.Common.{◌≡◌, None, List, slice_get, ap, sym, ◌∙◌}
use Rattle.std.proofs.lemmas.Option.{slice_get_past}
use Rattle.wz_types.specs.FunctionType.{FunctionType}
use Rattle.wz_module.specs.Functions.{body_tree_of}
use Rattle.wz_module.specs.Meaning.{module_of}
use Rattle.wz_valid.proofs.ListLemmas.{found_at, read_at}
use Rattle.wz_valid.proofs.CheckLemmas.{body_tells, no_body_type}
use Rattle.wz_valid.proofs.typed_rules.is_code_ok.Goals as goal

pub returns-in-Some-get-2 : goal.returns-in-Some-get-2
returns-in-Some-get-2 c =
    let m = module_of c.args.checker.now.«module».now in
    let i = c.args.index in
    let body = c.in-Some.ensures.lookup in
    let function = c.in-Some-get.ensures.lookup in
    let type = c.in-Some-get-2.ensures.lookup in
    body_tells m i c.in-Some-get.number.now c.in-Some-get-2.kind.now (body_tree_of c.in-Some.body.now) c.is_typed.result
    (found_at body_tree_of c.bodies.result.now m.bodies i c.in-Some.body.now c.bodies.ensures body.3.0 body.1)
    (read_at c.functions.result.now m.functions i c.in-Some-get.number.now c.functions.ensures function.3.0 function.1)
    (read_at c.types.result.now m.types c.in-Some-get.number.now c.in-Some-get-2.kind.now c.types.ensures type.3.0 type.1) c.is_typed.ensures

pub returns-in-None : goal.returns-in-None
returns-in-None c =
    let m = module_of c.args.checker.now.«module».now in
    let i = c.args.index in
    let body = c.in-Some.ensures.lookup in
    let function = c.in-Some-get.ensures.lookup in
    let none : slice_get m.types c.in-Some-get.number.now ≡ None =
    ap (λ (types : List FunctionType). slice_get types c.in-Some-get.number.now) (sym c.types.ensures)
    ∙ slice_get_past c.types.result.now c.in-Some-get.number.now c.in-None.ensures.lookup.3 in
    no_body_type m i c.in-Some-get.number.now (body_tree_of c.in-Some.body.now)
    (found_at body_tree_of c.bodies.result.now m.bodies i c.in-Some.body.now c.bodies.ensures body.3.0 body.1)
    (read_at c.functions.result.now m.functions i c.in-Some-get.number.now c.functions.ensures function.3.0 function.1) none
