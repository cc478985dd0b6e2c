use Rattle.wz_module.specs.Views.{global_of}
use Rattle.wz_module.specs.Meaning.{module_of}
use Rattle.wz_valid.specs.Contexts.{context_of}
use Rattle.wz_valid.specs.Items.{IsGlobalOk}
use Rattle.wz_valid_code.specs.Typing.{IsConstant}
use Rattle.wz_valid.proofs.ListLemmas.{found_at, past_items}
use Rattle.wz_valid.proofs.CheckLemmas.{constant_of_globals, constant_of_all, tells_in, tells_at}
use Rattle.wz_valid.proofs.typed_rules.is_global_ok.Goals as goal

pub returns-in-Some : goal.returns-in-Some
returns-in-Some c =
    let m = module_of c.args.checker.now.«module».now in
    let i = c.args.index in
    let global = global_of c.in-Some.global.now in
    let got = c.in-Some.ensures.lookup in
    tells_at (λ g. IsGlobalOk m g) _ global c.is_constant.result
    (found_at global_of c.globals.result.now m.globals i c.in-Some.global.now c.globals.ensures got.3.0 got.1)
    (tells_in (IsConstant (context_of m) global.init global.kind.value) (IsGlobalOk m global) c.is_constant.result (constant_of_globals m global.init global.kind.value)
    (constant_of_all m global.init global.kind.value) c.is_constant.ensures)

pub returns-in-None : goal.returns-in-None
returns-in-None c =
    let m = module_of c.args.checker.now.«module».now in
    past_items (λ g. IsGlobalOk m g) global_of c.globals.result.now m.globals c.args.index c.globals.ensures c.in-None.ensures.lookup.3
