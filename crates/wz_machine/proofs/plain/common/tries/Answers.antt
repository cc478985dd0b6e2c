-- Each instruction that is met often, by what the code of its group answers.
use Rattle.std.proofs.Common.{length, slice_get, refl, ap}
use Rattle.std.proofs.lemmas.List.{length-map}
use Rattle.wz_types.specs.declared.value.Value.TheVariants.{I32, I64}
use Rattle.wz_code.specs.declared.instr.Instr.TheVariants.{Drop, Select, LocalGet, GlobalGet, GlobalSet, I32Const, I64Const}
use Rattle.wz_machine.specs.State.{instance_of}
use Rattle.wz_machine.specs.Outcomes.{Does}
use Rattle.wz_machine.specs.NumericSteps.{const_step}
use Rattle.wz_machine.specs.ParametricSteps.{drop_step, select_step}
use Rattle.wz_machine.specs.VariableSteps.{local_get_step, global_get_step, global_set_step}
use Rattle.wz_machine.specs.PlainSteps.{used, site}
use Rattle.wz_machine.proofs.ReplyLemmas.{of_values, of_store}
use Rattle.wz_machine.proofs.TriedLemmas.{plain_tried, of_number_tried, of_zero_taken}
use Rattle.wz_machine.proofs.plain.common.tries.Goals as goal

pub returns-in-I32Const-clause-tried : goal.returns-in-I32Const-clause-tried
returns-in-I32Const-clause-tried g c =
    plain_tried c.has_gone.result c.constant.result c.args.instr.now c.args.have.now c.has_gone.new.have (site c.args.locals.now c.args.own.now c.args.store.now) (site c.args.locals.now c.constant.new.own c.args.store.now) c.has_gone.ensures
    (λ body. of_values c.constant.result body c.args.instr.now (I32Const c.in-I32Const.bits) (λ bodies. const_step (I32 c.in-I32Const.bits) (used c.args.have.now c.args.own.now)) c.args.have.now c.args.locals.now c.args.own.now c.constant.new.own c.args.store.now c.in-I32Const.is
    (λ rest. refl) (λ bodies. refl) (λ bodies. c.constant.ensures))

pub returns-in-I64Const-clause-tried : goal.returns-in-I64Const-clause-tried
returns-in-I64Const-clause-tried g c =
    plain_tried c.has_gone-in-I64Const.result c.constant-in-I64Const.result c.args.instr.now c.args.have.now c.has_gone-in-I64Const.new.have (site c.args.locals.now c.args.own.now c.args.store.now) (site c.args.locals.now c.constant-in-I64Const.new.own c.args.store.now) c.has_gone-in-I64Const.ensures
    (λ body. of_values c.constant-in-I64Const.result body c.args.instr.now (I64Const c.in-I64Const.bits) (λ bodies. const_step (I64 c.in-I64Const.bits) (used c.args.have.now c.args.own.now)) c.args.have.now c.args.locals.now c.args.own.now c.constant-in-I64Const.new.own c.args.store.now c.in-I64Const.is
    (λ rest. refl) (λ bodies. refl) (λ bodies. c.constant-in-I64Const.ensures))

pub returns-in-Num-clause-tried : goal.returns-in-Num-clause-tried
returns-in-Num-clause-tried g c =
    of_number_tried c.tries.result c.args.instr.now c.in-Num.op c.args.have.now c.tries.new.have c.args.locals.now c.args.own.now c.tries.new.own c.args.store.now c.in-Num.is c.tries.ensures

pub returns-in-Drop-clause-tried : goal.returns-in-Drop-clause-tried
returns-in-Drop-clause-tried g c =
    plain_tried c.has_gone-in-Drop.result c.drop_value.result c.args.instr.now c.args.have.now c.has_gone-in-Drop.new.have (site c.args.locals.now c.args.own.now c.args.store.now) (site c.args.locals.now c.args.own.now c.args.store.now) c.has_gone-in-Drop.ensures
    (λ body. of_values c.drop_value.result body c.args.instr.now Drop (λ bodies. drop_step (used c.args.have.now c.args.own.now)) c.args.have.now c.args.locals.now c.args.own.now c.args.own.now c.args.store.now c.in-Drop.is
    (λ rest. refl) (λ bodies. refl) (λ bodies. c.drop_value.ensures))

pub returns-in-Select-clause-tried : goal.returns-in-Select-clause-tried
returns-in-Select-clause-tried g c =
    plain_tried c.has_gone-in-Select.result c.select.result c.args.instr.now c.args.have.now c.has_gone-in-Select.new.have (site c.args.locals.now c.args.own.now c.args.store.now) (site c.args.locals.now c.select.new.own c.args.store.now) c.has_gone-in-Select.ensures
    (λ body. of_values c.select.result body c.args.instr.now Select (λ bodies. select_step (used c.args.have.now c.args.own.now)) c.args.have.now c.args.locals.now c.args.own.now c.select.new.own c.args.store.now c.in-Select.is
    (λ rest. refl) (λ bodies. refl) (λ bodies. c.select.ensures))

pub returns-in-LocalGet-clause-tried : goal.returns-in-LocalGet-clause-tried
returns-in-LocalGet-clause-tried g c =
    plain_tried c.has_gone-in-LocalGet.result c.local_get.result c.args.instr.now c.args.have.now c.has_gone-in-LocalGet.new.have (site c.args.locals.now c.args.own.now c.args.store.now) (site c.args.locals.now c.local_get.new.own c.args.store.now) c.has_gone-in-LocalGet.ensures
    (λ body. of_values c.local_get.result body c.args.instr.now (LocalGet c.in-LocalGet.index) (λ bodies. local_get_step (slice_get c.args.locals.now c.in-LocalGet.index) (used c.args.have.now c.args.own.now)) c.args.have.now c.args.locals.now c.args.own.now c.local_get.new.own c.args.store.now c.in-LocalGet.is
    (λ rest. refl) (λ bodies. refl) (λ bodies. c.local_get.ensures))

pub returns-in-GlobalGet-clause-tried : goal.returns-in-GlobalGet-clause-tried
returns-in-GlobalGet-clause-tried g c =
    plain_tried c.has_gone-in-GlobalGet.result c.global_get.result c.args.instr.now c.args.have.now c.has_gone-in-GlobalGet.new.have (site c.args.locals.now c.args.own.now c.args.store.now) (site c.args.locals.now c.global_get.new.own c.args.store.now) c.has_gone-in-GlobalGet.ensures
    (λ body. of_values c.global_get.result body c.args.instr.now (GlobalGet c.in-GlobalGet.index) (λ bodies. global_get_step (slice_get c.args.store.now.globals c.in-GlobalGet.index) (used c.args.have.now c.args.own.now)) c.args.have.now c.args.locals.now c.args.own.now c.global_get.new.own c.args.store.now c.in-GlobalGet.is
    (λ rest. refl) (λ bodies. refl) (λ bodies. c.global_get.ensures))

pub returns-in-GlobalSet-clause-tried : goal.returns-in-GlobalSet-clause-tried
returns-in-GlobalSet-clause-tried g c =
    plain_tried c.has_gone-in-GlobalSet.result c.global_set.result c.args.instr.now c.args.have.now c.has_gone-in-GlobalSet.new.have (site c.args.locals.now c.args.own.now c.args.store.now)
    (site c.args.locals.now c.args.own.now c.global_set.new.store) c.has_gone-in-GlobalSet.ensures
    (λ body. of_store c.global_set.result body c.args.instr.now (GlobalSet c.in-GlobalSet.index) (global_set_step (length c.args.store.now.functions) (length c.args.store.now.types) c.in-GlobalSet.index (slice_get c.args.store.now.globals c.in-GlobalSet.index) (used c.args.have.now c.args.own.now))
    c.args.have.now c.args.locals.now c.args.own.now c.args.store.now c.global_set.new.store c.in-GlobalSet.is (λ rest. refl)
    (λ bodies. ap (λ n. Does (global_set_step n (length c.args.store.now.types) c.in-GlobalSet.index (slice_get c.args.store.now.globals c.in-GlobalSet.index) (used c.args.have.now c.args.own.now))) (length-map c.args.store.now.functions (λ f. instance_of bodies f)))
    c.global_set.ensures)

pub returns-in-Access-clause-tried : goal.returns-in-Access-clause-tried
returns-in-Access-clause-tried g c = rw c.in-Access.is (c.accesses.ensures c.in-Access.align c.args.locals.now)

pub returns-in-BrIf-clause-tried : goal.returns-in-BrIf-clause-tried
returns-in-BrIf-clause-tried g c = of_zero_taken c.passes.result c.args.instr.now c.in-BrIf.field-0 c.args.have.now c.passes.new.have c.args.locals.now c.args.own.now c.args.store.now c.in-BrIf.is c.passes.ensures
