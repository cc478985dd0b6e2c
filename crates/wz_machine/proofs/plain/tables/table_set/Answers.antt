use Rattle.std.proofs.Common.{◌-◌, slice_get, arith, ap}
use Rattle.wz_types.specs.declared.value.Value.TheVariants.{I32, Ref}
use Rattle.wz_bulk.specs.TableEffects.{table_set_effect}
use Rattle.wz_machine.specs.PlainSteps.{used}
use Rattle.wz_machine.specs.TableSteps.{table_set_step}
use Rattle.wz_machine.proofs.PlainLemmas.{two_values, bulk_reply}
use Rattle.wz_machine.proofs.plain.tables.table_set.Goals as goal

pub returns : goal.returns
returns g c =
    let slot = slice_get c.args.store.now.tables c.args.table in
    let at = c.in-Some-number_on.at in
    let reference = c.in-Some.reference in
    bulk_reply c.done.result (table_set_step c.args.table slot (used c.args.have c.args.own.now)) (c.args.have - 2) c.args.have c.args.own.now c.args.store.now
    c.table_set.new.store c.table_set.result (table_set_effect c.args.table slot at reference) (omega arith)
    (ap (λ values. table_set_step c.args.table slot values)
    (two_values c.args.own.now c.args.have (I32 at) (Ref reference) c.in-Some.ensures c.in-Some-number_on.ensures))
    c.table_set.ensures.answer c.table_set.ensures.store c.done.ensures
