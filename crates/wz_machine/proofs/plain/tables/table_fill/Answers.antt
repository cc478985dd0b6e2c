use Rattle.std.proofs.Common.{◌-◌, slice_get, arith, ap}
use Rattle.wz_types.specs.declared.value.Value.TheVariants.{I32, Ref}
use Rattle.wz_bulk.specs.TableEffects.{table_fill_effect}
use Rattle.wz_machine.specs.PlainSteps.{used}
use Rattle.wz_machine.specs.TableSteps.{table_fill_step}
use Rattle.wz_machine.proofs.PlainLemmas.{three_values, bulk_reply}
use Rattle.wz_machine.proofs.plain.tables.table_fill.Goals as goal

pub returns : goal.returns
returns g c =
    let slot = slice_get c.args.store.now.tables c.args.table in
    let to = c.in-Some-number_on.to in
    let reference = c.in-Some-reference_on.reference in
    let len = c.in-Some.len in
    bulk_reply c.done.result (table_fill_step c.args.table slot (used c.args.have c.args.own.now)) (c.args.have - 3) c.args.have c.args.own.now c.args.store.now
    c.table_fill.new.store c.table_fill.result (table_fill_effect c.args.table slot to reference len) (omega arith)
    (ap (λ values. table_fill_step c.args.table slot values)
    (three_values c.args.own.now c.args.have (I32 to) (Ref reference) (I32 len) c.in-Some.ensures c.in-Some-reference_on.ensures c.in-Some-number_on.ensures))
    c.table_fill.ensures.answer c.table_fill.ensures.store c.done.ensures
