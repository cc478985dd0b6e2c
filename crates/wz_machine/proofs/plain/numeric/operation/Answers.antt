use Rattle.std.proofs.Common.{◌≡◌, Some, None}
use Rattle.wz_code.specs.Numeric.{types_of}
use Rattle.wz_num.specs.Answers.{answer_of}
use Rattle.wz_machine.proofs.PlainLemmas.{settles_one, settles_two}
use Rattle.wz_machine.proofs.plain.numeric.operation.Goals as goal

pub returns-in-None : goal.returns-in-None
returns-in-None c =
    let none : (types_of c.args.op).second ≡ None = cc (c.signature.ensures, c.in-None.is) in
    settles_one c.settled.result c.args.op c.in-Some.last (answer_of c.of_one.result) c.args.have c.args.own.now c.settled.new.own c.requires c.in-Some.ensures none
    c.of_one.ensures c.settled.ensures

pub returns-in-Some-value_on : goal.returns-in-Some-value_on
returns-in-Some-value_on c =
    let some : (types_of c.args.op).second ≡ Some c.in-Some-second.field-0 = cc (c.signature.ensures, c.in-Some-second.is) in
    settles_two c.settled-in-Some-second.result c.args.op c.in-Some-second.field-0 c.in-Some-value_on.first c.in-Some.last (answer_of c.of_two.result) c.args.have c.args.own.now
    c.settled-in-Some-second.new.own c.requires c.in-Some.ensures c.in-Some-value_on.ensures some c.of_two.ensures c.settled-in-Some-second.ensures
