use Rattle.wz_code.proofs.NumberLemmas.{adds_one}
use Rattle.wz_module.proofs.references.add_function.Goals as goal

pub returns : goal.returns
returns c = adds_one c.args.functions.now c.insert.new.self c.args.function c.in_ok-insert.ensures.updates.0
