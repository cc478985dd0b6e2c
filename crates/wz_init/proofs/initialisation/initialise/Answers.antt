use Rattle.wz_module.specs.Meaning.{module_of}
use Rattle.wz_init.specs.Instantiation.{fresh}
use Rattle.wz_init.specs.Ready.{ready}
use Rattle.wz_init.proofs.initialisation.initialise.Goals as goal

pub returns-in-Err-clause-refused : goal.returns-in-Err-clause-refused
unfolding ready
returns-in-Err-clause-refused g c =
    let m = module_of c.args.module.now in c.never_ready.ensures m c.args.order.now (fresh m) c.in-Err.ensures.unfit
