use Rattle.wz_module.specs.Meaning.{module_of}
use Rattle.wz_rewrite.proofs.tests.prepared.Goals as goal

pub prepare-requires-clause-elements : goal.prepare-requires-clause-elements
prepare-requires-clause-elements g c = c.input_is_spelled.ensures.elements c.args.input.now (module_of c.in-Ok.module) c.in-Ok.ensures.found
