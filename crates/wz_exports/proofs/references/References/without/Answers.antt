use Rattle.std.proofs.lemmas.Map.Keys.{IsStrictlyIncreasing-from_sorted}
use Rattle.wz_exports.proofs.references.References.without.Goals as goal

pub returns-clause-rises : goal.returns-clause-rises
returns-clause-rises c = IsStrictlyIncreasing-from_sorted c.args.self.now.functions.keys c.len-count.ensures.ordered
