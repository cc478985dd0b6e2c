use Rattle.std.specs.List.{flat_map}
use Rattle.wz_exports.specs.Undeclared.{body_refs, refs_elsewhere}
use Rattle.wz_exports.proofs.RisingLemmas.{either-among}
use Rattle.wz_exports.proofs.laws.references_are_found.Goals as goal

pub returns : goal.returns
returns c = λ m r k f named. either-among (refs_elsewhere m r k) (flat_map body_refs m.bodies) f named
