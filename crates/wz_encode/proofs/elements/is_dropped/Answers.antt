use Rattle.std.proofs.Common.{◌∙◌}
use Rattle.wz_encode.proofs.WriterLemmas.{found_if_there}
use Rattle.wz_encode.proofs.elements.is_dropped.Goals as goal

pub returns : goal.returns
returns c = c.is_ok.ensures.value ∙ found_if_there c.args.dropped.now c.args.number c.binary_search.result c.binary_search.ensures.position c.requires
