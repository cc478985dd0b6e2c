use Rattle.wz_module.specs.Views.{module_with}
use Rattle.wz_decode.proofs.ShortModule.{short_lists}
use Rattle.wz_decode.proofs.read.read_module.Goals as goal

pub from_parts-requires : goal.from_parts-requires
from_parts-requires c = short_lists c.args.bytes.now (module_with c.in-Ok.parts) c.in-Ok.ensures.found c.requires
