use Rattle.std.proofs.Common.{All, ◌<◌, List, subst}
use Rattle.std.proofs.lemmas.List.Elements.{All-map}
use Rattle.wz_module.specs.Datas.{DataSegment}
use Rattle.wz_module.specs.Views.{data_of}
use Rattle.wz_init.proofs.bytes.datas_hold_bytes.Goals as goal

pub returns : goal.returns
returns c =
    subst (λ (ds : List DataSegment). All (λ segment. All (λ byte. byte < 256) segment.bytes) ds) c.datas.ensures
    (All-map (λ (segment : DataSegment). All (λ byte. byte < 256) segment.bytes) data_of c.datas.result.now c.segments_hold_bytes.ensures)
