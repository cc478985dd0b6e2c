use Rattle.wz_io.specs.World.{name_of}
use Rattle.wz_top.proofs.InputLemmas.{long_input}
use Rattle.wz_top.proofs.fetch.fetch.Goals as goal

pub returns-in-Ok-clause-too_long : goal.returns-in-Ok-clause-too_long
returns-in-Ok-clause-too_long g c = λ is.
    long_input (g.F.Files.world c.args.files.now).told (name_of c.args.name) _ _ c.in-Ok.ensures.did.left c.in-Ok.ensures.did.there (c.read_all.ensures.too_long is)
