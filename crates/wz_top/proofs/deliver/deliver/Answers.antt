use Rattle.std.proofs.Common.{ap}
use Rattle.std.specs.Prelude.{Option}
use Rattle.wz_io.specs.World.{Current, name_of}
use Rattle.wz_io.specs.Calls.{current_name}
use Rattle.wz_rewrite.specs.Pieces.{pieces_text}
use Rattle.wz_top.proofs.DeliverLemmas.{whole_prefix}
use Rattle.wz_top.proofs.deliver.deliver.Goals as goal

pub returns-in-Ok-close-clause-prefix : goal.returns-in-Ok-close-clause-prefix
returns-in-Ok-close-clause-prefix g c =
    whole_prefix c.created_is_written.ensures c.writes_are_written.ensures (name_of c.args.name)
    (g.F.Files.world c.args.files.now) (g.F.Files.world c.create.new.self)
    c.in_ok-create.ensures.did.told (ap (λ (o : Option Current). current_name o) c.in_ok-create.ensures.did.current)
    (pieces_text c.args.reached.now.store.memories c.args.output.now) (g.F.Files.world c.write_to.new.files) (g.F.Files.world c.close.new.self)
    c.in-Ok.ensures.all c.close.ensures.did.told

pub returns-in-Err-clause-prefix : goal.returns-in-Err-clause-prefix
returns-in-Err-clause-prefix g c =
    whole_prefix c.created_is_written.ensures c.writes_are_written.ensures (name_of c.args.name)
    (g.F.Files.world c.args.files.now) (g.F.Files.world c.create.new.self)
    c.in_ok-create.ensures.did.told (ap (λ (o : Option Current). current_name o) c.in_ok-create.ensures.did.current)
    (pieces_text c.args.reached.now.store.memories c.args.output.now) (g.F.Files.world c.write_to.new.files) (g.F.Files.world c.close.new.self)
    c.in-Ok.ensures.all c.close.ensures.did.told
