use Rattle.std.proofs.Common.{refl, ap, ◌∙◌}
use Rattle.std.specs.Prelude.{Option, Some}
use Rattle.std.specs.Option.{option_map}
use Rattle.wz_io.specs.World.{Current, Contents}
use Rattle.wz_io.specs.Calls.{with_failure}
use Rattle.wz_io.proofs.mem_files.MemFilesFiles.write.Goals as goal

pub returns-in-Err-clause-did : goal.returns-in-Err-clause-did
returns-in-Err-clause-did c = record {
  later = c.count_fault-in-Err.ensures.later;
  cause = c.count_fault-in-Err.ensures.rose;
  current = c.set_failed-in-Err.ensures.current
      ∙ ap (λ (current : Option Current). option_map with_failure current) c.in-Err.ensures.current;
  some = tt;
  bound = tt;
  told = ap (λ (files : Contents). record { stdin = Some c.args.self.now.stdin.items; stdout = Some c.add.new.stdout.items; files = Some files })
      (c.set_failed-in-Err.ensures.files c.args.self.now.entries.items)
      ∙ c.in-Err.ensures.told c.args.self.now.stdin.items c.args.self.now.entries.items;
  reads = refl;
}
