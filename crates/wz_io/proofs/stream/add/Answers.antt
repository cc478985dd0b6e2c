use Rattle.std.proofs.Common.{refl, ap, sym, ◌∙◌}
use Rattle.wz_io.specs.World.{with_more_output}
use Rattle.wz_io.specs.Calls.{current_name}
use Rattle.wz_io.specs.Stream.{memory_told, stream_current}
use Rattle.wz_io.specs.declared.memory.Entry.{Entry}
use Rattle.wz_io.specs.declared.stream.Stream.{Stream}
use Rattle.wz_io.proofs.StreamLemmas.{told-made, no_other}
use Rattle.wz_io.proofs.stream.add.Goals as goal

pub unreachable-requires : goal.unreachable-requires
unreachable-requires c = no_other c.args.stream.now c.requires c.in_default.not-Stdout c.in_default.not-File

pub returns-in_ok-extend_from_slice-in-File : goal.returns-in_ok-extend_from_slice-in-File
returns-in_ok-extend_from_slice-in-File c = record {
  told = λ stdin entries.
      let longer : Entry = record c.in-File.entry { bytes = c.extend_from_slice-in-File.new.self } in
      told-made stdin c.args.stdout.now.items entries c.in-File.entry longer c.in-File.opened c.in-File.failed
      c.args.piece.now refl c.in_ok-extend_from_slice-in-File.ensures.items
      ∙ ap (λ (s : Stream). with_more_output (memory_told stdin c.args.stdout.now.items entries s) (current_name (stream_current s)) c.args.piece.now) (sym c.in-File.is);
  current = ap stream_current (sym c.in-File.is);
}
