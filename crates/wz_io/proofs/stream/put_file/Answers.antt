use Rattle.std.proofs.Common.{ℕ, ap, sym, ◌∙◌}
use Rattle.std.specs.Prelude.{Vec}
use Rattle.std.specs.FinMap.{insert}
use Rattle.std.specs.declared.alloc.Global.{Global}
use Rattle.wz_io.specs.World.{Contents}
use Rattle.wz_io.specs.Memory.{contents}
use Rattle.wz_io.specs.Stream.{stream_files}
use Rattle.wz_io.specs.declared.stream.Stream.{Stream}
use Rattle.wz_io.proofs.MemoryLemmas.{insert-over, insert-swap}
use Rattle.wz_io.proofs.stream.put_file.Goals as goal

pub returns-then-eq-clause-ok : goal.returns-then-eq-clause-ok
returns-then-eq-clause-ok c =
    ap (λ (v : Vec ℕ Global). insert (contents c.args.entries.now.items) c.in-File.entry.path.items v.items) c.put.ensures
    ∙ insert-over (contents c.args.entries.now.items) c.in-File.entry.path.items c.args.path.now _ c.in-File.entry.bytes.items c.args.bytes.items
    c.as_slice.ensures.value c.if-eq.ensures
    ∙ ap (λ (s : Stream). insert (stream_files c.args.entries.now.items s) c.args.path.now c.args.bytes.items) (sym c.in-File.is)

pub returns-in_ok-put_entry-in-File-clause-ok : goal.returns-in_ok-put_entry-in-File-clause-ok
returns-in_ok-put_entry-in-File-clause-ok c =
    ap (λ (m : Contents). insert m c.in-File.entry.path.items c.in-File.entry.bytes.items) c.in_ok-put_entry-in-File.ensures.ok
    ∙ insert-swap (contents c.args.entries.now.items) c.in-File.entry.path.items c.args.path.now _ c.in-File.entry.bytes.items c.args.bytes.items
    c.as_slice.ensures.value c.if-eq.ensures
    ∙ ap (λ (s : Stream). insert (stream_files c.args.entries.now.items s) c.args.path.now c.args.bytes.items) (sym c.in-File.is)
