use Rattle.std.proofs.Common.{List, refl, ap, sym, ◌∙◌, true, false}
use Rattle.std.specs.Prelude.{Some}
use Rattle.std.specs.FinMap.{get}
use Rattle.std.proofs.Common.{◌∷◌}
use Rattle.wz_io.specs.Stream.{stream_files}
use Rattle.wz_io.specs.declared.stream.Stream.{Stream}
use Rattle.wz_io.proofs.MemoryLemmas.{get-contents}
use Rattle.wz_io.proofs.stream.find_any.Goals as goal

pub returns-then-eq : goal.returns-then-eq
returns-then-eq c =
    ap (λ (xs : List _). Some xs) c.as_slice-then-eq.ensures.value
    ∙ sym (get-contents (c.in-File.entry ∷ c.args.entries.now.items) _ c.in-File.entry c.args.path.now _ true refl c.as_slice.ensures.value c.if-eq.ensures)
    ∙ ap (λ (s : Stream). get (stream_files c.args.entries.now.items s) c.args.path.now) (sym c.in-File.is)

pub returns-else-eq : goal.returns-else-eq
returns-else-eq c =
    c.find.ensures
    ∙ sym (get-contents (c.in-File.entry ∷ c.args.entries.now.items) _ c.in-File.entry c.args.path.now _ false refl c.as_slice.ensures.value c.if-eq.ensures)
    ∙ ap (λ (s : Stream). get (stream_files c.args.entries.now.items s) c.args.path.now) (sym c.in-File.is)
