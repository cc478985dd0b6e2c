-- What was opened last of the files in memory.
use Rattle.std.proofs.Common.{◌≡◌, ℕ, Bool, false, List, ◌++◌, refl, sym, ap, ◌∙◌}
use Rattle.std.specs.Prelude.{Option, None, Some}
use Rattle.wz_io.specs.World.{IsOpenOn, Current, Told, File, with_more_output, with_output}
use Rattle.wz_io.specs.Memory.{contents}
use Rattle.wz_io.specs.Stream.{stream_current, memory_told}
use Rattle.wz_io.specs.declared.files.Side.{Side}
use Rattle.wz_io.specs.declared.files.Side.TheVariants.{Input, Output}
use Rattle.wz_io.specs.declared.memory.Entry.{Entry}
use Rattle.wz_io.specs.declared.stream.Stream.{Stream}
use Rattle.wz_io.specs.declared.stream.Stream.TheVariants as stream
use Rattle.wz_io.proofs.ToldLemmas.{with_more_output-with_output}

-- a piece at the end of the file that was made
pub told-made : (stdin stdout : List ℕ) (entries : List Entry) (old new : Entry) (opened failed : Bool) (piece : List ℕ) →
    new.path.items ≡ old.path.items → new.bytes.items ≡ old.bytes.items ++ piece →
    memory_told stdin stdout entries (stream.File new opened failed)
    ≡ with_more_output (memory_told stdin stdout entries (stream.File old opened failed)) (File old.path.items) piece
told-made stdin stdout entries old new opened failed piece path bytes =
    let t : Told = record { stdin = Some stdin; stdout = Some stdout; files = Some (contents entries) } in
    ap (λ (p : List ℕ). with_output t (File p) new.bytes.items) path
    ∙ ap (λ (b : List ℕ). with_output t (File old.path.items) b) bytes
    ∙ sym (with_more_output-with_output t (File old.path.items) old.bytes.items piece)

side_of : Option Current → Side
side_of None = Input
side_of (Some c) = c.side

opened_of : Option Current → Bool
opened_of None = false
opened_of (Some c) = c.opened

-- what is open as an output is the standard output or a file that was made
pub no_other : (s : Stream) → IsOpenOn Output (stream_current s) →
    ((a b : Bool) → s ≡ stream.Stdout a b → ⊥) → ((e : Entry) (a b : Bool) → s ≡ stream.File e a b → ⊥) → ⊥
unfolding side_of opened_of
no_other stream.Nothing o stdout made = cc o.1
no_other (stream.Input name opened failed) o stdout made = cc (ap side_of o.1 ∙ o.2)
no_other (stream.Refused name) o stdout made = cc (ap opened_of o.1 ∙ o.3)
no_other (stream.Stdout a b) o stdout made = stdout a b refl
no_other (stream.File e a b) o stdout made = made e a b refl
