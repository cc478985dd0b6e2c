-- What a created output holds once bytes were written behind it.
use Rattle.std.proofs.Common.{◌≡◌, ℕ, List, [], length, sym, ap, ◌∙◌, inr}
use Rattle.std.proofs.Math.Seq.{take-length}
use Rattle.wz_io.specs.World.{World, Told, Name, with_empty_output, with_output}
use Rattle.wz_io.specs.Calls.{current_name}
use Rattle.wz_io.specs.Writing.{told_after_writes, WritesAll}
use Rattle.wz_io.specs.Laws.{CreatedIsWritten, WritesAreWritten}
use Rattle.wz_top.specs.Devices.{HoldsPrefix}

module _ (created_is : CreatedIsWritten) (writes_are : WritesAreWritten) (name : Name) (before created : World)
    (told : created.told ≡ with_empty_output before.told name) (current : current_name created.current ≡ name) where
  -- the bytes that were written behind the created output are all that it holds
  holds_all : (bytes : List ℕ) (now : World) → WritesAll bytes created now → now.told ≡ with_output before.told name bytes
  holds_all bytes now wrote =
      wrote
      ∙ ap (λ (t : Told). told_after_writes t (current_name created.current) bytes) (told ∙ created_is before.told name)
      ∙ ap (λ (n : Name). told_after_writes (with_output before.told name []) n bytes) current
      ∙ writes_are before.told name [] bytes

  -- and so a prefix of themselves
  pub whole_prefix : (bytes : List ℕ) (written now : World) → WritesAll bytes created written → now.told ≡ written.told →
      HoldsPrefix name bytes before now
  whole_prefix bytes written now wrote same =
      inr (length bytes, same ∙ holds_all bytes written wrote ∙ ap (λ (xs : List ℕ). with_output before.told name xs) (sym (take-length bytes)))
