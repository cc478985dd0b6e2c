use Rattle.std.proofs.Common.{take}
use Rattle.std.specs.Prelude.{All, IsUtf8}
use Rattle.wz_words.specs.declared.settings.Rename.{Rename}
use Rattle.wz_top.proofs.top.names_are_texts.Given as goal

abbrev pub invariant-loop-rename : goal.invariant-loop-rename
invariant-loop-rename l = All (λ (rename : Rename). IsUtf8 rename.dst) (take l.rename-index l.renames)
