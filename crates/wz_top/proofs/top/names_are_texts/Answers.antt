use Rattle.std.proofs.Common.{◌≤◌, List, length, subst, arith}
use Rattle.std.specs.Prelude.{All, IsUtf8}
use Rattle.std.proofs.lemmas.List.{take_all}
use Rattle.std.proofs.lemmas.List.Elements.{All-more}
use Rattle.wz_words.specs.declared.settings.Rename.{Rename}
use Rattle.wz_top.proofs.top.names_are_texts.Goals as goal

pub loop-rename-preserved : goal.loop-rename-preserved
loop-rename-preserved c =
    let text = subst IsUtf8 c.as_str-text.ensures.bytes c.as_str-text.utf8 in
    All-more (λ (rename : Rename). IsUtf8 rename.dst) c.args.renames.now c.loop-rename.rename-index c.rename-item.result c.loop-rename-test.true
    c.loop-rename.invariant (subst (λ (rename : Rename). IsUtf8 rename.dst) c.rename-item.is text)

pub returns : goal.returns
returns c =
    let all : length c.args.renames.now ≤ c.loop-rename.rename-index = omega arith in
    subst (λ (renames : List Rename). All (λ rename. IsUtf8 rename.dst) renames) (take_all c.loop-rename.rename-index c.args.renames.now all)
    c.loop-rename.invariant
