use Rattle.std.proofs.Common.{refl, sym, ap, ◌∙◌, arith}
use Rattle.wz_words.specs.Draft.{Draft, outcome_from}
use Rattle.wz_words.specs.Parts.{command_parts}
use Rattle.wz_words.proofs.DraftLaws.{settings_by_draft}
use Rattle.wz_words.proofs.read.read_words.Goals as goal

pub loop-word-init : goal.loop-word-init
loop-word-init c = record {
  same = settings_by_draft c.args.words.now ∙ ap (λ (d : Draft). outcome_from d (command_parts c.args.words.now)) (sym c.new.ensures.empty);
  going = record { sound = c.new.ensures.sound; within = omega arith };
  words = refl;
}
