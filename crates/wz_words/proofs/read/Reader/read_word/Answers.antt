use Rattle.std.proofs.Common.{ℕ, true, ◌∷◌, Some, sym, ap, ◌∙◌}
use Rattle.wz_words.specs.Draft.{outcome_from}
use Rattle.wz_words.specs.DraftViews.{draft_view}
use Rattle.wz_words.specs.Left.{words_left}
use Rattle.wz_words.specs.Parts.{OperandPart, FlagPart, ValuedPart, parts_from}
use Rattle.wz_words.specs.Views.{flag_view, valued_view}
use Rattle.wz_words.proofs.PartsLaws.{parts_operand, parts_ended, parts_flag, parts_value, parts_taken, reads_part}
use Rattle.wz_words.proofs.read.Reader.read_word.Goals as goal

pub returns-in-Operand-clause-reads : goal.returns-in-Operand-clause-reads
returns-in-Operand-clause-reads c =
    let reader = c.args.self.now in
    let at = c.args.word.at in
    let word = c.args.word.text.now in
    let rest = words_left reader.left in
    reads_part (draft_view reader.draft) (draft_view c.take_operand.new.self) (OperandPart at word) _ (parts_from reader.ended reader.left.at rest) c.take_operand.result
    (parts_operand reader.ended at word rest (sym c.in-Operand.ensures) ∙ ap (λ (n : ℕ). OperandPart at word ∷ parts_from reader.ended n rest) (sym c.requires.place))
    c.take_operand.ensures.takes

pub returns-in-EndsOptions-clause-reads : goal.returns-in-EndsOptions-clause-reads
returns-in-EndsOptions-clause-reads c =
    let reader = c.args.self.now in
    let rest = words_left reader.left in
    ap (outcome_from (draft_view reader.draft))
    (parts_ended reader.ended c.args.word.at c.args.word.text.now rest (sym c.in-EndsOptions.ensures) ∙ ap (λ (n : ℕ). parts_from true n rest) (sym c.requires.place))

pub returns-in-Flag-clause-reads : goal.returns-in-Flag-clause-reads
returns-in-Flag-clause-reads c =
    let reader = c.args.self.now in
    let at = c.args.word.at in
    let flag = flag_view c.in-Flag.flag in
    let rest = words_left reader.left in
    reads_part (draft_view reader.draft) (draft_view c.take_flag.new.self) (FlagPart at flag) _ (parts_from reader.ended reader.left.at rest) c.take_flag.result
    (parts_flag reader.ended at c.args.word.text.now rest flag (sym c.in-Flag.ensures) ∙ ap (λ (n : ℕ). FlagPart at flag ∷ parts_from reader.ended n rest) (sym c.requires.place))
    c.take_flag.ensures.takes

pub returns-in-TakesNext-clause-reads : goal.returns-in-TakesNext-clause-reads
returns-in-TakesNext-clause-reads c =
    let reader = c.args.self.now in
    let next = c.next-value.ensures in
    let now = c.next-value.new.self in
    let option = valued_view c.in-TakesNext.option in
    reads_part (draft_view reader.draft) (draft_view c.take_option.new.self) _ _ (parts_from reader.ended now.at (words_left now)) c.take_option.result
    (parts_taken reader.ended c.args.word.at c.args.word.text.now reader.left now option c.next-value.result (sym c.in-TakesNext.ensures) c.requires.place
    next.none next.some next.front next.at next.stays next.words)
    c.take_option.ensures.takes

pub returns-in-HasValue-clause-reads : goal.returns-in-HasValue-clause-reads
returns-in-HasValue-clause-reads c =
    let reader = c.args.self.now in
    let at = c.args.word.at in
    let option = valued_view c.in-HasValue.option in
    let value = c.in-HasValue.text.now in
    let rest = words_left reader.left in
    reads_part (draft_view reader.draft) (draft_view c.take_option-in-HasValue.new.self) (ValuedPart at option (Some (at, value))) _ (parts_from reader.ended reader.left.at rest)
    c.take_option-in-HasValue.result
    (parts_value reader.ended at c.args.word.text.now rest option value (sym c.in-HasValue.ensures)
    ∙ ap (λ (n : ℕ). ValuedPart at option (Some (at, value)) ∷ parts_from reader.ended n rest) (sym c.requires.place))
    c.take_option-in-HasValue.ensures.takes
