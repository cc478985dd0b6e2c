use Rattle.std.proofs.Common.{suc, drop, get_or, sym, ap, ◌∙◌, drop-cons}
use Rattle.wz_words.specs.Options.{digits_behind}
use Rattle.wz_words.specs.Draft.{number_within}
use Rattle.wz_words.proofs.NumberLaws.{refused}
use Rattle.wz_words.proofs.numbers.number_at_most.Goals as goal

pub returns-in_err-number : goal.returns-in_err-number
returns-in_err-number c =
    let i = c.loop-byte.byte-index in
    let number = c.loop-byte.number in
    let digits = c.as_bytes-digits.result.now in
    let front = c.loop-byte.invariant.rest ∙ ap (digits_behind number) (drop-cons digits i 0 c.loop-byte-test.true) in
    c.from_residual.ensures
    ∙ sym (ap (number_within c.args.limit) front ∙ refused c.args.limit number (get_or digits i 0) (drop (suc i) digits) (sym c.with_digit.ensures ∙ c.in_err-number.was))
