use Rattle.std.proofs.Common.{◌≡◌, false, drop}
use Rattle.std.specs.Prelude.{nat_lt}
use Rattle.wz_words.specs.Options.{decimal, digits_behind}
use Rattle.wz_words.proofs.numbers.number_at_most.Given as goal

abbrev pub invariant-loop-byte : goal.invariant-loop-byte
invariant-loop-byte l = record {
  rest : decimal l.text ≡ digits_behind l.number (drop l.byte-index l.digits);
  within : nat_lt l.limit l.number ≡ false;
}
