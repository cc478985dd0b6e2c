use Rattle.std.proofs.Common.{◌≡◌, ◌-◌, length}
use Rattle.wz_words.specs.Faults.{settings}
use Rattle.wz_words.specs.Reader.{IsUnderWay, outcome_of}
use Rattle.wz_words.proofs.read.read_words.Given as goal

abbrev pub invariant-loop-word : goal.invariant-loop-word
invariant-loop-word l = record {
  same : settings l.words ≡ outcome_of l.reader;
  going : IsUnderWay l.reader;
  words : l.reader.left.words.now ≡ l.words;
}

abbrev pub decreases-loop-word : goal.decreases-loop-word
decreases-loop-word l = length l.words - l.reader.left.at
