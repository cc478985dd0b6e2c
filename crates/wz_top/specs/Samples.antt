-- What holds of the samples that words ask for. This is the tool's own.
use Rattle.std.specs.Prelude.{◌≡◌, ℕ, ◌≤◌, List, length, Ok}
use Rattle.wz_io.specs.Reading.{input_limit}
use Rattle.wz_words.specs.declared.settings.InputFrom.TheVariants.{Sample}
use Rattle.wz_words.specs.Settings.{Settings}
use Rattle.wz_words.specs.Faults.{settings}
use Rattle.wz_gen.specs.Sample.{sample_bytes}

-- none is longer than the limit on inputs
abbrev pub SamplesAreShort : Type 0
SamplesAreShort =
    (words : List (List ℕ)) (s : Settings) (number : ℕ) → settings words ≡ Ok s → s.input ≡ Sample number → length (sample_bytes number) ≤ input_limit
