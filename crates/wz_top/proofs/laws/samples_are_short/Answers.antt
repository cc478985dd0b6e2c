use Rattle.std.proofs.Common.{subst}
use Rattle.wz_words.specs.declared.settings.InputFrom.{InputFrom}
use Rattle.wz_top.specs.Devices.{IsSmallSample}
use Rattle.wz_top.proofs.SampleLaws.{small_sample}
use Rattle.wz_top.proofs.SampleSize.{sample_short}
use Rattle.wz_top.proofs.laws.samples_are_short.Goals as goal

pub returns : goal.returns
returns c = λ words s number e is.
    sample_short number (subst (λ (from : InputFrom). IsSmallSample from) is (small_sample words s e))
