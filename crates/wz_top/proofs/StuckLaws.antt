-- No run of a module that is accepted is stuck.
use Rattle.std.specs.Prelude.{Result, Ok, Err, IfOk}
use Rattle.wz_words.specs.declared.settings.Usage.{Usage}
use Rattle.wz_words.specs.Settings.{Settings}
use Rattle.wz_init.specs.Typed.{RunIsNeverStuck}
use Rattle.wz_top.specs.Verdict.{order_of}
use Rattle.wz_top.specs.PreInitialised.{NoRunIsStuck}
use Rattle.wz_top.proofs.RunnableLemmas.{kept_run}
use Rattle.wz_top.proofs.HeadlineLaws.{data_bytes}

pub no_run_is_stuck : RunIsNeverStuck → (s : Settings) → NoRunIsStuck s
no_run_is_stuck never s input m k phase accepted keeps stuck =
    never m (order_of s k) phase accepted.valid accepted.inside (data_bytes input m accepted.spelled) (kept_run m s k keeps) stuck

-- whatever the words
pub by_words : ((s : Settings) → NoRunIsStuck s) → (r : Result Settings Usage) → IfOk r (λ s. NoRunIsStuck s)
by_words law (Ok s) = law s
by_words law (Err fault) = tt
