-- Bytes ask for one thing at most.
use Rattle.std.proofs.Common.{◌≡◌, ℕ, sym, ap, subst, ◌∙◌, inl, inr}
use Rattle.std.specs.Prelude.{Option, Some, None, IsSomeAnd, Result, Ok, Err}
use Rattle.wz_module.specs.Module.{Module}
use Rattle.wz_decode.specs.declared.fault.DecodeFault.{DecodeFault}
use Rattle.wz_decode.specs.Laws.{OneModule, CauseIsOne, SpelledHasNone}
use Rattle.wz_valid.specs.declared.faults.Part.{Part}
use Rattle.wz_valid.specs.declared.faults.ValidFault.TheVariants as valid
use Rattle.wz_valid.specs.declared.faults.OutOfProfile.{OutOfProfile}
use Rattle.wz_valid.specs.Laws.{FirstIsOne, ValidHasNone, InsideIsNotOutside}
use Rattle.wz_words.specs.Settings.{Settings}
use Rattle.wz_exports.specs.Kept.{KeptExports}
use Rattle.wz_exports.specs.declared.fault.ExportFault.{ExportFault}
use Rattle.wz_init.specs.Ready.{Ready, Reached, StoppedIn, UnfitElement, UnfitData, NeverMade, ready}
use Rattle.wz_init.specs.declared.faults.InitFault.{InitFault}
use Rattle.wz_top.specs.Verdict.{Verdict, Declines, order_of, stop_fault, RunComes, RunAsks, ExportsAsk, ProfileAsks, ModuleAsks, IsVerdict, OneVerdict}
use Rattle.wz_top.specs.declared.outcome.Outcome.TheVariants.{Decode, Valid, Profile, Exports, Init}
use Rattle.wz_top.proofs.OutsideLaws.{one_outside}

abbrev asked_ok : KeptExports → Result KeptExports ExportFault
asked_ok k = Ok k

abbrev asked_err : ExportFault → Result KeptExports ExportFault
asked_err fault = Err fault

one_fault : (o : Option InitFault) (v w : Verdict) → IsSomeAnd o (λ fault. v ≡ Declines (Init fault)) → IsSomeAnd o (λ fault. w ≡ Declines (Init fault)) → v ≡ w
one_fault None v w p q = absurd p
one_fault (Some fault) v w p q = p ∙ sym q

one_end : (m : Module) (k : KeptExports) (r : Ready) (v w : Verdict) → RunComes m k r v → RunComes m k r w → v ≡ w
one_end m k (Reached s ticks) v w p q = p ∙ sym q
one_end m k (StoppedIn phase stop) v w p q = one_fault (stop_fault phase stop) v w p q
one_end m k (UnfitElement index) v w p q = p ∙ sym q
one_end m k (UnfitData index) v w p q = p ∙ sym q
one_end m k NeverMade v w p q = absurd p

one_run : (s : Settings) (m : Module) (k : KeptExports) (v w : Verdict) → RunAsks s m k v → RunAsks s m k w → v ≡ w
unfolding RunAsks
one_run s m k v w p q = one_end m k (ready m (order_of s k)) v w p q

one_kept : (s : Settings) (m : Module) (v w : Verdict) → ExportsAsk s m v → ExportsAsk s m w → v ≡ w
one_kept s m v w (inl p) (inl q) = let e : asked_err p.0 ≡ asked_err q.0 = sym p.1 ∙ q.1 in let same : p.0 ≡ q.0 = cc in p.2 ∙ ap (λ (f : ExportFault). Declines (Exports f)) same ∙ sym q.2
one_kept s m v w (inl p) (inr q) = let e : asked_err p.0 ≡ asked_ok q.0 = sym p.1 ∙ q.1 in absurd cc
one_kept s m v w (inr p) (inl q) = let e : asked_ok p.0 ≡ asked_err q.0 = sym p.1 ∙ q.1 in absurd cc
one_kept s m v w (inr p) (inr q) =
    let e : asked_ok p.0 ≡ asked_ok q.0 = sym p.1 ∙ q.1 in
    let same : p.0 ≡ q.0 = cc in
    one_run s m q.0 v w (subst (λ (k : KeptExports). RunAsks s m k v) same p.2) q.2

-- ---- by the laws of the crates below

module _ (modules : OneModule) (causes : CauseIsOne) (spelled : SpelledHasNone) (firsts : FirstIsOne) (valid_has : ValidHasNone) (inside : InsideIsNotOutside) where
  one_profile : (s : Settings) (m : Module) (v w : Verdict) → ProfileAsks s m v → ProfileAsks s m w → v ≡ w
  one_profile s m v w (inl p) (inl q) = p.2 ∙ ap (λ (c : OutOfProfile). Declines (Profile c)) (one_outside m p.0 q.0 p.1 q.1) ∙ sym q.2
  one_profile s m v w (inl p) (inr q) = absurd (inside m p.0 q.0 p.1)
  one_profile s m v w (inr p) (inl q) = absurd (inside m q.0 p.0 q.1)
  one_profile s m v w (inr p) (inr q) = one_kept s m v w p.1 q.1

  one_checked : (s : Settings) (m : Module) (v w : Verdict) → ModuleAsks s m v → ModuleAsks s m w → v ≡ w
  one_checked s m v w (inl p) (inl q) =
      let same = firsts m p.0 q.0 p.1 q.1 p.2 q.2 in
      p.3 ∙ ap (λ (x : Part). Declines (Valid (valid.Invalid x p.1))) same.0 ∙ ap (λ (i : ℕ). Declines (Valid (valid.Invalid q.0 i))) same.1 ∙ sym q.3
  one_checked s m v w (inl p) (inr q) = absurd (valid_has m p.0 p.1 q.0 p.2)
  one_checked s m v w (inr p) (inl q) = absurd (valid_has m q.0 q.1 p.0 q.2)
  one_checked s m v w (inr p) (inr q) = one_profile s m v w p.1 q.1

  pub one_verdict : OneVerdict
  unfolding IsVerdict
  one_verdict s bytes v w (inl p) (inl q) = p.2 ∙ ap (λ (f : DecodeFault). Declines (Decode f)) (causes bytes p.0 q.0 p.1 q.1) ∙ sym q.2
  one_verdict s bytes v w (inl p) (inr q) = absurd (spelled bytes q.0 p.0 q.1 p.1)
  one_verdict s bytes v w (inr p) (inl q) = absurd (spelled bytes p.0 q.0 p.1 q.1)
  one_verdict s bytes v w (inr p) (inr q) =
      one_checked s q.0 v w (subst (λ (m : Module). ModuleAsks s m v) (modules bytes p.0 q.0 p.1 q.1) p.2) q.2
