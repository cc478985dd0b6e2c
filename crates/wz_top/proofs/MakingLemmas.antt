-- What is made of an accepted module, exit by exit.
use Rattle.std.proofs.Common.{◌≡◌, ℕ, List, length, refl, sym, ap, subst, ◌∙◌}
use Rattle.wz_io.specs.World.{World, HasFailed}
use Rattle.wz_io.specs.declared.files.Side.TheVariants.{Output}
use Rattle.wz_module.specs.Module.{Module}
use Rattle.wz_words.specs.Settings.{Settings}
use Rattle.wz_store.specs.Made.{StoreState}
use Rattle.wz_machine.specs.State.{State}
use Rattle.wz_snapshot.specs.Recorded.{chosen_segments}
use Rattle.wz_store.specs.State.{pages_together}
use Rattle.wz_exports.specs.Kept.{KeptExports}
use Rattle.wz_init.specs.States.{state_in}
use Rattle.wz_rewrite.specs.Output.{rewritten}
use Rattle.wz_top.specs.Devices.{HasWritten, HoldsPrefix}
use Rattle.wz_top.specs.Words.{output_name}
use Rattle.wz_top.specs.Verdict.{Verdict, Produces, IsVerdict, IsRefusedBy, report_of}
use Rattle.wz_top.specs.Making.{IsRun, IsMade}
use Rattle.wz_top.specs.declared.outcome.Report.{Report}
use Rattle.wz_top.specs.declared.outcome.Outcome.{Outcome}
use Rattle.wz_top.specs.declared.outcome.Outcome.TheVariants.{Done, OutputFault, NoMemory}
use Rattle.wz_top.proofs.TurnLemmas.{run_gives}

pub refused_made : (s : Settings) (bytes : List ℕ) (outcome : Outcome) (w : World) → IsRefusedBy s bytes outcome → IsMade s bytes outcome w w
refused_made s bytes NoMemory w h = refl
refused_made s bytes (Done report) w h = absurd h
refused_made s bytes OutputFault w h = absurd h
refused_made s bytes outcome w h = (h, refl)

abbrev made : ℕ → ℕ → ℕ → ℕ → Report
made ticks pages segments count = record { ticks = ticks; pages = pages; segments = segments; bytes = count }

-- the report as the code puts it together
pub report_is : (s : State) (ticks pages segments count : ℕ) (right : List ℕ) → pages ≡ pages_together s.memories → segments ≡ length (chosen_segments s.memories)
    → count ≡ length right
    → made ticks pages segments count ≡ report_of s ticks right
report_is s ticks pages segments count right pages-are segments-are count-is = first ∙ second ∙ third where
  first : made ticks pages segments count ≡ made ticks (pages_together s.memories) segments count
  first = ap (λ (n : ℕ). made ticks n segments count) pages-are

  second : made ticks (pages_together s.memories) segments count ≡ made ticks (pages_together s.memories) (length (chosen_segments s.memories)) count
  second = ap (λ (n : ℕ). made ticks (pages_together s.memories) n count) segments-are

  third : made ticks (pages_together s.memories) (length (chosen_segments s.memories)) count ≡ report_of s ticks right
  third = ap (λ (n : ℕ). made ticks (pages_together s.memories) (length (chosen_segments s.memories)) n) count-is

module _ (s : Settings) (bytes : List ℕ) (m : Module) (k : KeptExports) (store : StoreState) (ticks : ℕ) (run : IsRun s bytes m k store ticks)
    (text : List ℕ) (is : text ≡ rewritten m (state_in m store) k) (before now : World) where
  gives : (said : Report) → said ≡ report_of (state_in m store) ticks text → IsVerdict s bytes (Produces said text)
  gives said said-is =
      let same : Produces said text ≡ Produces (report_of (state_in m store) ticks (rewritten m (state_in m store) k)) (rewritten m (state_in m store) k)
      = ap (λ (r : Report). Produces r text) said-is ∙ ap (λ (t : List ℕ). Produces (report_of (state_in m store) ticks t) t) is in
      subst (λ (v : Verdict). IsVerdict s bytes v) (sym same) (run_gives s bytes m k store ticks run)

  pub done_made : (said : Report) → said ≡ report_of (state_in m store) ticks text → HasWritten (output_name s.output) text before now
      → IsMade s bytes (Done said) before now
  done_made said said-is wrote = (text, gives said said-is, wrote)

  pub fault_made : HasFailed Output (output_name s.output) before now → HoldsPrefix (output_name s.output) text before now → IsMade s bytes OutputFault before now
  fault_made failed holds = (report_of (state_in m store) ticks text, text, gives (report_of (state_in m store) ticks text) refl, failed, holds)
