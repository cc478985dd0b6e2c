-- What bytes ask for is to have them pre-initialised: the output is valid, starts where the run ended, and shows the same.
use Rattle.std.proofs.Common.{◌≡◌, ℕ, ◌+◌, ◌≤◌, List, [], length, map, Option, None, Ok, refl, sym, ap, subst, ◌∙◌, inl, inr, arith}
use Rattle.std.specs.Prelude.{Result, Some, IsSomeAnd}
use Rattle.std.specs.List.{All, zip, sum_by}
use Rattle.std.proofs.lemmas.List.{length-map}
use Rattle.std.proofs.lemmas.Slice.Zip.{length-zip}
use Rattle.wz_io.specs.Reading.{input_limit}
use Rattle.wz_types.specs.declared.types.MemType.{MemType}
use Rattle.wz_module.specs.Exports.{Export}
use Rattle.wz_module.specs.Globals.{GlobalDef}
use Rattle.wz_module.specs.Sections.{payload_of}
use Rattle.wz_module.specs.Module.{Module}
use Rattle.wz_decode_sections.specs.ExportSection.{IsExportSection}
use Rattle.wz_decode.specs.Parts.{HoldsList}
use Rattle.wz_decode.specs.Spelling.{Spells}
use Rattle.wz_encode.specs.Laws.{CanBeIndex, CanBeExport, target_index}
use Rattle.wz_valid.specs.Indices.{all_functions}
use Rattle.wz_valid.specs.Validity.{IsValid}
use Rattle.wz_valid.specs.Profile.{IsInProfile}
use Rattle.wz_plan.specs.Laws.{PlanRises, PlanIsWithin}
use Rattle.wz_store.specs.State.{Global, Memory}
use Rattle.wz_machine.specs.State.{State, LastingParts}
use Rattle.wz_machine.specs.TypedState.{state_context, IsStateTyped}
use Rattle.wz_machine.specs.TypedLaws.{NeverStuck}
use Rattle.wz_machine.specs.Within.{with_more}
use Rattle.wz_machine.specs.Moves.{Move}
use Rattle.wz_machine.specs.Sessions.{observe}
use Rattle.wz_machine.specs.Laws.{ObservesSame, TypedNames}
use Rattle.wz_snapshot.specs.Recorded.{recorded, chosen_segments}
use Rattle.wz_snapshot.specs.Laws.{ChosenAreFew, ChosenAreRanges}
use Rattle.wz_words.specs.declared.settings.Usage.{Usage as UsageFault}
use Rattle.wz_words.specs.declared.settings.Usage.TheVariants as usage
use Rattle.wz_words.specs.Settings.{Settings}
use Rattle.wz_words.specs.Faults.{renames_limit}
use Rattle.wz_exports.specs.Kept.{KeptExports, kept, kept_exports}
use Rattle.wz_init.specs.Instances.{Instance}
use Rattle.wz_init.specs.Instantiation.{fresh}
use Rattle.wz_init.specs.Ready.{Ready, Reached, StoppedIn, UnfitElement, UnfitData, NeverMade, ready}
use Rattle.wz_init.specs.Reached.{IsReachedOf}
use Rattle.wz_init.specs.Laws.{FreshIsReached, RunIsReached}
use Rattle.wz_init.specs.Typed.{DatasHoldBytes, RunIsTyped, FreshIsNeverStuck}
use Rattle.wz_rewrite.specs.OutputState.{OutputState, HasRanges, reached_state}
use Rattle.wz_rewrite.specs.Slots.{output_slots, filled_slots}
use Rattle.wz_rewrite.specs.Parts.{global_types, output_memories, memory_of_size}
use Rattle.wz_rewrite.specs.Output.{rewritten, rewritten_module}
use Rattle.wz_rewrite.specs.Laws.{CanBeOutput, OutputSpells, InputSpellsElements}
use Rattle.wz_rewrite.specs.ValidOutput.{HasTypesOf, StateHasTypes, IsValidWith, OutputIsValid, HasNoStartSection}
use Rattle.wz_rewrite.proofs.ContentLemmas.{data_bytes_held}
use Rattle.wz_rewrite.proofs.BodyLemmas.{entries-kept, targets-kept}
use Rattle.wz_io.specs.World.{World, Name}
use Rattle.wz_code.proofs.NumberLemmas.{all-from-has}
use Rattle.wz_top.specs.Devices.{IsInputFrom, HasWritten}
use Rattle.wz_top.specs.Words.{output_name}
use Rattle.wz_top.specs.Asked.{Asked, Says, Delivers, asked_by, BytesAsk, SettingsAsk, OnDone, Ran}
use Rattle.wz_top.specs.declared.outcome.Outcome.{Outcome}
use Rattle.wz_top.specs.declared.outcome.Outcome.TheVariants.{Done, Init}
use Rattle.wz_init.specs.declared.faults.InitFault.{InitFault}
use Rattle.wz_top.specs.Verdict.{Verdict, Declines, Produces, order_of, stop_fault, RunComes, RunAsks, ExportsAsk, ProfileAsks, ModuleAsks, IsVerdict, IsAccepted}
use Rattle.wz_top.specs.Refusals.{usage_outcome}
use Rattle.wz_top.specs.FreshOutput.{StartsAs, OutputStartsAsReached}
use Rattle.wz_top.specs.PreInitialised.{OnPreInitialised, export_instances, ReachesState, PreInitialised, GiveNames, IsWritten, OutputIsWritten, OutputIsPreInitialised}
use Rattle.wz_top.specs.declared.outcome.Report.{Report}
use Rattle.wz_top.proofs.OutsideLaws.{names_differ}
use Rattle.wz_top.proofs.RunnableLemmas.{kept_run}
use Rattle.wz_top.proofs.ReachLemmas.{has_functions, some_payload, one_memory, ranges_in}
use Rattle.wz_top.proofs.FreshPartsLemmas.{undeclared_there}
use Rattle.wz_top.proofs.InputSizes.{IsExportName, IsNamed, HasTarget, IsSmall, spelled_small, exports_named, exports_aimed}
use Rattle.wz_top.proofs.KeptSizes.{export_size, kept_count, kept_names_sum, names_kept, new_names_short}
use Rattle.wz_top.proofs.TextSizes.{slot_size}
use Rattle.wz_top.proofs.ChosenSizes.{AreFew, most_bytes, ranges_short, range_can, slots_size, slots_count}
use Rattle.wz_top.proofs.WritableLemmas.{of_types, functions_count, undeclared_count, constants_can, memories_can, HasSizes, sections_short}

-- ---- the state that was reached is typed

pub data_bytes : (bytes : List ℕ) (m : Module) → Spells bytes m → DatasHoldBytes m
data_bytes bytes m h i d less = let one = data_bytes_held (payload_of 11 m.sections) m.datas h.parts.datas i d less in one.1

typed_state : RunIsTyped → (s : Settings) (input : List ℕ) (m : Module) (k : KeptExports) (state : State) (ticks : ℕ) → ReachesState s input m k state ticks
    → IsStateTyped (state_context state) state
typed_state typed s input m k state ticks run =
    typed m (order_of s k) state ticks run.accepted.valid run.accepted.inside (data_bytes input m run.accepted.spelled) (kept_run m s k run.keeps) run.ran

-- ---- what is written

module _ (fresh_is : FreshIsReached) (run_is : RunIsReached) (typed : RunIsTyped) (few_are : ChosenAreFew) (ranges_are : ChosenAreRanges)
    (rise : PlanRises) (within : PlanIsWithin) (elements : InputSpellsElements) (types : StateHasTypes) (output_valid : OutputIsValid)
    (output_spells : OutputSpells) (starts : HasNoStartSection)
    (s : Settings) (input : List ℕ) (m : Module) (k : KeptExports) (state : State) (ticks : ℕ)
    (names : GiveNames s.renames) (short : length input ≤ input_limit) (run : ReachesState s input m k state ticks) where
  abbrev o : OutputState
  o = reached_state m state k

  valid : IsValid m
  valid = run.accepted.valid

  profile : IsInProfile m
  profile = run.accepted.inside

  is : IsReachedOf m state
  is = run_is m (order_of s k) state ticks valid profile run.ran

  small : IsSmall input_limit m
  small = spelled_small input m input_limit run.accepted.spelled short

  has_types : HasTypesOf m (recorded state) state.memories
  has_types = types m (recorded state) state.globals state.memories refl refl (of_types m state is)

  ranges : HasRanges state.memories (chosen_segments state.memories)
  ranges = ranges_in state.memories (chosen_segments state.memories) (ranges_are state.memories)

  is_valid : IsValidWith (rewritten_module m state k) k
  is_valid = output_valid m s k (recorded state) state.memories valid profile names.differ run.keeps has_types ranges

  -- ---- how much there is

  as_many_memories : length state.memories ≡ length m.memories
  as_many_memories =
      let maxima : length (map (λ (x : Memory). x.maximum) state.memories) ≡ length (map (λ (x : MemType). x.limits.max) m.memories)
      = ap (λ (p : LastingParts). length p.memory_maxima) is.module_parts in
      sym (length-map state.memories (λ (x : Memory). x.maximum)) ∙ maxima ∙ length-map m.memories (λ (x : MemType). x.limits.max)

  few : AreFew state.memories
  few = record { pages = is.left.pages; count = let one = one_memory m valid in let same = as_many_memories in omega (arith, one, same) }

  as_many_globals : length m.globals ≡ length o.globals
  as_many_globals =
      let kinds : length (map (λ (g : Global). g.type) state.globals) ≡ length (map (λ (g : GlobalDef). g.kind) m.globals)
      = ap (λ (p : LastingParts). length p.globals) is.module_parts in
      sym (length-map m.globals (λ (g : GlobalDef). g.kind)) ∙ sym kinds ∙ length-map state.globals (λ (g : Global). g.type)
      ∙ sym (length-map state.globals (λ (g : Global). g.content))

  entries : k.entries ≡ kept_exports s m.exports
  entries = entries-kept m s k run.keeps

  memories_count : length (output_memories m o) ≤ input_limit
  memories_count =
      let zipped = length-zip m.memories o.pages in
      let mapped = length-map (zip m.memories o.pages) memory_of_size in
      let one = one_memory m valid in
      omega (arith, zipped, mapped, one)

  globals_count : length (zip (global_types m) o.globals) ≤ input_limit
  globals_count =
      let zipped = length-zip (global_types m) o.globals in
      let mapped = length-map m.globals (λ (g : GlobalDef). g.kind) in
      let count = small.globals in
      omega (arith, zipped, mapped, count)

  exports_count : length k.entries ≤ input_limit
  exports_count =
      let same = ap (λ (es : List Export). length es) entries in
      let fewer = kept_count s m.exports in
      let count = small.exports in
      omega (arith, same, fewer, count)

  names_sum : sum_by export_size k.entries ≤ input_limit + 1048576
  names_sum =
      let same = ap (λ (es : List Export). sum_by export_size es) entries in
      let fewer = kept_names_sum s m.exports (names_differ m valid) in
      let own = small.names in
      let new = names.short in
      omega (arith, same, fewer, own, new)

  functions_few : length (all_functions m) ≤ input_limit + input_limit
  functions_few = functions_count m input_limit small

  undeclared_few : length o.undeclared ≤ input_limit + input_limit
  undeclared_few = let count = undeclared_count m state k valid in let all = functions_few in omega (arith, count, all)

  slots_few : length (output_slots m o) ≤ input_limit + 10000
  slots_few =
      let count = slots_count o.empty_datas 0 m.datas o.chosen in
      let chosen = few_are state.memories (let one = few.count in omega (arith, one)) in
      let datas = small.datas in
      omega (arith, count, chosen, datas)

  slots_bytes : sum_by slot_size (filled_slots m o) ≤ input_limit + most_bytes
  slots_bytes =
      let all = slots_size state.memories o.empty_datas 0 m.datas o.chosen in
      let chosen = ranges_short rise within state.memories few in
      let own = small.contents in
      omega (arith, all, chosen, own)

  sizes : HasSizes m o
  sizes = record {
    input = small;
    memories = memories_count;
    globals = globals_count;
    exports = exports_count;
    names = names_sum;
    undeclared = undeclared_few;
    slots = slots_few;
    bytes = slots_bytes;
  }

  -- ---- exports

  new_named : All (λ rename. IsExportName rename.dst) s.renames
  new_named i d less =
      let one = new_names_short s.renames renames_limit names.short i d less in
      (names.texts i d less, omega (arith, one))

  kept_named : All IsNamed (kept_exports s m.exports)
  kept_named = names_kept IsExportName s m.exports (exports_named input m run.accepted.spelled) new_named

  kept_aimed : All HasTarget (kept_exports s m.exports)
  kept_aimed = targets-kept (λ t. CanBeIndex (target_index t)) s m.exports (exports_aimed input m run.accepted.spelled)

  exports_can : All CanBeExport k.entries
  exports_can =
      subst (λ (es : List Export). All CanBeExport es) (sym entries)
      (λ i d less. let name = kept_named i d less in (name.0, name.1, kept_aimed i d less))

  no_exports : payload_of 7 m.sections ≡ None → k.entries ≡ []
  no_exports none =
      let nothing : m.exports ≡ [] =
      subst (λ (place : Option (List ℕ)). HoldsList (λ t x. IsExportSection t x) place m.exports) none run.accepted.spelled.parts.exports in
      entries ∙ ap (λ (es : List Export). kept_exports s es) nothing

  -- ---- the whole

  can_be_output : CanBeOutput m o
  can_be_output =
      let few_functions = functions_few in
      let own = has_functions fresh_is m (order_of s k) state ticks valid profile run.ran in
      let agree = run.accepted.spelled.counts.bodies in
      record {
        input = input;
        spelled = run.accepted.spelled;
        code = some_payload (payload_of 10 m.sections) m.bodies run.accepted.spelled.parts.bodies (omega (arith, own, agree));
        sizes = memories_can (rewritten_module m state k) is_valid.valid;
        globals = as_many_globals;
        constants = (
          let same = as_many_globals in let count = small.globals in omega (arith, same, count),
          constants_can m m.globals o.globals has_types.globals has_types.own (omega (arith, few_functions)),
        );
        exports = (let count = exports_count in omega (arith, count), exports_can);
        none_kept = no_exports;
        segments = let count = small.elements in omega (arith, count);
        undeclared = (
          let count = undeclared_few in omega (arith, count),
          all-from-has CanBeIndex o.undeclared (λ f h. let there = undeclared_there m (recorded state) k valid f h in omega (arith, there, few_functions)),
        );
        slots = let count = slots_few in omega (arith, count);
        ranges = ranges;
        chosen = λ i d less. range_can state.memories _ few (ranges i d less) (typed_state typed s input m k state ticks run).memories;
        short = sections_short m o sizes (elements input m run.accepted.spelled);
      }

  pub written : IsWritten m k state
  written = record {
    spelled = output_spells m o can_be_output;
    valid = is_valid;
    no_start = starts m o;
  }

-- ---- what is seen

module _ (typed : RunIsTyped) (written : OutputIsWritten) (starts : OutputStartsAsReached) (names_are : TypedNames) (observes : ObservesSame) (fresh_never : FreshIsNeverStuck)
    (never : NeverStuck) where
  seen : (m : Module) (k : KeptExports) (state : State) → IsValidWith m k → StartsAs m state → IsStateTyped (state_context state) state
      → (instance : State) (moves : List Move) → fresh m ≡ Instance instance
      → observe instance (export_instances m.exports) moves ≡ observe state (export_instances k.entries) moves
  seen m k state valid begun is_typed instance moves made =
      let made_so : Instance instance ≡ Instance (with_more state begun.elements begun.datas) = sym made ∙ begun.made in
      let same : instance ≡ with_more state begun.elements begun.datas = cc in
      ap (λ (s : State). observe s (export_instances m.exports) moves) same
      ∙ ap (λ (es : List Export). observe (with_more state begun.elements begun.datas) (export_instances es) moves) valid.exports
      ∙ observes state begun.elements begun.datas (export_instances k.entries) moves (names_are state is_typed)

  by_run : (s : Settings) (input : List ℕ) (m : Module) (k : KeptExports) (state : State) (ticks : ℕ) → GiveNames s.renames → length input ≤ input_limit
      → ReachesState s input m k state ticks → PreInitialised s input (rewritten m state k)
  by_run s input m k state ticks names short run =
      let out = written s input m k state ticks names short run in
      let begun = starts m (order_of s k) state ticks k run.accepted.valid run.accepted.inside run.ran in
      let is_typed = typed_state typed s input m k state ticks run in
      record {
        module_read = m;
        exports_kept = k;
        state_reached = state;
        ticks = ticks;
        reached = run;
        module_written = rewritten_module m state k;
        spelled = out.spelled;
        valid = out.valid;
        no_start = out.no_start;
        starts = begun;
        same_events = seen (rewritten_module m state k) k state out.valid begun is_typed;
        fresh_never_stuck = λ instance moves made. fresh_never (rewritten_module m state k) instance (export_instances (rewritten_module m state k).exports) moves
            out.valid.valid out.valid.profile (data_bytes (rewritten m state k) (rewritten_module m state k) out.spelled) made;
        reached_never_stuck = λ moves. never state (export_instances k.entries) moves is_typed;
      }

  abbrev verdict_bytes : Verdict → List ℕ → List ℕ
  verdict_bytes (Produces report bytes) other = bytes
  verdict_bytes (Declines refusal) other = other

  no_output : (o : Option InitFault) (report : Report) (output : List ℕ) → IsSomeAnd o (λ fault. Produces report output ≡ Declines (Init fault)) → ⊥
  no_output None report output h = h
  no_output (Some fault) report output h = absurd cc

  by_end : (s : Settings) (input : List ℕ) (m : Module) (k : KeptExports) (report : Report) (output : List ℕ) (end : Ready) → GiveNames s.renames
      → length input ≤ input_limit → IsAccepted input m → kept m s ≡ Ok k → ready m (order_of s k) ≡ end → RunComes m k end (Produces report output)
      → PreInitialised s input output
  by_end s input m k report output (Reached state ticks) names short accepted keeps ran comes =
      let same : rewritten m state k ≡ output = ap (λ (v : Verdict). verdict_bytes v output) (sym comes) in
      subst (λ (bytes : List ℕ). PreInitialised s input bytes) same
      (by_run s input m k state ticks names short (record { accepted = accepted; keeps = keeps; ran = ran }))
  by_end s input m k report output (StoppedIn phase stop) names short accepted keeps ran comes = absurd (no_output (stop_fault phase stop) report output comes)
  by_end s input m k report output (UnfitElement index) names short accepted keeps ran comes = absurd cc
  by_end s input m k report output (UnfitData index) names short accepted keeps ran comes = absurd cc
  by_end s input m k report output NeverMade names short accepted keeps ran comes = absurd comes

  by_exports : (s : Settings) (input : List ℕ) (m : Module) (report : Report) (output : List ℕ) → GiveNames s.renames → length input ≤ input_limit
      → IsAccepted input m → ExportsAsk s m (Produces report output) → PreInitialised s input output
  unfolding RunAsks
  by_exports s input m report output names short accepted (inl h) = absurd (let wrong = h.2 in cc)
  by_exports s input m report output names short accepted (inr h) =
      by_end s input m h.0 report output (ready m (order_of s h.0)) names short accepted h.1 refl h.2

  by_profile : (s : Settings) (input : List ℕ) (m : Module) (report : Report) (output : List ℕ) → GiveNames s.renames → length input ≤ input_limit
      → Spells input m → IsValid m → ProfileAsks s m (Produces report output) → PreInitialised s input output
  by_profile s input m report output names short spelled valid (inl h) = absurd (let wrong = h.2 in cc)
  by_profile s input m report output names short spelled valid (inr h) =
      by_exports s input m report output names short (record { spelled = spelled; valid = valid; inside = h.0 }) h.1

  by_module : (s : Settings) (input : List ℕ) (m : Module) (report : Report) (output : List ℕ) → GiveNames s.renames → length input ≤ input_limit
      → Spells input m → ModuleAsks s m (Produces report output) → PreInitialised s input output
  by_module s input m report output names short spelled (inl h) = absurd (let wrong = h.3 in cc)
  by_module s input m report output names short spelled (inr h) = by_profile s input m report output names short spelled h.0 h.1

  pub pre_initialised : OutputIsPreInitialised
  unfolding IsVerdict
  pre_initialised s input report output names short (inl h) = absurd (let wrong = h.2 in cc)
  pre_initialised s input report output names short (inr h) = by_module s input h.0 report output names short h.1 h.2

-- ---- of a run that ended

abbrev asked_name : Asked → Name → Name
asked_name (Says refusal) other = other
asked_name (Delivers output report right) other = output

abbrev asked_report : Asked → Report → Report
asked_report (Says refusal) other = other
asked_report (Delivers output report right) other = report

abbrev asked_bytes : Asked → List ℕ → List ℕ
asked_bytes (Says refusal) other = other
asked_bytes (Delivers output report right) other = right

verdict_asked : (target : Name) (v : Verdict) (output : Name) (report : Report) (right : List ℕ) → Delivers output report right ≡ asked_by target v
    → (v ≡ Produces report right) × (output ≡ target)
verdict_asked target (Declines refusal) output report right e = absurd cc
verdict_asked target (Produces made bytes) output report right e =
    let same_report : made ≡ report = ap (λ (a : Asked). asked_report a report) (sym e) in
    let same_bytes : bytes ≡ right = ap (λ (a : Asked). asked_bytes a right) (sym e) in
    let same_output : output ≡ target = ap (λ (a : Asked). asked_name a output) e in
    (ap (λ (r : Report). Produces r bytes) same_report ∙ ap (λ (t : List ℕ). Produces report t) same_bytes, same_output)

module _ (law : OutputIsPreInitialised) where
  done_so : (s : Settings) (before now : World) (report : Report) → GiveNames s.renames → OnDone (Done report) (SettingsAsk (Ok s) before.told) before now
      → OnPreInitialised (Done report) (Ok s) before now
  done_so s before now report names h = by_bytes h.2.0 h.2.1 h.2.2 where
    by_bytes : (input : List ℕ) → IsInputFrom before.told s.input input → BytesAsk s input (Delivers h.0 report h.1)
        → OnPreInitialised (Done report) (Ok s) before now
    by_bytes input here (inl long) = absurd (let wrong = long.1 in cc)
    by_bytes input here (inr asks) =
        let is = verdict_asked (output_name s.output) asks.1 h.0 report h.1 asks.3 in (
          input,
          h.1,
          here,
          subst (λ (name : Name). HasWritten name h.1 before now) is.1 h.3,
          law s input report h.1 names asks.0 (subst (λ (v : Verdict). IsVerdict s input v) is.0 asks.2),
        )

  pub headline_by : (s : Settings) (outcome : Outcome) (before now : World) → GiveNames s.renames → Ran outcome (Ok s) before now
      → OnPreInitialised outcome (Ok s) before now
  headline_by s (Done report) before now names ran = done_so s before now report names ran.done
  headline_by s outcome before now names ran = tt

-- words at fault end in no output
pub usage_headline : (fault : UsageFault) (r : Result Settings UsageFault) (before now : World) → OnPreInitialised (usage_outcome fault) r before now
usage_headline usage.NoMemory r before now = tt
usage_headline fault r before now = tt
