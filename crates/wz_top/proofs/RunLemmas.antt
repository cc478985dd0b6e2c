-- How a run may end, exit by exit.
use Rattle.std.proofs.Common.{◌≡◌, ℕ, ◌≤◌, ◌<◌, List, [], length, take, refl, sym, ap, subst, ◌∙◌, arith, inl, inr}
use Rattle.std.specs.Prelude.{Result, Ok, Err}
use Rattle.wz_io.specs.Reading.{input_limit}
use Rattle.wz_io.specs.World.{World, Told, Name, HasFailed, Rose, with_output}
use Rattle.wz_io.specs.declared.files.Side.{Side}
use Rattle.wz_io.specs.declared.files.Side.TheVariants.{Output}
use Rattle.wz_words.specs.declared.settings.Usage.{Usage as UsageFault}
use Rattle.wz_words.specs.Settings.{Settings}
use Rattle.wz_decode.specs.declared.fault.DecodeFault.TheVariants as decode
use Rattle.wz_valid.specs.declared.faults.ValidFault.TheVariants as valid
use Rattle.wz_exports.specs.declared.fault.ExportFault.TheVariants as export
use Rattle.wz_init.specs.declared.faults.InitFault.TheVariants as init
use Rattle.wz_top.specs.Devices.{IsInputFrom, IsInputTold, HasInputFailed, HasWritten, HoldsPrefix, OnlyRead, IsReadFrom}
use Rattle.wz_top.specs.Words.{input_name, output_name}
use Rattle.wz_top.specs.Verdict.{Verdict, Declines, Produces, IsVerdict, IsRefusedBy, OneVerdict}
use Rattle.wz_top.specs.Making.{IsMade}
use Rattle.wz_top.specs.Asked.{Asked, Says, Delivers, SettingsAsk, BytesAsk, asked_by, IsTold, IsAnswer, Ran, IsComplete, IsDoneOrNoMemory, OnInputFault, OnOutputFault}
use Rattle.wz_top.specs.declared.outcome.Report.{Report}
use Rattle.wz_top.specs.declared.outcome.Outcome.{Outcome}
use Rattle.wz_top.specs.declared.outcome.Outcome.TheVariants.{Done, Usage, InputFault, InputTooLong, Decode, Valid, Exports, Init, OutputFault, NoMemory}
use Rattle.wz_top.proofs.InputLemmas.{one_input_from}

nothing_read : (w : World) → OnlyRead w w
nothing_read w = record { later = omega arith; told = refl; current = inl refl }

-- ---- what the bytes ask for

asks_too_long : (s : Settings) (bytes : List ℕ) (asked : Asked) → input_limit < length bytes → BytesAsk s bytes asked → asked ≡ Says InputTooLong
asks_too_long s bytes asked long (inl h) = h.1
asks_too_long s bytes asked long (inr h) = absurd (omega (arith, h.0))

module _ (one : OneVerdict) (s : Settings) where
  told_asks : (told : Told) (bytes : List ℕ) (asked : Asked) → IsInputFrom told s.input bytes → IsInputTold told s.input → SettingsAsk (Ok s) told asked
      → BytesAsk s bytes asked
  told_asks told bytes asked here there asks =
      subst (λ (b : List ℕ). BytesAsk s b asked) (one_input_from told s.input asks.0 bytes there asks.1 here) asks.2

  asks_verdict : (bytes : List ℕ) (asked : Asked) (v : Verdict) → length bytes ≤ input_limit → IsVerdict s bytes v → BytesAsk s bytes asked
      → asked ≡ asked_by (output_name s.output) v
  asks_verdict bytes asked v short is (inl h) = absurd (omega (arith, h.0))
  asks_verdict bytes asked v short is (inr h) = h.3 ∙ ap (λ (w : Verdict). asked_by (output_name s.output) w) (one s bytes h.1 v h.2 is)

  -- ---- before the output is made

  pub ran_fault : (before now : World) → HasInputFailed s.input before now → OnlyRead before now → IsReadFrom (input_name s.input) before now
      → Ran InputFault (Ok s) before now
  ran_fault before now failed read from =
      record { done = tt; refusal = tt; answer = λ _ _ _. tt; input_fault = failed; output_fault = tt; stays = (read, from); unfinished = tt }

  pub ran_no_memory : (before now : World) → OnlyRead before now → Ran NoMemory (Ok s) before now
  ran_no_memory before now read = record { done = tt; refusal = tt; answer = λ _ _ _. tt; input_fault = tt; output_fault = tt; stays = read; unfinished = tt }

  pub ran_too_long : (before now : World) (bytes : List ℕ) → IsInputFrom before.told s.input bytes → input_limit < length bytes → OnlyRead before now
      → IsReadFrom (input_name s.input) before now → Ran InputTooLong (Ok s) before now
  ran_too_long before now bytes here long read from = record {
    done = tt;
    input_fault = tt;
    output_fault = tt;
    stays = (read, from);
    unfinished = tt;
    refusal = (bytes, here, inl (long, refl));
    answer = λ there asked asks.
        subst (λ (a : Asked). IsAnswer a InputTooLong) (sym (asks_too_long s bytes asked long (told_asks before.told bytes asked here there asks))) refl;
  }

  -- a refusal by its verdict says all that is owed
  refused : (before now : World) (bytes : List ℕ) (refusal : Outcome) → IsInputFrom before.told s.input bytes → length bytes ≤ input_limit
      → IsVerdict s bytes (Declines refusal) → SettingsAsk (Ok s) before.told (Says refusal)
  refused before now bytes refusal here short is = (bytes, here, inr (short, Declines refusal, is, refl))

  refused_answer : (before now : World) (bytes : List ℕ) (refusal : Outcome) → IsInputFrom before.told s.input bytes → length bytes ≤ input_limit
      → IsVerdict s bytes (Declines refusal) → IsAnswer (Says refusal) refusal → IsTold (Ok s) before.told → (asked : Asked) → SettingsAsk (Ok s) before.told asked
      → IsAnswer asked refusal
  refused_answer before now bytes refusal here short is plain there asked asks =
      subst (λ (a : Asked). IsAnswer a refusal) (sym (asks_verdict bytes asked (Declines refusal) short is (told_asks before.told bytes asked here there asks))) plain

  pub ran_refused : (before now : World) (bytes : List ℕ) (refusal : Outcome) → IsInputFrom before.told s.input bytes → length bytes ≤ input_limit
      → IsRefusedBy s bytes refusal → OnlyRead before now → IsReadFrom (input_name s.input) before now → Ran refusal (Ok s) before now
  ran_refused before now bytes (Done report) here short is read from = absurd is
  ran_refused before now bytes (Usage fault) here short is read from = absurd is
  ran_refused before now bytes InputFault here short is read from = absurd is
  ran_refused before now bytes InputTooLong here short is read from = absurd is
  ran_refused before now bytes OutputFault here short is read from = absurd is
  ran_refused before now bytes NoMemory here short is read from = ran_no_memory before now read
  ran_refused before now bytes (Decode decode.NoMemory) here short is read from = absurd is
  ran_refused before now bytes (Valid valid.NoMemory) here short is read from = absurd is
  ran_refused before now bytes (Exports export.NoMemory) here short is read from = absurd is
  ran_refused before now bytes (Init init.NoMemory) here short is read from = absurd is
  ran_refused before now bytes refusal here short is read from = record {
    done = tt;
    input_fault = tt;
    output_fault = tt;
    stays = (read, from);
    unfinished = tt;
    refusal = refused before now bytes refusal here short is;
    answer = refused_answer before now bytes refusal here short is refl;
  }

-- ---- the output

rose_before : (a b c : ℕ) → a ≤ b → Rose b c → Rose a c
rose_before a b c le rose = omega (arith, le, rose)

failed_before : (side : Side) (name : Name) (before mid now : World) → before.faults ≤ mid.faults → HasFailed side name mid now → HasFailed side name before now
failed_before side name before mid now later failed = record {
  rose = rose_before before.faults mid.faults now.faults later failed.rose;
  opened = failed.opened;
  current = failed.current;
}

holds_before : (output : Name) (right : List ℕ) (before mid now : World) → mid.told ≡ before.told → HoldsPrefix output right mid now → HoldsPrefix output right before now
holds_before output right before mid now same (inl h) = inl (h ∙ same)
holds_before output right before mid now same (inr h) = inr (h.0, h.1 ∙ ap (λ (t : Told). with_output t output (take h.0 right)) same)

-- where an output is asked for, no refusal is
module _ (one : OneVerdict) (s : Settings) (before mid now : World) (bytes right : List ℕ) (report : Report) (here : IsInputFrom before.told s.input bytes)
    (short : length bytes ≤ input_limit) (is : IsVerdict s bytes (Produces report right)) (read : OnlyRead before mid) where
  abbrev target : Name
  target = output_name s.output

  asks : SettingsAsk (Ok s) before.told (Delivers target report right)
  asks = (bytes, here, inr (short, Produces report right, is, refl))

  answer : (outcome : Outcome) → IsAnswer (Delivers target report right) outcome → IsTold (Ok s) before.told → (asked : Asked) → SettingsAsk (Ok s) before.told asked
      → IsAnswer asked outcome
  answer outcome plain there asked wanted =
      subst (λ (a : Asked). IsAnswer a outcome)
      (sym (asks_verdict one s bytes asked (Produces report right) short is (told_asks one s before.told bytes asked here there wanted))) plain

  pub ran_done : HasWritten target right mid now → Ran (Done report) (Ok s) before now
  ran_done wrote = record {
    done = (target, right, asks, record { told = wrote.told ∙ ap (λ (t : Told). with_output t target right) read.told; current = wrote.current });
    refusal = tt;
    input_fault = tt;
    output_fault = tt;
    stays = tt;
    unfinished = tt;
    answer = answer (Done report) tt;
  }

  pub ran_output_fault : HoldsPrefix target right mid now → HasFailed Output target mid now → Ran OutputFault (Ok s) before now
  ran_output_fault holds failed = record {
    done = tt;
    refusal = tt;
    input_fault = tt;
    stays = tt;
    output_fault = (target, report, right, asks, failed_before Output target before mid now read.later failed);
    unfinished = inr (target, report, right, asks, holds_before target right before mid now read.told holds);
    answer = answer OutputFault tt;
  }

-- ---- behind the module's acceptance

module _ (one : OneVerdict) (s : Settings) (before mid : World) (bytes : List ℕ) (here : IsInputFrom before.told s.input bytes)
    (short : length bytes ≤ input_limit) (read : OnlyRead before mid) (from : IsReadFrom (input_name s.input) before mid) where
  stays_so : (now : World) (outcome : Outcome) → now ≡ mid → Ran outcome (Ok s) before mid → Ran outcome (Ok s) before now
  stays_so now outcome same ran = subst (λ (w : World). Ran outcome (Ok s) before w) (sym same) ran

  pub ran_made : (now : World) (outcome : Outcome) → IsMade s bytes outcome mid now → Ran outcome (Ok s) before now
  ran_made now (Done report) h = ran_done one s before mid now bytes h.0 report here short h.1 read h.2
  ran_made now OutputFault h = ran_output_fault one s before mid now bytes h.1 h.0 here short h.2 read h.4 h.3
  ran_made now NoMemory h = stays_so now NoMemory h (ran_no_memory one s before mid read)
  ran_made now outcome h = stays_so now outcome h.1 (ran_refused one s before mid bytes outcome here short h.0 read from)

-- ---- completeness

named_by : Name → Asked → Name
named_by other (Says refusal) = other
named_by other (Delivers output report right) = output

verdict_output : (target : Name) (v : Verdict) (output : Name) (report : Report) (right : List ℕ) → Delivers output report right ≡ asked_by target v → output ≡ target
unfolding named_by
verdict_output target (Declines refusal) output report right e = absurd cc
verdict_output target (Produces made bytes) output report right e = ap (named_by target) e

asked_output : (s : Settings) (told : Told) (output : Name) (report : Report) (right : List ℕ) → SettingsAsk (Ok s) told (Delivers output report right)
    → output ≡ output_name s.output
asked_output s told output report right asks = by_bytes asks.2 where
  by_bytes : BytesAsk s asks.0 (Delivers output report right) → output ≡ output_name s.output
  by_bytes (inl h) = absurd (let e = h.1 in cc)
  by_bytes (inr h) = verdict_output (output_name s.output) h.1 output report right h.3

complete_some : (s : Settings) (outcome : Outcome) (before now : World) (output : Name) → (HasInputFailed s.input before now → ⊥)
    → ¬ (HasFailed Output output before now)
    → IsAnswer (Delivers output (record { ticks = 0; pages = 0; segments = 0; bytes = 0 }) []) outcome → OnInputFault outcome (Ok s) before now
    → (OutputFault ≡ outcome → HasFailed Output output before now) → IsDoneOrNoMemory outcome
complete_some s (Done report) before now output input_well output_well answer input_fault output_fault = tt
complete_some s NoMemory before now output input_well output_well answer input_fault output_fault = tt
complete_some s InputFault before now output input_well output_well answer input_fault output_fault = absurd (input_well input_fault)
complete_some s OutputFault before now output input_well output_well answer input_fault output_fault = absurd (output_well (output_fault refl))
complete_some s outcome before now output input_well output_well answer input_fault output_fault = absurd answer

output_failed : (s : Settings) (outcome : Outcome) (before now : World) (output : Name) (report : Report) (right : List ℕ)
    → OnOutputFault outcome (SettingsAsk (Ok s) before.told) before now
    → SettingsAsk (Ok s) before.told (Delivers output report right) → OutputFault ≡ outcome → HasFailed Output output before now
output_failed s outcome before now output report right fault asked is =
    let f = subst (λ (o : Outcome). OnOutputFault o (SettingsAsk (Ok s) before.told) before now) (sym is) fault in
    subst (λ (name : Name). HasFailed Output name before now)
    (asked_output s before.told f.0 f.1 f.2 f.3 ∙ sym (asked_output s before.told output report right asked)) f.4

-- where an output is asked for and neither device failed, it is made, but for want of memory
pub complete_by : (r : Result Settings UsageFault) (outcome : Outcome) (before now : World) → Ran outcome r before now → IsTold r before.told
    → IsComplete outcome r (SettingsAsk r before.told) before now
complete_by (Err fault) outcome before now ran told output report right asked input_well output_well = absurd cc
complete_by (Ok s) outcome before now ran told output report right asked input_well output_well =
    complete_some s outcome before now output input_well output_well (ran.answer told _ asked) ran.input_fault
    (output_failed s outcome before now output report right ran.output_fault asked)
