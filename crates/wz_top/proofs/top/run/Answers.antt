use Rattle.std.proofs.Common.{List, subst, sym}
use Rattle.std.specs.Prelude.{Result, IsUtf8}
use Rattle.std.specs.List.{All}
use Rattle.wz_words.specs.declared.settings.Rename.{Rename}
use Rattle.wz_words.specs.declared.settings.Usage.{Usage as UsageFault}
use Rattle.wz_words.specs.Settings.{Settings, settings_of}
use Rattle.wz_words.specs.Faults.{settings}
use Rattle.wz_top.specs.PreInitialised.{GiveNames, OnPreInitialised}
use Rattle.wz_top.specs.declared.outcome.Outcome.{Outcome}
use Rattle.wz_top.proofs.SampleLaws.{small_sample}
use Rattle.wz_top.proofs.HeadlineLaws.{usage_headline, headline_by}
use Rattle.wz_top.proofs.top.run.Goals as goal

pub carry_out-requires-clause-small : goal.carry_out-requires-clause-small
carry_out-requires-clause-small g c = small_sample c.args.words.now (settings_of c.in-Ok.settings) c.in-Ok.ensures.asked

pub carry_out-requires-clause-renames : goal.carry_out-requires-clause-renames
carry_out-requires-clause-renames g c = c.renames_differ.ensures.to c.args.words.now (settings_of c.in-Ok.settings) c.in-Ok.ensures.asked

pub returns-in-Err-clause-headline : goal.returns-in-Err-clause-headline
returns-in-Err-clause-headline g c =
    let w = g.F.Files.world c.args.files.now in
    subst (λ (o : Outcome). OnPreInitialised o (settings c.args.words.now) w w) (sym c.usage_outcome.ensures)
    (usage_headline c.in-Err.fault (settings c.args.words.now) w w)

pub returns-clause-headline : goal.returns-clause-headline
returns-clause-headline g c =
    let s = settings_of c.in-Ok.settings in
    let words = c.args.words.now in
    let asked = c.in-Ok.ensures.asked in
    let before = g.F.Files.world c.args.files.now in
    let now = g.F.Files.world c.carry_out.new.files in
    let texts = subst (λ (renames : List Rename). All (λ rename. IsUtf8 rename.dst) renames) c.deref.ensures.value c.names_are_texts.ensures in
    let names : GiveNames s.renames = record {
      differ = c.renames_differ.ensures.to words s asked;
      texts = texts;
      short = c.renames_are_short.ensures words s asked;
    } in
    subst (λ (r : Result Settings UsageFault). OnPreInitialised c.carry_out.result r before now) (sym asked)
    (headline_by c.output_is_pre_initialised.ensures s c.carry_out.result before now names c.carry_out.ensures.ran)
