use Rattle.std.proofs.Common.{◌≡◌, ◌<◌, ◌^◌, length, sym, ap, subst, ◌∙◌, arith}
use Rattle.std.specs.Prelude.{sum}
use Rattle.std.proofs.lemmas.List.Sums.{sum-map}
use Rattle.wz_io.specs.World.{Name, HasFailed}
use Rattle.wz_io.specs.declared.files.Side.TheVariants.{Output}
use Rattle.wz_module.specs.Meaning.{module_of}
use Rattle.wz_words.specs.Settings.{settings_of}
use Rattle.wz_store.specs.State.{pages_of}
use Rattle.wz_snapshot.specs.Recorded.{RecordedState, chosen_segments}
use Rattle.wz_init.specs.States.{state_in}
use Rattle.wz_rewrite.specs.OutputState.{HasRanges, output_state}
use Rattle.wz_rewrite.specs.Output.{output_bytes}
use Rattle.wz_rewrite.specs.Pieces.{pieces_text}
use Rattle.wz_top.specs.Devices.{HasWritten, HoldsPrefix}
use Rattle.wz_top.proofs.ReachLemmas.{can_write, pages_fit}
use Rattle.wz_top.proofs.MakingLemmas.{done_made, fault_made, report_is}
use Rattle.wz_top.proofs.making.write_out.Goals as goal

pub snapshot-requires-clause-few : goal.snapshot-requires-clause-few
snapshot-requires-clause-few g c =
    let run = c.requires.run in
    (can_write c.reached_states.ensures.fresh c.reached_states.ensures.run c.chosen_segments.ensures.few c.chosen_segments.ensures.ranges
    c.input_is_spelled.ensures.elements c.input_is_spelled.ensures.order _ run.0 _ _ _ _ run.1).few

pub prepare-requires-clause-code : goal.prepare-requires-clause-code
prepare-requires-clause-code g c =
    let run = c.requires.run in
    (can_write c.reached_states.ensures.fresh c.reached_states.ensures.run c.chosen_segments.ensures.few c.chosen_segments.ensures.ranges
    c.input_is_spelled.ensures.elements c.input_is_spelled.ensures.order _ run.0 _ _ _ _ run.1).code

pub prepare-requires-clause-elements : goal.prepare-requires-clause-elements
prepare-requires-clause-elements g c =
    let run = c.requires.run in
    (can_write c.reached_states.ensures.fresh c.reached_states.ensures.run c.chosen_segments.ensures.few c.chosen_segments.ensures.ranges
    c.input_is_spelled.ensures.elements c.input_is_spelled.ensures.order _ run.0 _ _ _ _ run.1).elements

pub prepare-requires-clause-globals : goal.prepare-requires-clause-globals
prepare-requires-clause-globals g c =
    let run = c.requires.run in
    let can = can_write c.reached_states.ensures.fresh c.reached_states.ensures.run c.chosen_segments.ensures.few c.chosen_segments.ensures.ranges
    c.input_is_spelled.ensures.elements c.input_is_spelled.ensures.order _ run.0 _ _ _ _ run.1 in
    can.globals ∙ ap (λ (r : RecordedState). length r.globals) (sym c.in-Ok.ensures)

pub pages_together-pages-requires : goal.pages_together-pages-requires
pages_together-pages-requires g c =
    let run = c.requires.run in
    let can = can_write c.reached_states.ensures.fresh c.reached_states.ensures.run c.chosen_segments.ensures.few c.chosen_segments.ensures.ranges
    c.input_is_spelled.ensures.elements c.input_is_spelled.ensures.order _ run.0 _ _ _ _ run.1 in
    subst (λ (r : RecordedState). sum r.pages < 2 ^ 32) (sym c.in-Ok.ensures) (pages_fit c.args.reached.now.store can.small)

pub overflow_cast-segments : goal.overflow_cast-segments
overflow_cast-segments g c =
    let run = c.requires.run in
    let can = can_write c.reached_states.ensures.fresh c.reached_states.ensures.run c.chosen_segments.ensures.few c.chosen_segments.ensures.ranges
    c.input_is_spelled.ensures.elements c.input_is_spelled.ensures.order _ run.0 _ _ _ _ run.1 in
    let few = can.segments in
    let chosen : length c.segments-chosen.result.now ≡ length (chosen_segments c.args.reached.now.store.memories)
    = ap (λ xs. length xs) c.segments-chosen.ensures ∙ ap (λ (r : RecordedState). length r.segments) c.in-Ok.ensures in
    omega (arith, few, chosen)

pub returns-in-Ok-deliver-clause-made : goal.returns-in-Ok-deliver-clause-made
returns-in-Ok-deliver-clause-made g c = λ bytes run.
    let s = settings_of c.args.settings.now in
    let m = module_of c.args.accepted.now in
    let k = c.args.kept.now in
    let store = c.args.reached.now.store in
    let can = can_write c.reached_states.ensures.fresh c.reached_states.ensures.run c.chosen_segments.ensures.few c.chosen_segments.ensures.ranges
    c.input_is_spelled.ensures.elements c.input_is_spelled.ensures.order s bytes m k store c.args.reached.now.ticks run in
    let text = pieces_text store.memories c.in-Ok-prepare.output in
    let ranges = subst (λ (r : RecordedState). HasRanges store.memories r.segments) (sym c.in-Ok.ensures) can.ranges in
    let is = c.in-Ok-prepare.ensures.bytes store.memories ranges ∙ ap (λ (r : RecordedState). output_bytes m (output_state m r store.memories k)) c.in-Ok.ensures in
    let pages = c.pages_together-pages.ensures ∙ ap (λ (r : RecordedState). sum r.pages) c.in-Ok.ensures ∙ sum-map pages_of store.memories in
    let segments = ap (λ xs. length xs) c.segments-chosen.ensures ∙ ap (λ (r : RecordedState). length r.segments) c.in-Ok.ensures in
    done_made s bytes m k store c.args.reached.now.ticks run text is (g.F.Files.world c.args.files.now) (g.F.Files.world c.deliver.new.files) _
    (report_is (state_in m store) c.args.reached.now.ticks c.pages_together-pages.result (length c.segments-chosen.result.now) c.in-Ok-deliver.bytes text
    pages segments c.in-Ok-deliver.ensures.count)
    (subst (λ (n : Name). HasWritten n text (g.F.Files.world c.args.files.now) (g.F.Files.world c.deliver.new.files)) c.file_name.ensures c.in-Ok-deliver.ensures.done)

pub returns-in-Err-Failed-clause-made : goal.returns-in-Err-Failed-clause-made
returns-in-Err-Failed-clause-made g c = λ bytes run.
    let s = settings_of c.args.settings.now in
    let m = module_of c.args.accepted.now in
    let k = c.args.kept.now in
    let store = c.args.reached.now.store in
    let can = can_write c.reached_states.ensures.fresh c.reached_states.ensures.run c.chosen_segments.ensures.few c.chosen_segments.ensures.ranges
    c.input_is_spelled.ensures.elements c.input_is_spelled.ensures.order s bytes m k store c.args.reached.now.ticks run in
    let text = pieces_text store.memories c.in-Ok-prepare.output in
    let ranges = subst (λ (r : RecordedState). HasRanges store.memories r.segments) (sym c.in-Ok.ensures) can.ranges in
    let is = c.in-Ok-prepare.ensures.bytes store.memories ranges ∙ ap (λ (r : RecordedState). output_bytes m (output_state m r store.memories k)) c.in-Ok.ensures in
    let before = g.F.Files.world c.args.files.now in
    let now = g.F.Files.world c.deliver.new.files in
    fault_made s bytes m k store c.args.reached.now.ticks run text is before now
    (subst (λ (n : Name). HasFailed Output n before now) c.file_name.ensures (let failed = c.in-Err-Failed.field-0-is in c.in-Err-Failed.ensures.failed cc))
    (subst (λ (n : Name). HoldsPrefix n text before now) c.file_name.ensures c.in-Err-Failed.ensures.prefix)
