-- Before the first store there is none, and each turn draws one number and stores by it.
use Rattle.std.proofs.Common.{◌≡◌, ◌++◌, refl, ap, sym, ◌∙◌, arith}
use Rattle.std.proofs.lemmas.List.{append-nil}
use Rattle.wz_gen.specs.Sample.{draw_at, sample_stores, sample_store}
use Rattle.wz_gen.proofs.SampleLemmas.{drawn_next, stored_next}
use Rattle.wz_gen.proofs.sample_module.put_stores.Goals as goal

pub loop-stored-init : goal.loop-stored-init
unfolding draw_at sample_stores
loop-stored-init c = record { stored = sym (append-nil _); drawn = refl; below = omega arith }

pub loop-stored-preserved : goal.loop-stored-preserved
loop-stored-preserved c =
    let i = c.loop-stored.stored in
    let before = c.loop-stored.invariant in
    let drawn = c.next_draw-draw.ensures.value in
    let stored = c.in_ok-put_store.ensures in
    record {
      stored = stored ∙ ap (λ d. c.loop-stored.out.items ++ sample_store d) drawn
          ∙ stored_next c.args.number i c.loop-stored.draw c.args.out.now.items c.loop-stored.out.items before.drawn before.stored;
      drawn = drawn ∙ drawn_next c.args.number i c.loop-stored.draw before.drawn;
      below = c.next_draw-draw.ensures.below;
    }
