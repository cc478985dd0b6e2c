use Rattle.std.proofs.Common.{◌<◌, ◌∷◌, [], length, sym, ap, ◌∙◌, rules, arith}
use Rattle.std.proofs.lemmas.Bool.{false≢true}
use Rattle.std.proofs.lemmas.List.{length-append}
use Rattle.std.specs.Prelude.{vec_len}
use Rattle.wz_code.specs.BodyParts.{BodyParts, Blocks, with_block}
use Rattle.wz_code.proofs.BuildLemmas.{counted-several, noted-several, length-blocks_of, counted-block, blocks-block}
use Rattle.wz_code.proofs.builder.BodyBuilder.add_block.Goals as goal

pub overflow_cast-number : goal.overflow_cast-number
overflow_cast-number c =
    let b = c.self.inside in
    let some : 0 < vec_len b.counts = search rules in
    let size = length-blocks_of b.code.items b.settled b.added.items b.counts.items (omega (arith, b.counts.ok.0)) in
    omega (arith, c.len-number.ensures, size, b.counts.ok.0, ap (λ (b : BodyParts). length b.blocks) c.self.view_is, c.requires)

pub invariant_of-self-2 : goal.invariant_of-self-2
invariant_of-self-2 c =
    let b = c.self.inside in
    let some : 0 < vec_len b.counts = search rules in
    let several : 0 < length b.counts.items = omega (arith, b.counts.ok.0) in
    let counted = counted-several b.code.items b.settled b.added.items b.counts.items several c.self.invariant.noted in
    let size = length-append b.counts.items (0 ∷ []) in
    let made = c.in_ok-make_place.ensures.made in
    rw c.in_ok-push.ensures.items
    (record {
      noted = noted-several _ _ _ _ (omega (arith, size, several)) (counted-block b.code.items b.settled b.added.items b.counts.items several counted);
      place = record {
        one_block = λ none. absurd (false≢true (sym none ∙ made));
        no_locals = λ none. absurd (false≢true (sym none ∙ made));
        no_labels = λ none. absurd (false≢true (sym none ∙ made));
        no_types = λ none. absurd (false≢true (sym none ∙ made));
      };
    })

pub returns-clause-number : goal.returns-clause-number
returns-clause-number c =
    let b = c.self.inside in
    let some : 0 < vec_len b.counts = search rules in
    let size = length-blocks_of b.code.items b.settled b.added.items b.counts.items (omega (arith, b.counts.ok.0)) in
    omega (arith, c.len-number.ensures, size, b.counts.ok.0, ap (λ (b : BodyParts). length b.blocks) c.self.view_is)

pub returns-clause-added : goal.returns-clause-added
returns-clause-added c =
    let b = c.self.inside in
    let some : 0 < vec_len b.counts = search rules in
    let several : 0 < length b.counts.items = omega (arith, b.counts.ok.0) in
    let counted = counted-several b.code.items b.settled b.added.items b.counts.items several c.self.invariant.noted in
    rw c.in_ok-push.ensures.items
    (ap (λ (bs : Blocks). let p : BodyParts = record { locals = b.locals.items; blocks = bs; labels = b.labels.items; types = b.types.items } in p)
    (blocks-block b.code.items b.settled b.added.items b.counts.items several counted)
    ∙ ap (λ (p : BodyParts). with_block p) c.self.view_is)
