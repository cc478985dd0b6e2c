use Rattle.std.proofs.Common.{◌+◌, ◌<◌, length, get_or, sym, ap, subst, ◌∙◌, rules, arith}
use Rattle.std.proofs.lemmas.Result.{err_from_is_err_and}
use Rattle.std.proofs.lemmas.List.{get_or_read, length-set}
use Rattle.std.specs.Prelude.{vec_len}
use Rattle.wz_code.specs.BodyParts.{BodyParts, Blocks, block_at, with_instr}
use Rattle.wz_code.proofs.BuildLemmas.{several-at, noted-several, counted-room, counted-instr, blocks-instr, blocks-room}
use Rattle.wz_code.proofs.builder.BodyBuilder.add_instr.Goals as goal

pub index-number-requires : goal.index-number-requires
index-number-requires c =
    let b = c.self.inside in
    let some : 0 < vec_len b.counts = search rules in
    let there = subst (λ (b : BodyParts). c.args.block < length b.blocks) (sym c.self.view_is) c.requires.there in
    let s = several-at b.code.items b.settled b.added.items b.counts.items c.args.block (omega (arith, b.counts.ok.0)) there c.self.invariant.noted in
    omega (arith, s.there, b.counts.ok.0)

pub index_mut-requires : goal.index_mut-requires
index_mut-requires c =
    let b = c.self.inside in
    let some : 0 < vec_len b.counts = search rules in
    let there = subst (λ (b : BodyParts). c.args.block < length b.blocks) (sym c.self.view_is) c.requires.there in
    let s = several-at b.code.items b.settled b.added.items b.counts.items c.args.block (omega (arith, b.counts.ok.0)) there c.self.invariant.noted in
    omega (arith, s.there, b.counts.ok.0)

pub invariant_of-self-in_err-push-3 : goal.invariant_of-self-in_err-push-3
invariant_of-self-in_err-push-3 c =
    let b = c.self.inside in
    let some : 0 < vec_len b.counts = search rules in
    let several : 0 < length b.counts.items = omega (arith, b.counts.ok.0) in
    let there = subst (λ (b : BodyParts). c.args.block < length b.blocks) (sym c.self.view_is) c.requires.there in
    let s = several-at b.code.items b.settled b.added.items b.counts.items c.args.block several there c.self.invariant.noted in
    rw (c.in_ok-push-2.ensures.items, c.in_err-push-3.ensures.items)
    (record {
      noted = noted-several _ _ _ _ several (counted-room b.code.items b.settled b.added.items b.counts.items c.args.instr s.counted);
      place = c.self.invariant.place;
    })

pub returns-in_err-push-3-clause-err : goal.returns-in_err-push-3-clause-err
returns-in_err-push-3-clause-err c =
    let b = c.self.inside in
    let some : 0 < vec_len b.counts = search rules in
    let several : 0 < length b.counts.items = omega (arith, b.counts.ok.0) in
    let there = subst (λ (b : BodyParts). c.args.block < length b.blocks) (sym c.self.view_is) c.requires.there in
    let s = several-at b.code.items b.settled b.added.items b.counts.items c.args.block several there c.self.invariant.noted in
    let p = err_from_is_err_and c.from_residual-in_err-push-3.result c.from_residual-in_err-push-3.ensures.1 in
    rw (p.1, c.in_ok-push-2.ensures.items, c.in_err-push-3.ensures.items)
    (ap (λ (bs : Blocks). let p : BodyParts = record { locals = b.locals.items; blocks = bs; labels = b.labels.items; types = b.types.items } in p)
    (blocks-room b.code.items b.settled b.added.items b.counts.items c.args.instr several (omega (arith, s.counted.room)))
    ∙ c.self.view_is)

pub overflow_add-number : goal.overflow_add-number
overflow_add-number c =
    let b = c.self.inside in
    let some : 0 < vec_len b.counts = search rules in
    let there = subst (λ (b : BodyParts). c.args.block < length b.blocks) (sym c.self.view_is) c.requires.there in
    let s = several-at b.code.items b.settled b.added.items b.counts.items c.args.block (omega (arith, b.counts.ok.0)) there c.self.invariant.noted in
    let is = get_or_read b.counts.items c.args.block c.index-number.result.now s.there c.index-number.ensures 0 in
    omega (arith, is, s.number, ap (λ (b : BodyParts). length (block_at b.blocks c.args.block)) c.self.view_is, c.requires.room)

pub overflow_cast-result : goal.overflow_cast-result
overflow_cast-result c =
    let b = c.self.inside in
    let some : 0 < vec_len b.counts = search rules in
    let there = subst (λ (b : BodyParts). c.args.block < length b.blocks) (sym c.self.view_is) c.requires.there in
    let s = several-at b.code.items b.settled b.added.items b.counts.items c.args.block (omega (arith, b.counts.ok.0)) there c.self.invariant.noted in
    let is = get_or_read b.counts.items c.args.block c.index-number.result.now s.there c.index-number.ensures 0 in
    omega (arith, is, s.number, ap (λ (b : BodyParts). length (block_at b.blocks c.args.block)) c.self.view_is, c.requires.room)

pub invariant_of-self-2 : goal.invariant_of-self-2
invariant_of-self-2 c =
    let b = c.self.inside in
    let some : 0 < vec_len b.counts = search rules in
    let several : 0 < length b.counts.items = omega (arith, b.counts.ok.0) in
    let there = subst (λ (b : BodyParts). c.args.block < length b.blocks) (sym c.self.view_is) c.requires.there in
    let s = several-at b.code.items b.settled b.added.items b.counts.items c.args.block several there c.self.invariant.noted in
    let is = get_or_read b.counts.items c.args.block c.index-number.result.now s.there c.index-number.ensures 0 in
    let size = length-set b.counts.items c.args.block (get_or b.counts.items c.args.block 0 + 1) in
    rw (c.in_ok-push-2.ensures.items, c.in_ok-push-3.ensures.items, is)
    (record {
      noted = noted-several _ _ _ _ (omega (arith, size, several))
          (counted-instr b.code.items b.settled b.added.items b.counts.items c.args.block c.args.instr c.args.instr s.there s.counted);
      place = record {
        one_block = λ none. size ∙ c.self.invariant.place.one_block none;
        no_locals = c.self.invariant.place.no_locals;
        no_labels = c.self.invariant.place.no_labels;
        no_types = c.self.invariant.place.no_types;
      };
    })

pub returns-clause-number : goal.returns-clause-number
returns-clause-number c =
    let b = c.self.inside in
    let some : 0 < vec_len b.counts = search rules in
    let there = subst (λ (b : BodyParts). c.args.block < length b.blocks) (sym c.self.view_is) c.requires.there in
    let s = several-at b.code.items b.settled b.added.items b.counts.items c.args.block (omega (arith, b.counts.ok.0)) there c.self.invariant.noted in
    let is = get_or_read b.counts.items c.args.block c.index-number.result.now s.there c.index-number.ensures 0 in
    is ∙ s.number ∙ ap (λ (b : BodyParts). length (block_at b.blocks c.args.block)) c.self.view_is

pub returns-clause-added : goal.returns-clause-added
returns-clause-added c =
    let b = c.self.inside in
    let some : 0 < vec_len b.counts = search rules in
    let several : 0 < length b.counts.items = omega (arith, b.counts.ok.0) in
    let there = subst (λ (b : BodyParts). c.args.block < length b.blocks) (sym c.self.view_is) c.requires.there in
    let s = several-at b.code.items b.settled b.added.items b.counts.items c.args.block several there c.self.invariant.noted in
    rw (c.in_ok-push-2.ensures.items, c.in_ok-push-3.ensures.items)
    (ap (λ (bs : Blocks). let p : BodyParts = record { locals = b.locals.items; blocks = bs; labels = b.labels.items; types = b.types.items } in p)
    (blocks-instr b.code.items b.settled b.added.items b.counts.items c.args.block (c.index-number.result.now + 1)
    c.args.instr c.args.instr s.there (omega (arith, s.counted.room)))
    ∙ ap (λ (p : BodyParts). with_instr p c.args.block c.args.instr) c.self.view_is)
