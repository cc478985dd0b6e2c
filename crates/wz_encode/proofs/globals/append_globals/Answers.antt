use Rattle.std.proofs.Common.{ℕ, ◌++◌, length, get_or, take, arith, ap, sym, ◌∙◌, append_assoc}
use Rattle.std.specs.List.{flat_map, zip}
use Rattle.std.specs.Iterator.Adapters.{zip_first, zip_second}
use Rattle.std.specs.Slice.Iter.{iter_rest}
use Rattle.std.proofs.lemmas.List.{length-append}
use Rattle.std.proofs.lemmas.Slice.Zip.{zip_turn, zip_end}
use Rattle.wz_bytes.specs.Shortest.{shortest_unsigned}
use Rattle.wz_types.specs.declared.types.GlobalType.{GlobalType}
use Rattle.wz_types.specs.declared.value.Value.{Value}
use Rattle.wz_encode.specs.Globals.{global_text}
use Rattle.wz_encode.proofs.WriterLemmas.{front_kept_in_loop, one_global_more, all_globals}
use Rattle.wz_encode.proofs.globals.append_globals.Goals as goal

pub loop-kind-preserved : goal.loop-kind-preserved
loop-kind-preserved c =
    let kinds = c.args.kinds.now in
    let values = c.args.values.now in
    let old = c.args.out.now.items in
    let out = c.loop-kind.out.items in
    let count = shortest_unsigned (length kinds) in
    let at = length c.loop-kind.yielded in
    let kind = c.in-Some.kind.now in
    let value = c.in-Some.value.now in
    let zipped = c.into_iter-kind-iterator.ensures.into_iter_gives in
    let first = ap (λ z. iter_rest (zip_first z)) zipped ∙ ap (λ i. iter_rest i) c.zip-kind-items.ensures.first ∙ c.iter.ensures.rest in
    let second = ap (λ z. iter_rest (zip_second z)) zipped ∙ c.zip-kind-items.ensures.second.0 in
    let turn = zip_turn kinds values c.loop-kind.yielded _ _ c.next.new.self c.next.result first second c.loop-kind.yielded_by _ c.in-Some.is c.next.ensures.steps in
    let here = ap (λ (k : GlobalType). out ++ global_text (k, value)) (turn.2 kind) ∙ ap (λ (v : Value). out ++ global_text (get_or kinds at kind, v)) (turn.3 value) in
    let more = one_global_more kinds values at (old ++ count) out c.append_global.new.out.items kind value turn.0 c.requires
    (c.loop-kind.invariant ∙ sym (append_assoc old count _)) (c.in_ok-append_global.ensures.ok ∙ here) in
    more ∙ append_assoc old count _
    ∙ ap (λ (n : ℕ). old ++ (count ++ flat_map global_text (take n (zip kinds values)))) (sym (length-append c.loop-kind.yielded _))

pub returns-in_err-append_global-clause-err : goal.returns-in_err-append_global-clause-err
returns-in_err-append_global-clause-err c =
    front_kept_in_loop c.from_residual-in_err-append_global.result c.args.out.now.items _ c.loop-kind.out.items c.append_global.new.out.items
    c.loop-kind.invariant c.in_err-append_global.ensures.err

pub returns-clause-ok : goal.returns-clause-ok
returns-clause-ok c =
    let kinds = c.args.kinds.now in
    let values = c.args.values.now in
    let zipped = c.into_iter-kind-iterator.ensures.into_iter_gives in
    let first = ap (λ z. iter_rest (zip_first z)) zipped ∙ ap (λ i. iter_rest i) c.zip-kind-items.ensures.first ∙ c.iter.ensures.rest in
    let second = ap (λ z. iter_rest (zip_second z)) zipped ∙ c.zip-kind-items.ensures.second.0 in
    let end = zip_end kinds values c.loop-kind.yielded _ _ c.next.new.self c.next.result first second c.loop-kind.yielded_by c.in-None.is c.next.ensures.steps in
    let same = c.requires in
    all_globals kinds values (length c.loop-kind.yielded) c.args.out.now.items c.loop-kind.out.items (omega (arith, end, same)) c.requires c.loop-kind.invariant
