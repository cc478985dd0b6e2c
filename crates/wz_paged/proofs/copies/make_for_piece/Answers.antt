use Rattle.std.proofs.Common.{◌≡◌, ◌/◌, ◌%◌, ◌∙◌, ap, subst, sym, arith, rules, length, get_or, []}
use Rattle.std.proofs.lemmas.List.{get_or_default, get_or_read}
use Rattle.std.specs.List.{All}
use Rattle.wz_linear.specs.Bytes.{part}
use Rattle.wz_linear.proofs.WriteLemmas.{length-part}
use Rattle.wz_paged.specs.Pages.{memory_of_page, memory_of}
use Rattle.wz_paged.proofs.PageLemmas.{part_pages, length-memory_of, pages_same, ready_all, ready_full, ready_set}
use Rattle.wz_paged.proofs.copies.make_for_piece.Goals as goal

pub returns-then-has_zeros-clause-ready : goal.returns-then-has_zeros-clause-ready
returns-then-has_zeros-clause-ready c =
    let here = get_or_default c.args.pages.now (c.args.from / 65536) c.index-pages-from.result [] c.requires.from in
    let same : part (memory_of c.args.pages.now) c.args.from c.args.count ≡ part (memory_of_page (get_or c.args.pages.now (c.args.from / 65536) c.index-pages-from.result))
    (c.args.from % 65536) c.args.count =
    part_pages 65536 c.args.pages.now c.args.from (c.args.from / 65536) (c.args.from % 65536) c.args.count (omega arith) c.requires.from_inside c.requires.from
    ∙ ap (λ p. part (memory_of_page p) (c.args.from % 65536) c.args.count) (sym here) in
    ready_all c.args.pages.now c.args.to (part (memory_of c.args.pages.now) c.args.from c.args.count)
    (subst (λ bytes. All (λ byte. byte ≡ 0) bytes) (sym same) (search rules))

pub returns-clause-same : goal.returns-clause-same
returns-clause-same c =
    let here = get_or_default c.args.pages.now (c.args.to / 65536) c.index-pages-to-2.result [] c.requires.to in
    pages_same 65536 c.args.pages.now (c.args.to / 65536) c.make.new.self c.requires.to (c.make.ensures.same ∙ ap memory_of_page here)

pub returns-clause-ready : goal.returns-clause-ready
returns-clause-ready c =
    let long = length-part (memory_of c.args.pages.now) c.args.from c.args.count (omega (arith, length-memory_of c.args.pages.now)) in
    ready_set c.args.pages.now c.args.to c.make.new.self (part (memory_of c.args.pages.now) c.args.from c.args.count) c.requires.to (omega arith) c.in_ok-make.ensures.made

pub returns-then-is_made-clause-ready : goal.returns-then-is_made-clause-ready
returns-then-is_made-clause-ready c =
    let here = get_or_read c.args.pages.now (c.args.to / 65536) c.index-pages-to.result c.requires.to c.index-pages-to.is [] in
    let long = length-part (memory_of c.args.pages.now) c.args.from c.args.count (omega (arith, length-memory_of c.args.pages.now)) in
    let full : length c.index-pages-to.result ≡ 65536 = search rules in
    ready_full c.args.pages.now c.args.to (part (memory_of c.args.pages.now) c.args.from c.args.count) (omega arith) (sym (ap length here) ∙ full)
