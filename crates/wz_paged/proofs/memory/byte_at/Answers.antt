use Rattle.std.proofs.Common.{◌/◌, ◌%◌, ◌<◌, ◌∙◌, ap, sym, arith, length, get_or, []}
use Rattle.std.proofs.lemmas.List.{get_or_read}
use Rattle.wz_paged.specs.Pages.{memory_of_page}
use Rattle.wz_paged.proofs.PageLemmas.{get_or-pages}
use Rattle.wz_paged.proofs.memory.byte_at.Goals as goal

pub returns : goal.returns
returns c =
    let within : c.args.at / 65536 < length c.args.pages.now = omega arith in
    let here = get_or_read c.args.pages.now (c.args.at / 65536) c.index-pages-at.result within c.index-pages-at.is [] in
    c.byte_at.ensures
    ∙ ap (λ p. get_or (memory_of_page p) (c.args.at % 65536) 0) here
    ∙ sym (get_or-pages 65536 c.args.pages.now c.args.at (c.args.at / 65536) (c.args.at % 65536) (omega arith) (omega arith) within)
