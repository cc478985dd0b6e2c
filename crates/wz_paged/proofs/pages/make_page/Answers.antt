use Rattle.std.proofs.Common.{◌∙◌, ap, []}
use Rattle.std.proofs.lemmas.List.{get_or_default}
use Rattle.wz_paged.specs.Pages.{memory_of_page}
use Rattle.wz_paged.proofs.PageLemmas.{pages_same}
use Rattle.wz_paged.proofs.pages.make_page.Goals as goal

pub returns-clause-same : goal.returns-clause-same
returns-clause-same c =
    let here = get_or_default c.args.pages.now c.args.i c.index-pages-i.result [] c.requires in
    pages_same 65536 c.args.pages.now c.args.i c.make.new.self c.requires (c.make.ensures.same ∙ ap memory_of_page here)
