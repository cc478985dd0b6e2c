use Rattle.std.proofs.Common.{◌≡◌, ◌∙◌, ap, sym, arith, length, get_or}
use Rattle.std.proofs.lemmas.Grind.{common_steps}
use Rattle.wz_paged.proofs.PageLemmas.{page_made, get_or-page_absent}
use Rattle.wz_paged.proofs.page.Page.byte_at.Goals as goal

pub returns-then-is_made : goal.returns-then-is_made
returns-then-is_made c =
    let full : length c.args.self.now ≡ 65536 = grind arith in
    let here : c.index.result.now ≡ get_or c.args.self.now c.args.at 0 = grind (arith, common_steps) in
    here ∙ sym (ap (λ p. get_or p c.args.at 0) (page_made 65536 c.args.self.now full))

pub returns-else-is_made : goal.returns-else-is_made
returns-else-is_made c =
    let none : length c.args.self.now ≡ 0 = grind arith in
    sym (get_or-page_absent 65536 c.args.self.now c.args.at 0 none (omega arith))
