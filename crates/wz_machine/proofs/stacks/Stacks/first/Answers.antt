use Rattle.std.proofs.Common.{◌≡◌, ◌∙◌, ◌∷◌, sym, rules}
use Rattle.wz_machine.proofs.PeekLemmas.{first-shown, none-shown}
use Rattle.wz_machine.proofs.stacks.Stacks.first.Goals as goal

pub returns-in-Some : goal.returns-in-Some
returns-in-Some c =
    let e : c.args.self.now.top.rest ≡ c.in-Some.instr ∷ c.in-Some.field-0-1.now = search rules in
    first-shown c.args.self.now c.in-Some.instr c.in-Some.field-0-1.now e

pub returns-in-None : goal.returns-in-None
returns-in-None c = none-shown c.args.self.now (sym c.innermost-top.ensures.rest ∙ c.in-None.ensures)
