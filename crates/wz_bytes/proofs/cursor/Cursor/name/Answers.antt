use Rattle.std.proofs.Common.{sym, ap, ◌∙◌, arith, subst}
use Rattle.wz_bytes.specs.Reading.{Front}
use Rattle.wz_bytes.specs.Name.{IsName, name_at}
use Rattle.wz_bytes.specs.Place.{Place}
use Rattle.wz_bytes.proofs.ReadingLemmas.{none_stands, rest_no_longer}
use Rattle.wz_bytes.proofs.NameLaws.{name_exact}
use Rattle.wz_bytes.proofs.cursor.Cursor.name.Goals as goal

pub returns-in_err-name-clause-none : goal.returns-in_err-name-clause-none
returns-in_err-name-clause-none c = λ _. none_stands IsName (λ b. name_at b) name_exact c.args.self.now.left
    (ap (λ (p : Place). name_at p.left) (sym c.self.view_is) ∙ sym c.in_err-name.ensures)

pub invariant_of-self : goal.invariant_of-self
invariant_of-self c =
    let front = name_exact.found c.self.inside.left.now c.in_ok-name.name.now c.in_ok-name.rest.now (sym c.in_ok-name.ensures) in
    omega (arith, c.self.invariant, rest_no_longer IsName _ _ _ front)

pub returns-clause-found : goal.returns-clause-found
returns-clause-found c =
    let front = name_exact.found c.self.inside.left.now c.in_ok-name.name.now c.in_ok-name.rest.now (sym c.in_ok-name.ensures) in
    (subst (λ (p : Place). Front IsName p.left c.in_ok-name.name.now c.in_ok-name.rest.now) c.self.view_is front, ap (λ (p : Place). p.total) c.self.view_is)
