use Rattle.std.proofs.Common.{◌≡◌, ℕ, ◌<◌, List, [], ◌∷◌, IsTrue, All, length, subst}
use Rattle.std.specs.Prelude.{◌↔◌}
use Rattle.wz_valid.proofs.hand_made.are_few.Goals as goal

pub returns : goal.returns
returns c =
    let p = c.args.parts.now in
    let same :
    c.len.result ∷ c.len-2.result ∷ c.len-3.result ∷ c.len-4.result ∷ c.len-5.result ∷ c.len-6.result ∷ c.len-7.result ∷ c.len-8.result ∷ c.len-9.result
    ∷ c.len-10.result ∷ c.len-11.result ∷ []
    ≡ length p.imports.items ∷ length p.functions.items ∷ length p.tables.items ∷ length p.memories.items ∷ length p.globals.items
    ∷ length p.sections.items ∷ length p.types.items ∷ length p.exports.items ∷ length p.elements.items ∷ length p.bodies.items ∷ length p.datas.items ∷ [] = cc in
    subst (λ (counts : List ℕ). IsTrue c.all_few.result ↔ All (λ count. count < 1000) counts) same c.all_few.ensures
