use Rattle.std.proofs.Common.{◌<◌, List, ℕ, length, Some, refl, sym, ap, ◌∙◌, arith}
use Rattle.wz_decode_code.proofs.TypeLaws.{one_off, type_first, type_first_none}
use Rattle.wz_decode_code.proofs.types.take_type.Goals as goal

pub returns-in_default-clause-exact : goal.returns-in_default-clause-exact
returns-in_default-clause-exact c =
    let size = ap (λ (l : List ℕ). length l) c.left.ensures in
    (type_first_none _ (λ some. absurd (omega (arith, some, size, c.in_default.len_below))), refl)

pub returns-in_default-type_of-clause-exact : goal.returns-in_default-type_of-clause-exact
returns-in_default-type_of-clause-exact c = (type_first_none _ (λ some. rw (sym c.left.ensures) (sym c.in_default-type_of.ensures)), refl)

pub returns-clause-exact : goal.returns-clause-exact
returns-clause-exact c =
    let size = ap (λ (l : List ℕ). length l) c.left.ensures in
    let some : 0 < length c.args.cursor.now.left = omega (arith, size, c.in-len1-up.len_at_least) in
    let off = one_off c.byte.result c.args.cursor.now c.byte.new.self c.byte.ensures.found c.byte.ensures.none some in
    let read = type_first c.args.cursor.now.left c.in-Some.kind some (rw (sym c.left.ensures) (sym c.in-Some.ensures)) in
    (read ∙ ap (λ (l : List ℕ). Some (c.in-Some.kind, l)) (sym off.0), off.1)
