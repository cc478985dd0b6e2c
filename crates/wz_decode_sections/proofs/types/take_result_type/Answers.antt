use Rattle.std.proofs.Common.{◌≡◌, List, Some, subst}
use Rattle.std.proofs.lemmas.List.{map-id}
use Rattle.wz_bytes.specs.Forms.{vector_at}
use Rattle.wz_bytes.proofs.VectorLaws.{if_ok, vector_gives, vector_bad}
use Rattle.wz_types.specs.declared.types.ValType.{ValType}
use Rattle.wz_decode_code.specs.Types.{type_at}
use Rattle.wz_decode_sections.proofs.types.take_result_type.Goals as goal

pub returns-clause-ok : goal.returns-clause-ok
returns-clause-ok c =
    let rest = c.take_vector.new.cursor.left in
    if_ok _ _ c.take_vector.result (λ v h. subst (λ (xs : List ValType). vector_at (λ b. type_at b) c.args.cursor.now.left ≡ Some (xs, rest)) (map-id v.items)
    (vector_gives (λ (x : ValType). x) (λ b. type_at b) v.items c.args.cursor.now.left rest h)) c.take_vector.ensures.ok

pub returns-clause-bad : goal.returns-clause-bad
returns-clause-bad c = λ bad. vector_bad (λ (x : ValType). x) (λ b. type_at b) c.args.cursor.now.left (c.take_vector.ensures.bad bad)
