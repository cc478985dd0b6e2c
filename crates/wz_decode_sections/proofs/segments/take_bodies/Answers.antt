use Rattle.wz_bytes.proofs.VectorLaws.{if_ok, vector_gives, vector_bad}
use Rattle.wz_code.specs.BodyParts.{BodyParts}
use Rattle.wz_code.specs.Trees.{tree_of}
use Rattle.wz_decode_code.specs.Reading.{expression_at}
use Rattle.wz_decode_sections.proofs.segments.take_bodies.Goals as goal

pub returns-clause-ok : goal.returns-clause-ok
returns-clause-ok c =
    let rest = c.take_vector.new.cursor.left in
    if_ok _ _ c.take_vector.result (λ v h. vector_gives (λ (b : BodyParts). tree_of b 0) (λ b. expression_at b) v.items c.args.cursor.now.left rest h) c.take_vector.ensures.ok

pub returns-clause-bad : goal.returns-clause-bad
returns-clause-bad c = λ bad. vector_bad (λ (b : BodyParts). tree_of b 0) (λ b. expression_at b) c.args.cursor.now.left (c.take_vector.ensures.bad bad)
