use Rattle.std.proofs.Common.{◌∙◌, arith, refl}
use Rattle.std.proofs.lemmas.List.{length-set}
use Rattle.wz_bytes.proofs.ShortestLemmas.{unsigned_step, unsigned_end, unsigned_begin, at_most_count, seven_left}
use Rattle.wz_bytes.proofs.unsigned.groups_of.Goals as goal

pub loop-rest-init : goal.loop-rest-init
loop-rest-init c = record { size = refl; few = omega arith; below = omega arith; so_far = unsigned_begin c.args.value }

pub loop-rest-preserved : goal.loop-rest-preserved
loop-rest-preserved c =
    let i = c.loop-rest.invariant in
    let few = at_most_count 64 c.loop-rest.count c.loop-rest.rest (omega arith) i.few i.below (omega arith) in
    record {
      size = length-set c.loop-rest.groups c.loop-rest.count _ ∙ i.size;
      few = omega arith;
      below = seven_left 64 c.loop-rest.count c.loop-rest.rest (omega arith) i.below;
      so_far = unsigned_step c.loop-rest.groups c.loop-rest.count c.loop-rest.rest few (omega (arith, i.size)) c.loop-rest-test.true ∙ i.so_far;
    }

pub returns-clause-groups : goal.returns-clause-groups
returns-clause-groups c =
    let i = c.loop-rest.invariant in
    unsigned_end c.loop-rest.groups c.loop-rest.count c.loop-rest.rest (omega (arith, i.size)) c.loop-rest-test.false ∙ i.so_far
