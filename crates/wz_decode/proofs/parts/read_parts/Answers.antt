use Rattle.std.proofs.Common.{refl, map, arith, rules, length-append, ◌∷◌, []}
use Rattle.std.proofs.lemmas.List.{map-append}
use Rattle.std.proofs.lemmas.List.Elements.{All-push}
use Rattle.wz_module.specs.Views.{section_of, module_with}
use Rattle.wz_decode.specs.Contents.{IsInGrammar}
use Rattle.wz_decode.proofs.SectionLaws.{section_shorter, one_more, not_empty, payload_within}
use Rattle.wz_decode.proofs.FrontLemmas.{stops_at_none, stops_at_bad}
use Rattle.wz_decode.proofs.parts.read_parts.Goals as goal

pub returns-in_default-take_section-clause-bad : goal.returns-in_default-take_section-clause-bad
returns-in_default-take_section-clause-bad c = λ at e. stops_at_none c.args.bytes.now c.sections.cursor.left (module_with c.sections.parts) c.sections.parts.sections.items c.sections.last c.len-at.result at refl
    c.sections.invariant.so_far c.sections.invariant.front c.sections.invariant.contents c.in_default-take_section.ensures
    (not_empty c.is_empty.result c.left.result.now c.sections.cursor.left c.sections-test.true c.is_empty.ensures c.left.ensures) (search (rules, c.len-at.ensures)) cc

pub take_part-requires-clause-small : goal.take_part-requires-clause-small
take_part-requires-clause-small c =
    let within = payload_within c.sections.cursor.left (section_of c.in-Some.section) c.take_section.new.cursor.left c.in-Some.ensures in
    omega (arith, within, c.sections.invariant.room, c.requires)

pub sections-smaller : goal.sections-smaller
sections-smaller c = section_shorter c.sections.cursor.left _ c.take_section.new.cursor.left c.in-Some.ensures

pub sections-preserved : goal.sections-preserved
sections-preserved c =
    let p = c.in-Ok.ensures.sections in
    let shorter = section_shorter c.sections.cursor.left _ c.take_section.new.cursor.left c.in-Some.ensures in
    record {
      so_far = rw p (one_more c.args.bytes.now c.sections.cursor.left c.take_section.new.cursor.left c.sections.parts.sections.items c.in-Some.section c.sections.invariant.so_far c.in-Some.ensures);
      front = c.in-Ok.ensures.ok;
      contents = rw (p, map-append section_of c.sections.parts.sections.items (c.in-Some.section ∷ [])) (All-push IsInGrammar (map section_of c.sections.parts.sections.items) (section_of c.in-Some.section) c.sections.invariant.contents c.in-Ok.ensures.contents);
      room = rw p (omega (arith, length-append c.sections.parts.sections.items (c.in-Some.section ∷ []), shorter, c.sections.invariant.room));
    }

pub returns-in-Err-Bad-clause-bad : goal.returns-in-Err-Bad-clause-bad
returns-in-Err-Bad-clause-bad c = λ at e. stops_at_bad c.args.bytes.now c.sections.cursor.left c.take_section.new.cursor.left (module_with c.sections.parts) c.sections.parts.sections.items (section_of c.in-Some.section) c.sections.last c.len-at.result at refl
    c.sections.invariant.so_far c.sections.invariant.front c.sections.invariant.contents c.in-Some.ensures (c.in-Err-Bad.ensures.bad (cc (c.in-Err-Bad.field-0-is)))
    (not_empty c.is_empty.result c.left.result.now c.sections.cursor.left c.sections-test.true c.is_empty.ensures c.left.ensures) (search (rules, c.len-at.ensures)) cc
