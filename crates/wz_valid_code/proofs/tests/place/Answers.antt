use Rattle.std.proofs.Common.{◌++◌, ◌-◌, ◌∙◌, length, refl, ap, sym, subst}
use Rattle.wz_code.specs.BodyParts.{BodyParts, item_count}
use Rattle.wz_code.specs.BlockRule.{named, IsBuilding}
use Rattle.wz_valid_code.proofs.BuildLemmas.{times-of, times-moved}
use Rattle.wz_valid_code.proofs.tests.place.Goals as goal

pub add_instr-requires-clause-there : goal.add_instr-requires-clause-there
add_instr-requires-clause-there c =
    (c.building.ensures.held c.args.builder.now (c.args.held.now ++ named c.args.instr) c.in-Some.top.now c.requires.building
    (times-of c.args.held.now (named c.args.instr) (length c.args.held.now - 1) c.in-Some.top.now (sym c.in-Some.ensures.value))).0

pub returns-clause-building : goal.returns-clause-building
returns-clause-building c =
    let P : BodyParts → Type 0 = λ body. IsBuilding body c.args.held.now in
    λ placed. subst P (sym c.in_ok-add_instr.ensures.added)
    (c.building_takes.ensures.instr c.args.builder.now (c.args.held.now ++ named c.args.instr) c.in-Some.top.now c.args.instr c.args.held.now c.requires.building
    (record {
      held = times-of c.args.held.now (named c.args.instr) (length c.args.held.now - 1) c.in-Some.top.now (sym c.in-Some.ensures.value);
      rises = c.names_later.ensures c.if-not-names_later.false;
      pools = c.is_in_pools.ensures c.if-not-is_in_pools.false c.args.builder.now.labels c.args.builder.now.types c.requires.labels c.requires.types;
      moved = λ k. times-moved k (c.args.held.now ++ named c.args.instr) c.args.held.now (named c.args.instr) refl;
    })).building

pub returns-clause-counted : goal.returns-clause-counted
returns-clause-counted c =
    let there = (c.building.ensures.held c.args.builder.now (c.args.held.now ++ named c.args.instr) c.in-Some.top.now c.requires.building
    (times-of c.args.held.now (named c.args.instr) (length c.args.held.now - 1) c.in-Some.top.now (sym c.in-Some.ensures.value))).0 in
    λ placed. ap item_count c.in_ok-add_instr.ensures.added ∙ c.items_are_counted.ensures.instr c.args.builder.now c.in-Some.top.now c.args.instr there
