use Rattle.std.proofs.Common.{map}
use Rattle.std.proofs.lemmas.Result.{IfOk-weaker}
use Rattle.wz_module.specs.Meaning.{module_of}
use Rattle.wz_module.specs.Views.{elem_of}
use Rattle.wz_exports.proofs.RefLemmas.{named_once, named_elsewhere, left_over}
use Rattle.wz_exports.proofs.undeclaring.undeclared.Goals as goal

pub returns : goal.returns
returns c =
    let m = module_of c.args.«module».now in
    let r = c.args.snapshot.now in
    let k = c.args.kept.now in
    let others = c.add_values.new.self.functions in
    let named = c.add_bodies.new.self.functions.keys in
    let once = named_once m r k c.bodies.result.now c.new-named.result.functions.keys named c.new-named.ensures c.bodies.ensures c.in_ok-add_bodies.ensures
    c.without.ensures.rises in
    let elsewhere = named_elsewhere m r k c.new-elsewhere.result.functions.keys c.add_segments.new.self.functions.keys c.add_exports.new.self.functions.keys others.keys
    (map elem_of c.elements.result.now) c.globals.result.now c.new-elsewhere.ensures c.elements.ensures c.globals.ensures
    c.in_ok-add_segments.ensures c.in_ok-add_exports.ensures c.in_ok-add_values.ensures in
    IfOk-weaker c.without.result (λ functions. _) (λ functions. _) (λ functions made. left_over m r k others named functions.items once elsewhere made) c.without.ensures.left
