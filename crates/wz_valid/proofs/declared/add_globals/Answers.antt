use Rattle.std.proofs.Common.{arith}
use Rattle.wz_code.specs.References.{referred_in}
use Rattle.wz_code.proofs.NumberLemmas.{adds_mapped}
use Rattle.wz_module.specs.Views.{global_of}
use Rattle.wz_valid.proofs.declared.add_globals.Goals as goal

pub returns : goal.returns
returns c =
    adds_mapped (λ g. referred_in g.init) (λ g. global_of g) c.args.globals.now c.loop-global.global-index
    c.args.declared.now.keys c.loop-global.declared.keys (omega arith) c.loop-global.invariant
