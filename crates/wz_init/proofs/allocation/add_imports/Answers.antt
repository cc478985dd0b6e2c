use Rattle.std.proofs.Common.{ap, ◌-◌, ◌^◌, drop, length, map, arith}
use Rattle.std.proofs.Math.ListN.{length-map}
use Rattle.wz_module.specs.Views.{import_of}
use Rattle.wz_store.specs.Made.{StoreState}
use Rattle.wz_init.specs.Functions.{import_functions}
use Rattle.wz_init.proofs.BehindLemmas.{room_left, few_imports}
use Rattle.wz_init.proofs.allocation.add_imports.Goals as goal

pub add_function-requires : goal.add_function-requires
add_function-requires g c =
    let all = map import_of c.args.imports.now in
    room_left c.loop-number.store.functions (import_functions c.loop-number.number (map import_of (drop c.loop-number.number c.args.imports.now))) c.args.store.now.functions
    (import_functions 0 all) (length c.args.imports.now) (2 ^ 32 - 1) (ap (λ (s : StoreState). s.functions) c.loop-number.invariant)
    (omega (arith, few_imports 0 all, length-map c.args.imports.now import_of)) c.requires
