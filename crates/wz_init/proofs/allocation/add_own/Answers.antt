use Rattle.std.proofs.Common.{ap, ◌-◌, ◌^◌, drop, length, arith}
use Rattle.wz_store.specs.Made.{StoreState}
use Rattle.wz_init.specs.Functions.{own_functions}
use Rattle.wz_init.proofs.BehindLemmas.{room_left, as_many_own}
use Rattle.wz_init.proofs.allocation.add_own.Goals as goal

pub add_function-requires : goal.add_function-requires
add_function-requires g c =
    let own = c.args.signatures.now in
    room_left c.loop-number.store.functions (own_functions c.loop-number.number (drop c.loop-number.number own)) c.args.store.now.functions (own_functions 0 own) (length own)
    (2 ^ 32 - 1) (ap (λ (s : StoreState). s.functions) c.loop-number.invariant) (omega (arith, as_many_own 0 own)) c.requires
