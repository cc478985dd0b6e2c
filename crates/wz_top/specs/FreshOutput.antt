-- The output starts where the run ended: its fresh instance, which section 4.5.4 of the WebAssembly Core Specification 2.0 makes before
-- any function runs, is the state that was reached. Said of modules and states, without bytes.
use Rattle.std.specs.Prelude.{◌≡◌, ℕ, List, []}
use Rattle.std.specs.List.{All}
use Rattle.wz_module.specs.Module.{Module}
use Rattle.wz_valid.specs.Validity.{IsValid}
use Rattle.wz_valid.specs.Profile.{IsInProfile}
use Rattle.wz_store.specs.State.{Element}
use Rattle.wz_machine.specs.State.{State}
use Rattle.wz_machine.specs.Within.{with_more}
use Rattle.wz_init.specs.declared.order.RunOrder.{RunOrder}
use Rattle.wz_init.specs.Instances.{Instance}
use Rattle.wz_init.specs.Instantiation.{fresh}
use Rattle.wz_init.specs.Ready.{Reached, ready}
use Rattle.wz_exports.specs.Kept.{KeptExports}
use Rattle.wz_rewrite.specs.Output.{rewritten_module}

-- The module's fresh instance is this state, perhaps with more segments behind its own, which are empty. So each segment fits, and
-- types, functions, globals, tables and memories are the state's.
pub record StartsAs (m : Module) (s : State) : Type 0 where
  pub elements : List Element
  pub datas : List (List ℕ)
  pub made : fresh m ≡ Instance (with_more s elements datas)
  pub without_items : All (λ element. element.items ≡ []) elements
  pub without_bytes : All (λ bytes. bytes ≡ []) datas

-- whatever exports are kept, the output of a valid module within the profile starts as the state that the module's run reached
abbrev pub OutputStartsAsReached : Type 0
OutputStartsAsReached = (m : Module) (order : RunOrder) (s : State) (ticks : ℕ) (k : KeptExports)
    → IsValid m → IsInProfile m → ready m order ≡ Reached s ticks → StartsAs (rewritten_module m s k) s
