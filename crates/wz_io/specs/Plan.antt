-- Which later calls are to fail. These meanings are this tool's own: the WebAssembly Core
-- Specification doesn't speak of files.
use Rattle.std.specs.Prelude.{◌≡◌, ℕ, ◌-◌, Bool, if◌then◌else◌, ◌&&◌, ◌==◌, List, ◌++◌, ◌∷◌, [], map, Result, Ok, Err, true, false, ⊤}
use Rattle.std.specs.List.{list_any}
use Rattle.wz_io.specs.declared.plan.CallKind.{CallKind}
use Rattle.wz_io.specs.declared.plan.CallKind.TheVariants as kind
use Rattle.wz_io.specs.declared.plan.Failure.{Failure}
use Rattle.wz_io.specs.declared.files.OpenFault.{OpenFault}
use Rattle.wz_io.specs.declared.files.OpenFault.TheVariants as fault

-- the failures that are listed, each with its kind and the number of calls of that kind up to and
-- with the one that fails; the number is 0 once that one was made
abbrev pub Plan : Type 0
Plan = List Failure

abbrev pub kind_number : CallKind → ℕ
kind_number kind.OpenInput = 0
kind_number kind.Read = 1
kind_number kind.Create = 2
kind_number kind.Write = 3
kind_number kind.Close = 4

-- the next call of this kind is to fail
abbrev pub is_listed : Plan → CallKind → Bool
is_listed plan k = list_any (λ failure. (kind_number failure.kind == kind_number k) && (failure.calls == 1)) plan

abbrev pub failure_after_call : CallKind → Failure → Failure
failure_after_call k failure =
    if kind_number failure.kind == kind_number k then record failure { calls = failure.calls - 1 } else failure

-- once a call of this kind was made
abbrev pub after_call : Plan → CallKind → Plan
after_call plan k = map (failure_after_call k) plan

-- the nth call of this kind from here on is listed too
abbrev pub with_failure_at : Plan → CallKind → ℕ → Plan
with_failure_at plan k nth = plan ++ record { kind = k; calls = nth } ∷ []

-- an opening that finds no memory isn't counted
abbrev pub after_opening : {T : Type 0} → Plan → CallKind → Result T OpenFault → Plan
after_opening plan k (Err fault.NoMemory) = plan
after_opening plan k result = after_call plan k

-- Failed comes exactly where this holds, want of memory aside
abbrev pub FailsWhere : {T : Type 0} → Bool → Result T OpenFault → Type 0
FailsWhere fails (Ok _) = fails ≡ false
FailsWhere fails (Err fault.Failed) = fails ≡ true
FailsWhere fails (Err fault.NoMemory) = ⊤
