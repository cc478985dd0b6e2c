-- Items that are put behind a list one by one are put there together.
use Rattle.std.proofs.Common.{◌≡◌, ℕ, suc, ◌+◌, ◌<◌, ◌≤◌, List, [], ◌∷◌, ◌++◌, Some, length, map, drop, get_or, slice_get, refl, sym, ap, ◌∙◌, arith, drop-cons, length-append}
use Rattle.std.proofs.lemmas.Option.{slice_get-get_or}
use Rattle.std.proofs.Math.ListN.{length-map}
use Rattle.wz_module.specs.declared.items.ImportKind.{ImportKind}
use Rattle.wz_module.specs.declared.items.ImportKind.TheVariants as kind
use Rattle.wz_module.specs.Imports.{Import}
use Rattle.wz_init.specs.Functions.{import_function, import_functions, own_functions}

-- the items from a place on are the one there and those behind it
pub rest_at : {X : Type 0} (xs : List X) (i : ℕ) (x : X) → i < length xs → x ≡ get_or xs i x → drop i xs ≡ x ∷ drop (i + 1) xs
rest_at xs i x less is =
    let more : suc i ≡ i + 1 = omega arith in
    drop-cons xs i x less ∙ ap (λ y. y ∷ drop (suc i) xs) (sym is) ∙ ap (λ (n : ℕ). x ∷ drop n xs) more

-- the item at a place, looked up
pub there_at : {X : Type 0} (xs : List X) (i : ℕ) (x : X) → i < length xs → x ≡ get_or xs i x → slice_get xs i ≡ Some x
there_at xs i x less is = slice_get-get_or xs i x less ∙ ap Some (sym is)

-- there is room for one more where there was for all
pub room_left : {X : Type 0} (now rest before all : List X) (count limit : ℕ) → now ++ rest ≡ before ++ all → length all ≤ count → length before + count < limit
    → length now < limit
room_left now rest before all count limit same few room = omega (arith, length-append now rest, length-append before all, ap length same)

-- the same where an item is put there for each of others
pub room_for_each : {X Y : Type 0} (f : X → Y) (xs : List X) (i : ℕ) (now before : List Y) (limit : ℕ) → now ++ map f (drop i xs) ≡ before ++ map f xs
    → length before + length xs < limit → length now < limit
room_for_each f xs i now before limit same room =
    room_left now (map f (drop i xs)) before (map f xs) (length xs) limit same (omega (arith, length-map xs f)) room

-- ---- functions

pub few_imports : (number : ℕ) (imports : List Import) → length (import_functions number imports) ≤ length imports
few_imports number [] = omega arith
few_imports number (i ∷ imports) =
    omega (arith, length-append (import_function number i.kind) (import_functions (number + 1) imports), one_function number i.kind, few_imports (number + 1) imports)
  where
    one_function : (number : ℕ) (kind : ImportKind) → length (import_function number kind) ≤ 1
    one_function number (kind.Func type) = omega arith
    one_function number (kind.Table type) = omega arith
    one_function number (kind.Memory type) = omega arith
    one_function number (kind.Global type) = omega arith

pub as_many_own : (number : ℕ) (types : List ℕ) → length (own_functions number types) ≡ length types
as_many_own number [] = refl
as_many_own number (type ∷ types) = ap suc (as_many_own (number + 1) types)
