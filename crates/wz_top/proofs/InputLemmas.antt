-- What is known of the bytes of an input.
use Rattle.std.proofs.Common.{◌≡◌, ℕ, ◌+◌, ◌≤◌, ◌<◌, List, ◌++◌, length, refl, sym, ap, subst, ◌∙◌, arith, length-append}
use Rattle.std.specs.Prelude.{Option, None, Some, IfSome, IsSome}
use Rattle.std.specs.Option.{option_and_then}
use Rattle.std.specs.FinMap.{get}
use Rattle.wz_io.specs.World.{Told, Name, Standard, File, Contents, input_of, IsThere}
use Rattle.wz_io.specs.Reading.{TakesSome, input_limit}
use Rattle.wz_words.specs.declared.settings.InputFrom.{InputFrom}
use Rattle.wz_words.specs.declared.settings.InputFrom.TheVariants as input
use Rattle.wz_top.specs.Devices.{IsInput, IsInputFrom, IsInputTold}

abbrev given : List ℕ → Option (List ℕ)
given bytes = Some bytes

some_is : (a b : List ℕ) → given a ≡ given b → a ≡ b
some_is a b e = cc

pub some_bytes : (o : Option (List ℕ)) → IsSome o → (bytes : List ℕ) × (o ≡ Some bytes)
some_bytes (Some bytes) is = (bytes, refl)
some_bytes None is = absurd cc

long_of : (n : ℕ) (s : List ℕ) (now : Option (List ℕ)) → TakesSome n (Some s) now → n ≤ length s
long_of n s None t = let e : given s ≡ None = t.1 in absurd cc
long_of n s (Some rest) t =
    let same : s ≡ t.0 ++ rest = some_is s (t.0 ++ rest) t.1 in
    let parts : length s ≡ length t.0 + length rest = ap (λ (l : List ℕ). length l) same ∙ length-append t.0 rest in
    omega (arith, parts, t.2)

stdin_long : (o left now : Option (List ℕ)) → left ≡ o → TakesSome (input_limit + 1) left now
    → (bytes : List ℕ) × IfSome o (λ there. there ≡ bytes) × (input_limit < length bytes)
stdin_long None left now e t = (t.0, tt, omega (arith, t.2))
stdin_long (Some s) left now e t = (s, refl, omega (arith, long_of (input_limit + 1) s now (subst (λ (l : Option (List ℕ)). TakesSome (input_limit + 1) l now) e t)))

file_long : (files : Option Contents) (path : List ℕ) (left now : Option (List ℕ)) → left ≡ option_and_then (λ f. get f path) files
    → IfSome files (λ f. IsSome (get f path))
    → TakesSome (input_limit + 1) left now → (bytes : List ℕ) × IfSome files (λ f. get f path ≡ Some bytes) × (input_limit < length bytes)
file_long None path left now e there t = (t.0, tt, omega (arith, t.2))
file_long (Some f) path left now e there t =
    let s = some_bytes (get f path) there in
    (s.0, s.1, omega (arith, long_of (input_limit + 1) s.0 now (subst (λ (l : Option (List ℕ)). TakesSome (input_limit + 1) l now) (e ∙ s.1) t)))

-- an input of which more than the limit was read is longer than that
pub long_input : (told : Told) (name : Name) (left now : Option (List ℕ)) → left ≡ input_of told name → IsThere told name → TakesSome (input_limit + 1) left now
    → (bytes : List ℕ) × IsInput told name bytes × (input_limit < length bytes)
long_input told Standard left now e there t = stdin_long told.stdin left now e t
long_input told (File path) left now e there t = file_long told.files path left now e there t

stdin_one : (o : Option (List ℕ)) (a b : List ℕ) → IsSome o → IfSome o (λ there. there ≡ a) → IfSome o (λ there. there ≡ b) → a ≡ b
stdin_one None a b there is-a is-b = absurd cc
stdin_one (Some s) a b there is-a is-b = sym is-a ∙ is-b

file_one : (files : Option Contents) (path a b : List ℕ) → IsSome (option_and_then (λ f. get f path) files) → IfSome files (λ f. get f path ≡ Some a)
    → IfSome files (λ f. get f path ≡ Some b) → a ≡ b
file_one None path a b there is-a is-b = absurd cc
file_one (Some f) path a b there is-a is-b = some_is a b (sym is-a ∙ is-b)

-- a told input has one list of bytes
pub one_input : (told : Told) (name : Name) (a b : List ℕ) → IsSome (input_of told name) → IsInput told name a → IsInput told name b → a ≡ b
one_input told Standard a b there is-a is-b = stdin_one told.stdin a b there is-a is-b
one_input told (File path) a b there is-a is-b = file_one told.files path a b there is-a is-b

pub one_input_from : (told : Told) (from : InputFrom) (a b : List ℕ) → IsInputTold told from → IsInputFrom told from a → IsInputFrom told from b → a ≡ b
one_input_from told input.Standard a b there is-a is-b = one_input told Standard a b there is-a is-b
one_input_from told (input.Path path) a b there is-a is-b = one_input told (File path) a b there is-a is-b
one_input_from told (input.Sample number) a b there is-a is-b = is-a ∙ sym is-b
