-- What is recorded of a state has the module's types.
use Rattle.std.proofs.Common.{◌≡◌, ℕ, suc, ◌≤◌, List, [], ◌∷◌, map, Option, Some, refl, sym, subst, slice_get}
use Rattle.std.specs.Prelude.{IfSome}
use Rattle.std.specs.List.{All, AllZip, sum}
use Rattle.std.proofs.lemmas.List.Elements.{All-nil, All-cons, All-head, All-tail, All-map}
use Rattle.std.proofs.lemmas.List.Sums.{sum-map}
use Rattle.wz_types.specs.declared.types.GlobalType.{GlobalType}
use Rattle.wz_types.specs.declared.types.MemType.{MemType}
use Rattle.wz_types.specs.declared.value.Value.{Value}
use Rattle.wz_types.specs.Fits.{Fits}
use Rattle.wz_module.specs.Globals.{GlobalDef}
use Rattle.wz_store.specs.State.{Global, Memory, pages_of}
use Rattle.wz_valid.specs.Profile.{pages_limit}
use Rattle.wz_rewrite.specs.ValidOutput.{IsNotForeign, AllowsPages, FitsGlobal, StateHasTypes}

each-of : {X : Type 0} (P : X → Type 0) (xs : List X) → ((i : ℕ) (x : X) → slice_get xs i ≡ Some x → P x) → All P xs
each-of P [] each = All-nil P
each-of P (x ∷ xs) each = All-cons P x xs (each 0 x refl) (each-of P xs (λ i y here. each (suc i) y here))

globals-zip : (functions types : ℕ) (definitions : List GlobalDef) (globals : List Global) → map (λ g. g.type) globals ≡ map (λ g. g.kind) definitions
    → All (λ g. Fits g.content g.type.value functions types) globals
    → AllZip (λ d v. Fits v d.kind.value functions types) definitions (map (λ g. g.content) globals)
globals-zip functions types [] [] same fits = tt
globals-zip functions types [] (g ∷ globals) same fits = absurd cc
globals-zip functions types (d ∷ definitions) [] same fits = absurd cc
globals-zip functions types (d ∷ definitions) (g ∷ globals) same fits =
    let P : Global → Type 0 = λ g. Fits g.content g.type.value functions types in
    let kind : g.type ≡ d.kind = cc in
    let others : map (λ g. g.type) globals ≡ map (λ g. g.kind) definitions = cc in (
      subst (λ (t : GlobalType). Fits g.content t.value functions types) kind (All-head P g globals fits),
      globals-zip functions types definitions globals others (All-tail P g globals fits),
    )

sizes-zip : (types : List MemType) (memories : List Memory) → map (λ memory. memory.maximum) memories ≡ map (λ memory. memory.limits.max) types
    → All (λ memory. IfSome memory.maximum (λ max. pages_of memory ≤ max)) memories
    → AllZip (λ memory pages. AllowsPages memory pages) types (map pages_of memories)
sizes-zip [] [] same within = tt
sizes-zip [] (memory ∷ memories) same within = absurd cc
sizes-zip (type ∷ types) [] same within = absurd cc
sizes-zip (type ∷ types) (memory ∷ memories) same within =
    let P : Memory → Type 0 = λ memory. IfSome memory.maximum (λ max. pages_of memory ≤ max) in
    let maximum : memory.maximum ≡ type.limits.max = cc in
    let others : map (λ memory. memory.maximum) memories ≡ map (λ memory. memory.limits.max) types = cc in (
      subst (λ (o : Option ℕ). IfSome o (λ max. pages_of memory ≤ max)) maximum (All-head P memory memories within),
      sizes-zip types memories others (All-tail P memory memories within),
    )

pub state_has_types : StateHasTypes
state_has_types m r globals memories contents pages is =
    let fits = globals-zip _ _ m.globals globals is.kinds (each-of _ globals is.fitting) in
    let own = All-map IsNotForeign (λ (g : Global). g.content) globals (each-of (λ (g : Global). IsNotForeign g.content) globals is.own) in
    let sizes = sizes-zip m.memories memories is.maxima (each-of _ memories is.sizes) in
    let few : sum (map pages_of memories) ≤ pages_limit = subst (λ (n : ℕ). n ≤ pages_limit) (sym (sum-map pages_of memories)) is.together in
    record {
      globals = subst (λ (vs : List Value). AllZip (λ g v. FitsGlobal m g v) m.globals vs) (sym contents) fits;
      own = subst (λ (vs : List Value). All IsNotForeign vs) (sym contents) own;
      sizes = subst (λ (ps : List ℕ). AllZip (λ memory p. AllowsPages memory p) m.memories ps) (sym pages) sizes;
      pages = pages;
      together = subst (λ (ps : List ℕ). sum ps ≤ pages_limit) (sym pages) few;
    }
