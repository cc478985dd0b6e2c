-- What the output's instance begins with: its globals' constants give the values that were reached, and its element segments hold the
-- references of the input's.
use Rattle.std.proofs.Common.{◌≡◌, ℕ, suc, ◌+◌, ◌<◌, List, [], ◌∷◌, ◌++◌, length, map, Option, Some, None, Bool, true, false, IsTrue, is_some, if◌then◌else◌, slice_get, option_map, option_and_then, refl, sym, ap, subst, ◌∙◌}
use Rattle.std.specs.List.{flat_map, zip}
use Rattle.std.proofs.lemmas.Option.{slice_get_within}
use Rattle.wz_types.specs.declared.types.GlobalType.{GlobalType}
use Rattle.wz_types.specs.declared.types.RefKind.TheVariants as kind
use Rattle.wz_types.specs.declared.value.Reference.{Reference}
use Rattle.wz_types.specs.declared.value.Reference.TheVariants.{Null, Fn, Foreign}
use Rattle.wz_types.specs.declared.value.Value.{Value}
use Rattle.wz_types.specs.declared.value.Value.TheVariants as value
use Rattle.wz_types.specs.Fits.{Fits}
use Rattle.wz_types.specs.Laws.{NamesThere}
use Rattle.wz_types.proofs.FitsLemmas.{fits-parts}
use Rattle.wz_code.specs.Trees.{Code}
use Rattle.wz_code.proofs.NumberLemmas.{Has, has-here, has-later, in-filtered}
use Rattle.wz_module.specs.Globals.{GlobalDef}
use Rattle.wz_module.specs.Elements.{Elem, function_reference}
use Rattle.wz_module.specs.Module.{Module}
use Rattle.wz_valid.specs.Indices.{all_functions}
use Rattle.wz_valid.specs.Validity.{IsValid}
use Rattle.wz_store.specs.State.{Global, Element}
use Rattle.wz_store.specs.Made.{new_global, new_element}
use Rattle.wz_encode.specs.Constants.{constant_code}
use Rattle.wz_encode.specs.Globals.{global_with}
use Rattle.wz_encode.specs.Elements.{is_dropped, as_declarative, kept_elements, declaring, declarations}
use Rattle.wz_snapshot.specs.Recorded.{RecordedState}
use Rattle.wz_exports.specs.Kept.{KeptExports}
use Rattle.wz_exports.specs.Undeclared.{body_refs, rising, undeclared_functions}
use Rattle.wz_exports.proofs.RisingLemmas.{has-rising}
use Rattle.wz_rewrite.specs.OutputState.{OutputState}
use Rattle.wz_rewrite.specs.Dropped.{dropped_elements}
use Rattle.wz_rewrite.specs.Output.{output_module}
use Rattle.wz_rewrite.proofs.BodyLemmas.{named-there}
use Rattle.wz_init.specs.Constants.{constant_value, constant_number, constant_reference, reference_in}
use Rattle.wz_init.specs.Allocation.{each_of, first_global, first_globals, first_element, first_elements}
use Rattle.wz_init.specs.Reached.{IsOwn}
use Rattle.wz_init.proofs.ConstantLemmas.{reference_value}

-- ---- constants

-- an offset is the same number in the output
pub same_number : (m : Module) (o : OutputState) (code : Code) → constant_number (output_module m o) code ≡ constant_number m code
unfolding constant_value
same_number m o code = refl

value_given : (m : Module) (v : Value) (types : ℕ) → NamesThere v (length (all_functions m)) types → IsOwn v → constant_value m (constant_code v) ≡ Some v
unfolding constant_value
value_given m (value.I32 bits) types there own = refl
value_given m (value.I64 bits) types there own = refl
value_given m (value.F32 bits) types there own = refl
value_given m (value.F64 bits) types there own = refl
value_given m (value.Ref (Null kind)) types there own = refl
value_given m (value.Ref (Fn index)) types there own = reference_value m index there
value_given m (value.Ref (Foreign id sort)) types there own = absurd own

-- ---- globals

abbrev pub FitsIn : Module → Global → Type 0
FitsIn m g = Fits g.content g.type.value (length (all_functions m)) (length m.types) × IsOwn g.content

global_given : (m : Module) (g : Global) → FitsIn m g → first_global m (global_with (g.type, g.content)) ≡ Some g
global_given m g h =
    let fit = fits-parts g.content g.type.value (length (all_functions m)) (length m.types) h.0 in
    ap (λ (o : Option Value). option_map (λ content. new_global g.type content) o) (value_given m g.content (length m.types) fit.names_there h.1)

-- each type with its value
globals_by_types : (m : Module) (gs : List Global) → ((i : ℕ) (g : Global) → slice_get gs i ≡ Some g → FitsIn m g)
    → each_of (λ def. first_global m def) (map global_with (zip (map (λ (g : Global). g.type) gs) (map (λ (g : Global). g.content) gs))) ≡ Some gs
globals_by_types m [] h = refl
globals_by_types m (g ∷ gs) h =
    let rest = each_of (λ def. first_global m def) (map global_with (zip (map (λ (x : Global). x.type) gs) (map (λ (x : Global). x.content) gs))) in
    ap (λ (o : Option Global). option_and_then (λ y. option_map (λ ys. y ∷ ys) rest) o) (global_given m g (h 0 g refl))
    ∙ ap (λ (o : Option (List Global)). option_map (λ ys. g ∷ ys) o) (globals_by_types m gs (λ i x here. h (suc i) x here))

pub globals_given : (m : Module) (o : OutputState) (gs : List Global) → map (λ (g : Global). g.type) gs ≡ map (λ (g : GlobalDef). g.kind) m.globals
    → o.globals ≡ map (λ (g : Global). g.content) gs → ((i : ℕ) (g : Global) → slice_get gs i ≡ Some g → FitsIn m g)
    → first_globals (output_module m o) ≡ Some gs
unfolding constant_value
globals_given m o gs types values h =
    ap (λ (vs : List Value). each_of (λ def. first_global m def) (map global_with (zip (map (λ (g : GlobalDef). g.kind) m.globals) vs))) values
    ∙ ap (λ (ts : List GlobalType). each_of (λ def. first_global m def) (map global_with (zip ts (map (λ (g : Global). g.content) gs)))) (sym types)
    ∙ globals_by_types m gs h

-- ---- element segments

element_same : (m : Module) (b : Bool) (e : Elem) → first_element m (if b then as_declarative e else e) ≡ first_element m e
element_same m true e = refl
element_same m false e = refl

elements_same : (m : Module) (dropped : List ℕ) (n : ℕ) (es : List Elem)
    → each_of (λ e. first_element m e) (kept_elements dropped n es) ≡ each_of (λ e. first_element m e) es
elements_same m dropped n [] = refl
elements_same m dropped n (e ∷ es) =
    ap (λ (o : Option Element). option_and_then (λ y. option_map (λ ys. y ∷ ys) (each_of (λ x. first_element m x) (kept_elements dropped (n + 1) es))) o)
    (element_same m (is_dropped dropped n) e)
    ∙ ap (λ (os : Option (List Element)). option_and_then (λ y. option_map (λ ys. y ∷ ys) os) (first_element m e)) (elements_same m dropped (n + 1) es)

each_append : {X Y : Type 0} (f : X → Option Y) (xs ys : List X) (items bs : List Y) → each_of f xs ≡ Some items → each_of f ys ≡ Some bs
    → each_of f (xs ++ ys) ≡ Some (items ++ bs)
each_append {Y = Y} f [] ys items bs h k = let same : [] ≡ items = cc h in subst (λ (l : List Y). each_of f ys ≡ Some (l ++ bs)) same k
each_append {X = X} {Y = Y} f (x ∷ xs) ys items bs h k = by (f x) refl (each_of f xs) refl h (λ zs e. each_append f xs ys zs bs e k)
  where
    by : (o : Option Y) → f x ≡ o → (os : Option (List Y)) → each_of f xs ≡ os → option_and_then (λ y. option_map (λ ys. y ∷ ys) os) o ≡ Some items
        → ((zs : List Y) → each_of f xs ≡ Some zs → each_of f (xs ++ ys) ≡ Some (zs ++ bs))
        → option_and_then (λ y. option_map (λ zs. y ∷ zs) (each_of f (xs ++ ys))) (f x) ≡ Some (items ++ bs)
    by None a os b e rest = absurd (cc e)
    by (Some z) a None b e rest = absurd (cc e)
    by (Some z) a (Some zs) b e rest =
        let same : z ∷ zs ≡ items = cc e in
        ap (λ (o : Option Y). option_and_then (λ y. option_map (λ zs. y ∷ zs) (each_of f (xs ++ ys))) o) a
        ∙ ap (λ (o : Option (List Y)). option_map (λ zs. z ∷ zs) o) (rest zs b)
        ∙ ap (λ (l : List Y). Some (l ++ bs)) same

references_given : (m : Module) (fs : List ℕ) → ((f : ℕ) → Has f fs → f < length (all_functions m))
    → each_of (λ init. constant_reference m init) (map function_reference fs) ≡ Some (map Fn fs)
references_given m [] h = refl
references_given m (f ∷ fs) h =
    ap (λ (o : Option Value). option_and_then (λ y. option_map (λ ys. y ∷ ys) (each_of (λ init. constant_reference m init) (map function_reference fs))) (reference_in o))
    (reference_value m f (h f (has-here f fs)))
    ∙ ap (λ (o : Option (List Reference)). option_map (λ ys. Fn f ∷ ys) o) (references_given m fs (λ g is. h g (has-later g f fs is)))

-- the segment that declares functions anew, where there is one
abbrev pub declared_elements : List ℕ → List Element
declared_elements fs = map (λ (gs : List ℕ). new_element kind.Func (map Fn gs)) (declarations fs)

declared_given : (m : Module) (fs : List ℕ) → ((f : ℕ) → Has f fs → f < length (all_functions m))
    → each_of (λ e. first_element m e) (map declaring (declarations fs)) ≡ Some (declared_elements fs)
declared_given m [] h = refl
declared_given m (f ∷ fs) h =
    ap (λ (o : Option (List Reference)). option_and_then (λ y. option_map (λ ys. y ∷ ys) (Some [])) (option_map (λ items. new_element kind.Func items) o))
    (references_given m (f ∷ fs) h)

pub within_some : {X : Type 0} (xs : List X) (i : ℕ) (o : Option X) → slice_get xs i ≡ o → IsTrue (is_some o) → i < length xs
within_some xs i None e h = absurd (cc h)
within_some xs i (Some x) e h = slice_get_within xs i x e

-- functions that a body names are there
pub undeclared_there : (m : Module) (r : RecordedState) (k : KeptExports) → IsValid m → (f : ℕ) → Has f (undeclared_functions m r k)
    → f < length (all_functions m)
undeclared_there m r k valid f h =
    let named = flat_map body_refs m.bodies in
    within_some (all_functions m) f (slice_get (all_functions m) f) refl
    (named-there m valid f (subst (λ b. IsTrue b) (has-rising f named) (in-filtered _ (rising named) f h)))

pub elements_given : (m : Module) (o : OutputState) (ws : List Element) → first_elements m ≡ Some ws
    → ((f : ℕ) → Has f o.undeclared → f < length (all_functions m))
    → first_elements (output_module m o) ≡ Some (ws ++ declared_elements o.undeclared)
unfolding constant_value
elements_given m o ws h there =
    each_append (λ e. first_element m e) (kept_elements (dropped_elements m o) 0 m.elements) (map declaring (declarations o.undeclared)) ws
    (declared_elements o.undeclared) (elements_same m (dropped_elements m o) 0 m.elements ∙ h) (declared_given m o.undeclared there)
