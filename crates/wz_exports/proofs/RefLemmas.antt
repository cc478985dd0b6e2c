-- Functions that kept exports and a whole module add to a set.
use Rattle.std.proofs.Common.{◌≡◌, ℕ, ◌+◌, ◌<◌, List, [], ◌++◌, length, Bool, sym, ap, subst, ◌∙◌, take, get_or, map, not}
use Rattle.std.proofs.Common.{filter, slice_get, Option, Some, None, inl, inr, unwrap_or, arith}
use Rattle.std.specs.Prelude.{◌||◌}
use Rattle.std.specs.List.{flat_map}
use Rattle.std.specs.List.Sorted.{IsStrictlyIncreasing}
use Rattle.std.specs.Ordering.{nat_cmp}
use Rattle.std.specs.BTreeSet.{BTreeSet, contains}
use Rattle.std.proofs.lemmas.List.Folds.{flat_map-map}
use Rattle.std.proofs.lemmas.Option.{slice_get_cases}
use Rattle.wz_types.specs.declared.value.Value.{Value}
use Rattle.wz_code.specs.BodyParts.{BodyParts}
use Rattle.wz_code.specs.Trees.{tree_of}
use Rattle.wz_code.specs.References.{has_number, referred_in, AddsFunctions}
use Rattle.wz_code.proofs.NumberLemmas.{contains-has, adds_both, adds_next}
use Rattle.wz_module.specs.Elements.{Elem}
use Rattle.wz_module.specs.Exports.{Export}
use Rattle.wz_module.specs.Functions.{BodyTree, body_tree_of}
use Rattle.wz_module.specs.Views.{trees_of}
use Rattle.wz_module.specs.Module.{Module}
use Rattle.wz_module.specs.References.{referred_in_segment, exported_function}
use Rattle.wz_snapshot.specs.Recorded.{RecordedState}
use Rattle.wz_exports.specs.Kept.{KeptExports}
use Rattle.wz_exports.specs.Undeclared.{body_refs, value_refs, refs_elsewhere, rising, undeclared_functions}
use Rattle.wz_exports.proofs.RisingLemmas.{increasing, one_list, rises, has-rising}

-- ---- kept exports

some-inj : {X : Type 0} (x y : X) → Some x ≡ Some y → x ≡ y
some-inj {X = X} x y e = ap (λ (o : Option X). unwrap_or o x) e

-- the export of a place adds what it names
pub adds_entry : (entries : List Export) (i : ℕ) (e : Export) (before middle now : List ℕ) → Some e ≡ slice_get entries i
    → AddsFunctions before middle (flat_map (λ e. exported_function e.target) (take i entries)) → AddsFunctions middle now (exported_function e.target)
    → AddsFunctions before now (flat_map (λ e. exported_function e.target) (take (i + 1) entries))
adds_entry entries i e before middle now read first second = elim (slice_get_cases entries i).1 [
  | inl here ↦
      let same : e ≡ get_or entries i here.0 = some-inj e here.0 (read ∙ here.2) ∙ sym here.3 in
      adds_next (λ (e : Export). exported_function e.target) entries i here.0 before middle now here.1 first
      (subst (λ (e : Export). AddsFunctions middle now (exported_function e.target)) same second)
  | inr past ↦ let none = read ∙ past.1 in absurd cc
]

pub no_entry : {A : Type 0} (entries : List Export) (i : ℕ) → None ≡ slice_get entries i → i < length entries → A
no_entry entries i none less = elim (slice_get_cases entries i).1 [
  | inl here ↦ let some = none ∙ here.2 in absurd cc
  | inr past ↦ absurd (omega (arith, less, past.0))
]

-- ---- the whole

module _ (m : Module) (r : RecordedState) (k : KeptExports) where
  -- what bodies name, each once
  pub named_once : (bodies : List BodyParts) (none named : List ℕ) → none ≡ [] → map body_tree_of bodies ≡ m.bodies
      → AddsFunctions none named (flat_map referred_in (trees_of bodies)) → IsStrictlyIncreasing named → named ≡ rising (flat_map body_refs m.bodies)
  named_once bodies none named empty same adds ascends =
      let refs = flat_map body_refs m.bodies in
      let trees = flat_map-map referred_in (λ (body : BodyParts). tree_of body 0) bodies in
      let all = trees ∙ sym (flat_map-map body_refs body_tree_of bodies) ∙ ap (λ (bs : List BodyTree). flat_map body_refs bs) same in
      one_list 0 named (rising refs) (increasing named ascends) (rises refs)
      (λ f. adds f
      ∙ ap (λ (ns : List ℕ). has_number f ns || has_number f (flat_map referred_in (trees_of bodies))) empty
      ∙ ap (λ (ns : List ℕ). has_number f ns) all
      ∙ sym (has-rising f refs))

  -- what is named elsewhere
  pub named_elsewhere : (none first second now : List ℕ) (elements : List Elem) (values : List Value) → none ≡ [] → elements ≡ m.elements → values ≡ r.globals
      → AddsFunctions none first (flat_map referred_in_segment elements) → AddsFunctions first second (flat_map (λ e. exported_function e.target) k.entries)
      → AddsFunctions second now (flat_map value_refs values)
      → (f : ℕ) → has_number f now ≡ has_number f (refs_elsewhere m r k)
  named_elsewhere none first second now elements values empty same read segments exports globals f =
      let exported = flat_map (λ (e : Export). exported_function e.target) k.entries in
      adds_both none first now (flat_map referred_in_segment elements) (exported ++ flat_map value_refs values) segments
      (adds_both first second now exported (flat_map value_refs values) exports globals) f
      ∙ ap (λ (ns : List ℕ). has_number f ns || has_number f (flat_map referred_in_segment elements ++ (exported ++ flat_map value_refs values))) empty
      ∙ ap (λ (es : List Elem). has_number f (flat_map referred_in_segment es ++ (exported ++ flat_map value_refs values))) same
      ∙ ap (λ (vs : List Value). has_number f (flat_map referred_in_segment m.elements ++ (exported ++ flat_map value_refs vs))) read

  -- those that others don't have
  pub left_over : (others : BTreeSet ℕ) (named functions : List ℕ) → named ≡ rising (flat_map body_refs m.bodies) → ((f : ℕ)
      → has_number f others.keys ≡ has_number f (refs_elsewhere m r k))
      → functions ≡ filter (λ f. not (contains nat_cmp others f)) named → functions ≡ undeclared_functions m r k
  left_over others named functions once elsewhere made =
      made
      ∙ ap (λ (p : ℕ → Bool). filter p named) (λ i f. not ((contains-has f others.keys ∙ elsewhere f) i))
      ∙ ap (λ (ns : List ℕ). filter (λ f. not (has_number f (refs_elsewhere m r k))) ns) once
