-- The element segments of the output: the old ones, of which dropped ones are declarative, and the one that declares functions.
use Rattle.std.proofs.Common.{◌≡◌, ℕ, ◌+◌, List, [], ◌∷◌, ◌++◌, map, Bool, true, false, IsTrue, cond}
use Rattle.std.proofs.Common.{refl, sym, ap, subst, ◌∙◌, slice_get, All}
use Rattle.std.specs.Prelude.{is_some}
use Rattle.std.specs.List.{flat_map}
use Rattle.std.proofs.lemmas.List.Elements.{All-nil, All-cons, All-head, All-tail}
use Rattle.wz_types.specs.declared.types.RefKind.{RefKind}
use Rattle.wz_types.specs.declared.types.ValType.TheVariants.{FuncRef}
use Rattle.wz_code.specs.Trees.{Code}
use Rattle.wz_code.specs.References.{referred_in, AreIn}
use Rattle.wz_code.proofs.NumberLemmas.{Has, has-first, has-here, has-later}
use Rattle.wz_module.specs.Elements.{ElemMode, PassiveElem, Elem, function_reference}
use Rattle.wz_module.specs.References.{referred_in_mode, referred_in_segment}
use Rattle.wz_valid_code.specs.Context.{TypingContext}
use Rattle.wz_valid_code.specs.Typing.{IsConstant}
use Rattle.wz_encode.specs.Laws.{DroppedArePassive}
use Rattle.wz_encode.specs.Elements.{is_dropped, as_declarative, kept_elements, declaring, declarations}
use Rattle.wz_rewrite.proofs.ConstantLemmas.{function-ok}

-- ---- what they name, their kinds, and what holds of each

one-same : (b : Bool) (e : Elem) → (b ≡ true → e.mode ≡ PassiveElem) → referred_in_segment (cond b (as_declarative e) e) ≡ referred_in_segment e
one-same true e passive = ap (λ (mode : ElemMode). referred_in_mode mode ++ flat_map referred_in e.init) (sym (passive refl))
one-same false e passive = refl

-- what a dropped passive segment names it names as a declarative one too
pub kept-refs : (dropped : List ℕ) (n : ℕ) (es : List Elem) → DroppedArePassive dropped n es
    → flat_map referred_in_segment (kept_elements dropped n es) ≡ flat_map referred_in_segment es
kept-refs dropped n [] passive = refl
kept-refs dropped n (e ∷ es) passive =
    ap (λ (ns : List ℕ). ns ++ flat_map referred_in_segment (kept_elements dropped (n + 1) es)) (one-same (is_dropped dropped n) e passive.0)
    ∙ ap (λ (ns : List ℕ). referred_in_segment e ++ ns) (kept-refs dropped (n + 1) es passive.1)

one-kind : (b : Bool) (e : Elem) (kinds : List RefKind) → (cond b (as_declarative e) e).kind ∷ kinds ≡ e.kind ∷ kinds
one-kind true e kinds = refl
one-kind false e kinds = refl

pub kept-kinds : (dropped : List ℕ) (n : ℕ) (es : List Elem) → map (λ e. e.kind) (kept_elements dropped n es) ≡ map (λ e. e.kind) es
kept-kinds dropped n [] = refl
kept-kinds dropped n (e ∷ es) =
    one-kind (is_dropped dropped n) e (map (λ e. e.kind) (kept_elements dropped (n + 1) es)) ∙ ap (λ (kinds : List RefKind). e.kind ∷ kinds) (kept-kinds dropped (n + 1) es)

module _ (P : Elem → Type 0) (still : (e : Elem) → P e → P (as_declarative e)) where
  one-all : (b : Bool) (e : Elem) → P e → P (cond b (as_declarative e) e)
  one-all true e ok = still e ok
  one-all false e ok = ok

  pub kept-all : (dropped : List ℕ) (n : ℕ) (es : List Elem) → All P es → All P (kept_elements dropped n es)
  kept-all dropped n [] ok = All-nil P
  kept-all dropped n (e ∷ es) ok =
      All-cons P (cond (is_dropped dropped n) (as_declarative e) e) (kept_elements dropped (n + 1) es) (one-all (is_dropped dropped n) e (All-head P e es ok))
      (kept-all dropped (n + 1) es (All-tail P e es ok))

-- ---- the segment that declares functions

refs-own : (fs : List ℕ) → flat_map referred_in (map function_reference fs) ≡ fs
refs-own [] = refl
refs-own (f ∷ fs) = ap (λ (ns : List ℕ). f ∷ ns) (refs-own fs)

pub declares : (fs : List ℕ) → AreIn fs (flat_map referred_in_segment (map declaring (declarations fs)))
declares [] f h = h
declares (g ∷ fs) f h =
    has-first f (referred_in_segment (declaring (g ∷ fs))) [] (subst (λ (ns : List ℕ). Has f ns) (sym (refs-own (g ∷ fs))) h)

pub references-ok : (context : TypingContext) (fs : List ℕ) → AreIn fs context.declared → All (λ f. IsTrue (is_some (slice_get context.functions f))) fs
    → All (λ init. IsConstant context init FuncRef) (map function_reference fs)
references-ok context [] inside there = All-nil (λ (init : Code). IsConstant context init FuncRef)
references-ok context (f ∷ fs) inside there =
    let P : ℕ → Type 0 = λ f. IsTrue (is_some (slice_get context.functions f)) in
    All-cons (λ (init : Code). IsConstant context init FuncRef) (function_reference f) (map function_reference fs)
    (function-ok context f (All-head P f fs there) (inside f (has-here f fs)))
    (references-ok context fs (λ g h. inside g (has-later g f fs h)) (All-tail P f fs there))

pub declared-all : (P : Elem → Type 0) (fs : List ℕ) → P (declaring fs) → All P (map declaring (declarations fs))
declared-all P [] ok = All-nil P
declared-all P (f ∷ fs) ok = All-cons P (declaring (f ∷ fs)) [] ok (All-nil P)
