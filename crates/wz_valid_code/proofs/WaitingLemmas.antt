-- The blocks that wait, as they are taken up one after another: the body is typed exactly where all of them are.
use Rattle.std.proofs.Common.{◌≡◌, ◌≤◌, ◌<◌, ◌+◌, ℕ, zero, suc, List, [], ◌∷◌, ◌++◌, Option, Some, None, Bool, true, false, reverse, length, take, map, IsTrue, MatchBool, refl, ap, sym, subst, ◌∙◌, arith, append_assoc, length-append}
use Rattle.std.specs.Option.{option_to_list}
use Rattle.std.proofs.lemmas.List.{map-append, reverse-append, take-append-le, take_all, length-take}
use Rattle.wz_types.specs.declared.types.ValType.{ValType}
use Rattle.wz_code.specs.declared.instr.Instr.{Instr}
use Rattle.wz_code.specs.BodyParts.{BodyParts}
use Rattle.wz_code.specs.BlockRule.{NamesRise}
use Rattle.wz_code.specs.Trees.{Code, leaf_in, tree_of, code_in, arm_of}
use Rattle.wz_code.specs.Laws.{TreeOfBlock}
use Rattle.wz_valid_code.specs.Operands.{pushed}
use Rattle.wz_valid_code.specs.Rules.{Lead}
use Rattle.wz_valid_code.specs.Context.{Scope, Labels}
use Rattle.wz_valid_code.specs.Typing.{IsTyped}
use Rattle.wz_valid_code.specs.Blocks.{outer_rules, Inner, inner_of, inner_in, IsInnerTyped, AllTyped, arm_at}
use Rattle.wz_valid_code.specs.Waiting.{WaitingBlock, inner_at, labels_in, IsLed, AllDeep, Grown, DepthsRise}
use Rattle.wz_valid_code.proofs.BlockLemmas.{AllTyped-append, AllTyped-parts, total-append, flat-typed, typed-flat, inner-total, size, total}

-- the code of an arm
pub arm-block : TreeOfBlock → (body : BodyParts) → NamesRise body.blocks → (block : Option ℕ) → arm_of (λ k. tree_of body k) block ≡ code_in body (arm_at body.blocks block)
arm-block law body rise None = refl
arm-block law body rise (Some number) = law body number rise

AllDeep-append : (d : ℕ) (a b : List WaitingBlock) → AllDeep d a → AllDeep d b → AllDeep d (a ++ b)
AllDeep-append d [] b ha hb = hb
AllDeep-append d (w ∷ a) b ha hb = (ha.0, AllDeep-append d a b ha.1 hb)

append-none : {X : Type 0} (xs : List X) → xs ++ [] ≡ xs
append-none [] = refl
append-none (x ∷ xs) = ap (λ t. x ∷ t) (append-none xs)

pub grown-none : (labels : List (List ValType)) (old : List WaitingBlock) → Grown labels old old []
grown-none labels old = record { new_blocks = []; split = sym (append-none old); inner = refl; deep = tt }

pub grown-append : (labels : List (List ValType)) (a b c : List WaitingBlock) (p q : List Inner) → Grown labels a b p → Grown labels b c q → Grown labels a c (p ++ q)
grown-append labels a b c p q g h = record {
  new_blocks = g.new_blocks ++ h.new_blocks;
  split = h.split ∙ ap (λ x. x ++ h.new_blocks) g.split ∙ append_assoc a g.new_blocks h.new_blocks;
  inner = map-append (inner_at labels) g.new_blocks h.new_blocks ∙ cc (g.inner, h.inner);
  deep = AllDeep-append (length labels) g.new_blocks h.new_blocks g.deep h.deep;
}

-- one more, within all labels
pub grown-one : (labels : List (List ValType)) (old new : List WaitingBlock) (w : WaitingBlock) → new ≡ old ++ w ∷ [] → w.depth ≡ length labels
    → Grown labels old new (record { labels = w.label ∷ reverse labels; block = w.block; before = w.before; results = w.results } ∷ [])
grown-one labels old new w e d = record {
  new_blocks = w ∷ [];
  split = e;
  inner = ap (λ (ls : List (List ValType)). record { labels = w.label ∷ reverse ls; block = w.block; before = w.before; results = w.results } ∷ [])
      (ap (λ n. take n labels) d ∙ take_all (length labels) labels (omega arith));
  deep = (d, tt);
}

pub inner_in-append : (scope : Scope) (labels : Labels) (a b : List Instr) → inner_in scope labels (a ++ b) ≡ inner_in scope labels a ++ inner_in scope labels b
inner_in-append scope labels [] b = refl
inner_in-append scope labels (i ∷ a) b = ap (λ x. inner_of scope labels i ++ x) (inner_in-append scope labels a b)
    ∙ sym (append_assoc (inner_of scope labels i) (inner_in scope labels a) (inner_in scope labels b))

pub grown-turn : (scope : Scope) (labels : List (List ValType)) (a b c : List WaitingBlock) (done : List Instr) (i : Instr)
    → Grown labels a b (inner_in scope (reverse labels) done) → Grown labels b c (inner_of scope (reverse labels) i)
    → Grown labels a c (inner_in scope (reverse labels) (done ++ i ∷ []))
grown-turn scope labels a b c done i g h =
    let P : List Inner → Type 0 = λ x. Grown labels a c x in
    subst P (ap (λ x. inner_in scope (reverse labels) done ++ x) (sym (append-none (inner_of scope (reverse labels) i)))
    ∙ sym (inner_in-append scope (reverse labels) done (i ∷ [])))
    (grown-append labels a b c (inner_in scope (reverse labels) done) (inner_of scope (reverse labels) i) g h)

pub rises-within : (low : ℕ) (ws : List WaitingBlock) (high : ℕ) → DepthsRise low ws high → low ≤ high
rises-within low [] high h = h
rises-within low (w ∷ ws) high h = let more = rises-within w.depth ws high h.1 in omega (arith, h.0, more)

-- the last one apart
pub rises-last : (low : ℕ) (ws : List WaitingBlock) (w : WaitingBlock) (high : ℕ) → DepthsRise low (ws ++ w ∷ []) high → DepthsRise low ws w.depth × (w.depth ≤ high)
rises-last low [] w high h = h
rises-last low (v ∷ ws) w high h = let r = rises-last v.depth ws w high h.1 in ((h.0, r.0), r.1)

rises-deep : (low : ℕ) (ws : List WaitingBlock) (high : ℕ) → low ≤ high → AllDeep high ws → DepthsRise low ws high
rises-deep low [] high le d = le
rises-deep low (w ∷ ws) high le d = (omega (arith, d.0), rises-deep w.depth ws high (omega (arith, d.0)) d.1)

pub rises-more : (low : ℕ) (ws : List WaitingBlock) (mid : ℕ) (added : List WaitingBlock) (high : ℕ) → DepthsRise low ws mid → mid ≤ high → AllDeep high added
    → DepthsRise low (ws ++ added) high
rises-more low [] mid added high h le d = rises-deep low added high (omega (arith, h)) d
rises-more low (w ∷ ws) mid added high h le d = (h.0, rises-more w.depth ws mid added high h.1 le d)

take-front : (labels : List (List ValType)) (d n : ℕ) (l : List ValType) → n ≤ d → d ≤ length labels → take n (take d labels ++ l ∷ []) ≡ take n labels
take-front labels d n l le within =
    take-append-le n (take d labels) (l ∷ []) (simp length-take (omega arith)) ∙ front labels d n le
  where
    front : (labels : List (List ValType)) (d n : ℕ) → n ≤ d → take n (take d labels) ≡ take n labels
    front labels d zero h = refl
    front labels zero (suc n) h = absurd (omega arith)
    front [] (suc d) (suc n) h = refl
    front (x ∷ xs) (suc d) (suc n) h = ap (λ t. x ∷ t) (front xs d n (omega arith))

-- a label at depth d in place of those from there on changes nothing for what waits no deeper
pub pieces-same : (labels : List (List ValType)) (d : ℕ) (l : List ValType) (low : ℕ) (ws : List WaitingBlock) → d ≤ length labels → DepthsRise low ws d
    → map (inner_at (take d labels ++ l ∷ [])) ws ≡ map (inner_at labels) ws
pieces-same labels d l low [] within h = refl
pieces-same labels d l low (w ∷ ws) within h =
    let one = take-front labels d w.depth l (rises-within w.depth ws d h.1) within in
    let rest = pieces-same labels d l w.depth ws within h.1 in
    ap (λ (x : List (List ValType)). record { labels = w.label ∷ reverse x; block = w.block; before = w.before; results = w.results } ∷ map (inner_at (take d labels ++ l ∷ []))
    ws) one
    ∙ ap (λ x. inner_at labels w ∷ x) rest

-- what waits is typed exactly where the body is
pub record Waiting (scope : Scope) (body : BodyParts) (results : List ValType) (labels : List (List ValType)) (work : List WaitingBlock) : Type 0 where
  pub rises : DepthsRise 0 work (length labels)
  pub complete : IsTyped scope (results ∷ []) (tree_of body 0) [] results → AllTyped scope (λ k. tree_of body k) (map (inner_at labels) work)
  pub sound : AllTyped scope (λ k. tree_of body k) (map (inner_at labels) work) → IsTyped scope (results ∷ []) (tree_of body 0) [] results

pub waiting-start : (scope : Scope) (body : BodyParts) (results : List ValType) → Waiting scope body results
    [] (record { block = Some 0; depth = 0; before = []; results = results; label = results } ∷ [])
waiting-start scope body results = record {
  rises = (omega arith, omega arith);
  complete = λ t. (t, tt);
  sound = λ h. h.0;
}

labels_in-reverse : (labels : List (List ValType)) (w : WaitingBlock) → reverse (labels_in labels w) ≡ w.label ∷ reverse (take w.depth labels)
labels_in-reverse labels w = reverse-append (take w.depth labels) (w.label ∷ [])

labels_in-length : (labels : List (List ValType)) (w : WaitingBlock) → w.depth ≤ length labels → length (labels_in labels w) ≡ w.depth + 1
labels_in-length labels w h = simp (length-append, length-take) (omega arith)

module _ (scope : Scope) (body : BodyParts) (law : TreeOfBlock) (rise : NamesRise body.blocks) (labels : List (List ValType)) (w : WaitingBlock) where
  one-flat : IsInnerTyped scope (λ k. tree_of body k) (inner_at labels w) → Lead
      (outer_rules scope (reverse (labels_in labels w)) (λ instr. leaf_in body instr) (arm_at body.blocks w.block)) (pushed w.before []) w.results
      × AllTyped scope (λ k. tree_of body k) (inner_in scope (reverse (labels_in labels w)) (arm_at body.blocks w.block))
  one-flat h =
      let P : Labels → Code → Type 0 = λ ls code. IsTyped scope ls code (pushed w.before []) w.results in
      let Q : Labels → Type 0 = λ ls. P ls (code_in body (arm_at body.blocks w.block)) in
      let R : Code → Type 0 = λ code. P (w.label ∷ reverse (take w.depth labels)) code in
      typed-flat scope (λ instr. leaf_in body instr) (λ k. tree_of body k) (reverse (labels_in labels w)) w.results (arm_at body.blocks w.block) (pushed w.before [])
      (subst Q (sym (labels_in-reverse labels w)) (subst R (arm-block law body rise w.block) h))

  flat-one : Lead (outer_rules scope (reverse (labels_in labels w)) (λ instr. leaf_in body instr) (arm_at body.blocks w.block)) (pushed w.before []) w.results
      → AllTyped scope (λ k. tree_of body k) (inner_in scope (reverse (labels_in labels w)) (arm_at body.blocks w.block))
      → IsInnerTyped scope (λ k. tree_of body k) (inner_at labels w)
  flat-one f h =
      let P : Labels → Code → Type 0 = λ ls code. IsTyped scope ls code (pushed w.before []) w.results in
      let Q : Labels → Type 0 = λ ls. P ls (code_in body (arm_at body.blocks w.block)) in
      let R : Code → Type 0 = λ code. P (w.label ∷ reverse (take w.depth labels)) code in
      subst R (sym (arm-block law body rise w.block)) (subst Q (labels_in-reverse labels w)
      (flat-typed scope (λ instr. leaf_in body instr) (λ k. tree_of body k) (reverse (labels_in labels w)) w.results (arm_at body.blocks w.block) (pushed w.before []) f h))

  -- the work after w is taken up, as pieces
  grown-pieces : (ws new : List WaitingBlock) → DepthsRise 0 ws w.depth → w.depth ≤ length labels
      → (g : Grown (labels_in labels w) ws new (inner_in scope (reverse (labels_in labels w)) (arm_at body.blocks w.block))) → map (inner_at (labels_in labels w)) new
      ≡ map (inner_at labels) ws ++ inner_in scope (reverse (labels_in labels w)) (arm_at body.blocks w.block)
  grown-pieces ws new up within g =
      let old = pieces-same labels w.depth w.label 0 ws within up in
      ap (λ x. map (inner_at (labels_in labels w)) x) g.split ∙ map-append (inner_at (labels_in labels w)) ws g.new_blocks ∙ cc (old, g.inner)

  pub waiting-turn : (results : List ValType) (ws new : List WaitingBlock) → Waiting scope body results labels (ws ++ w ∷ [])
      → Lead (outer_rules scope (reverse (labels_in labels w)) (λ instr. leaf_in body instr) (arm_at body.blocks w.block)) (pushed w.before []) w.results
      → Grown (labels_in labels w) ws new (inner_in scope (reverse (labels_in labels w)) (arm_at body.blocks w.block)) → Waiting scope body results (labels_in labels w) new
  waiting-turn results ws new waits f g =
      let up = rises-last 0 ws w (length labels) waits.rises in
      let made = grown-pieces ws new up.0 up.1 g in
      let P : List Inner → Type 0 = λ x. AllTyped scope (λ k. tree_of body k) x in
      let deeper = labels_in-length labels w up.1 in
      let R : List WaitingBlock → Type 0 = λ x. DepthsRise 0 x (length (labels_in labels w)) in
      record {
        rises = subst R (sym g.split) (rises-more 0 ws w.depth g.new_blocks (length (labels_in labels w)) up.0 (omega (arith, deeper)) g.deep);
        complete = λ t.
            let whole = subst P (map-append (inner_at labels) ws (w ∷ [])) (waits.complete t) in
            let p = AllTyped-parts scope (λ k. tree_of body k) (map (inner_at labels) ws) (inner_at labels w ∷ []) whole in
            subst P (sym made) (AllTyped-append scope (λ k. tree_of body k) (map (inner_at labels) ws)
            (inner_in scope (reverse (labels_in labels w)) (arm_at body.blocks w.block)) p.0 (one-flat p.1.0).1);
        sound = λ h.
            let p = AllTyped-parts scope (λ k. tree_of body k) (map (inner_at labels) ws) (inner_in scope (reverse (labels_in labels w)) (arm_at body.blocks w.block))
            (subst P made h) in
            waits.sound (subst P (sym (map-append (inner_at labels) ws (w ∷ [])))
            (AllTyped-append scope (λ k. tree_of body k) (map (inner_at labels) ws) (inner_at labels w ∷ []) p.0 (flat-one f p.1, tt)));
      }

  pub waiting-stuck : (results : List ValType) (ws : List WaitingBlock) → Waiting scope body results labels (ws ++ w ∷ [])
      → (Lead (outer_rules scope (reverse (labels_in labels w)) (λ instr. leaf_in body instr) (arm_at body.blocks w.block)) (pushed w.before []) w.results → ⊥)
      → IsTyped scope (results ∷ []) (tree_of body 0) [] results → ⊥
  waiting-stuck results ws waits short t =
      let P : List Inner → Type 0 = λ x. AllTyped scope (λ k. tree_of body k) x in
      let whole = subst P (map-append (inner_at labels) ws (w ∷ [])) (waits.complete t) in
      let p = AllTyped-parts scope (λ k. tree_of body k) (map (inner_at labels) ws) (inner_at labels w ∷ []) whole in
      short (one-flat p.1.0).0

  pub waiting-less : (results : List ValType) (ws new : List WaitingBlock) → Waiting scope body results labels (ws ++ w ∷ [])
      → Grown (labels_in labels w) ws new (inner_in scope (reverse (labels_in labels w)) (arm_at body.blocks w.block))
      → total (λ k. tree_of body k) (map (inner_at (labels_in labels w)) new) < total (λ k. tree_of body k) (map (inner_at labels) (ws ++ w ∷ []))
  waiting-less results ws new waits g =
      let up = rises-last 0 ws w (length labels) waits.rises in
      let T : List Inner → ℕ = λ x. total (λ k. tree_of body k) x in
      let made = ap T (grown-pieces ws new up.0 up.1 g) ∙ total-append (λ k. tree_of body k) (map (inner_at labels) ws)
      (inner_in scope (reverse (labels_in labels w)) (arm_at body.blocks w.block)) in
      let old = ap T (map-append (inner_at labels) ws (w ∷ [])) ∙ total-append (λ k. tree_of body k) (map (inner_at labels) ws) (inner_at labels w ∷ []) in
      let less = inner-total scope (λ instr. leaf_in body instr) (λ k. tree_of body k) (reverse (labels_in labels w)) (arm_at body.blocks w.block) in
      let code = ap size (arm-block law body rise w.block) in
      omega (arith, made, old, less, code)

after_taking-up : (work ws : List WaitingBlock) (r : Option WaitingBlock) (w : WaitingBlock) → work ≡ ws ++ option_to_list r → r ≡ Some w → work ≡ ws ++ w ∷ []
after_taking-up work ws r w e is = e ∙ ap (λ (x : Option WaitingBlock). ws ++ option_to_list x) is

match-true : (b : Bool) (P Q : Type 0) → b ≡ true → MatchBool b P Q → P
match-true true P Q e h = h
match-true false P Q e h = absurd (cc)

match-false : (b : Bool) (P Q : Type 0) → b ≡ false → MatchBool b P Q → Q
match-false true P Q e h = absurd (cc)
match-false false P Q e h = h

-- one turn of the loop over what waits: w is taken up, and the answer is b
module _ (scope : Scope) (body : BodyParts) (law : TreeOfBlock) (rise : NamesRise body.blocks) (results : List ValType) (labels : List (List ValType))
    (work ws : List WaitingBlock) (r : Option WaitingBlock) (w : WaitingBlock) (e : work ≡ ws ++ option_to_list r) (is : r ≡ Some w)
    (waits : Waiting scope body results labels work) (b : Bool) where
  one-waits : Waiting scope body results labels (ws ++ w ∷ [])
  one-waits = let P : List WaitingBlock → Type 0 = λ x. Waiting scope body results labels x in subst P (after_taking-up work ws r w e is) waits

  pub turn-refused : b ≡ false → MatchBool b (IsLed scope (λ instr. leaf_in body instr) body.blocks labels w)
      (IsLed scope (λ instr. leaf_in body instr) body.blocks labels w → ⊥) → IsTyped scope (results ∷ []) (tree_of body 0) [] results → ⊥
  turn-refused refused h = waiting-stuck scope body law rise labels w results ws one-waits
      (match-false b (IsLed scope (λ instr. leaf_in body instr) body.blocks labels w) (IsLed scope (λ instr. leaf_in body instr) body.blocks labels w → ⊥) refused h)

  pub turn-after_taking : (labels' : List (List ValType)) (new : List WaitingBlock) → b ≡ true
      → MatchBool b (IsLed scope (λ instr. leaf_in body instr) body.blocks labels w) (IsLed scope (λ instr. leaf_in body instr) body.blocks labels w → ⊥)
      → (IsTrue b → Grown (labels_in labels w) ws new (inner_in scope (reverse (labels_in labels w)) (arm_at body.blocks w.block))) → labels' ≡ labels_in labels w
      → Waiting scope body results labels' new
  turn-after_taking labels' new yes' h g same =
      let P : List (List ValType) → Type 0 = λ x. Waiting scope body results x new in
      subst P (sym same) (waiting-turn scope body law rise labels w results ws new one-waits
      (match-true b (IsLed scope (λ instr. leaf_in body instr) body.blocks labels w) (IsLed scope (λ instr. leaf_in body instr) body.blocks labels w → ⊥) yes' h) (g yes'))

  pub turn-less : (labels' : List (List ValType)) (new : List WaitingBlock) → b ≡ true
      → (IsTrue b → Grown (labels_in labels w) ws new (inner_in scope (reverse (labels_in labels w)) (arm_at body.blocks w.block))) → labels' ≡ labels_in labels w
      → total (λ k. tree_of body k) (map (inner_at labels') new) < total (λ k. tree_of body k) (map (inner_at labels) work)
  turn-less labels' new yes' g same =
      let less = waiting-less scope body law rise labels w results ws new one-waits (g yes') in
      let here = ap (λ (x : List (List ValType)). total (λ k. tree_of body k) (map (inner_at x) new)) same in
      let there = ap (λ (x : List WaitingBlock). total (λ k. tree_of body k) (map (inner_at labels) x)) (after_taking-up work ws r w e is) in
      omega (arith, less, here, there)
