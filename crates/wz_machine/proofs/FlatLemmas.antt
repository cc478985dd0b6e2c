-- A step of the innermost block of flat stacks is a step of the term that they stand for.
use Rattle.std.proofs.Common.{◌≡◌, ◌≤◌, ◌<◌, ℕ, ◌+◌, ◌-◌, List, [], ◌∷◌, ◌++◌, Some, None, length, take, drop, reverse, slice_set, refl, ap, sym, ◌∙◌, arith}
use Rattle.std.proofs.lemmas.List.{drop-take, take-take, take-set-le, drop-set-lt, take-append-le, drop-append-le, reverse-append, reverse-reverse}
use Rattle.std.proofs.Math.Seq.{take-set-lt, take-append_seam, drop-append_seam}
use Rattle.wz_types.specs.declared.value.Value.{Value}
use Rattle.wz_code.specs.Trees.{Code, Leaf, Then}
use Rattle.wz_store.specs.Changes.{Change, Nothing}
use Rattle.wz_machine.specs.State.{State}
use Rattle.wz_machine.specs.Terms.{Term}
use Rattle.wz_machine.specs.Outcomes.{Yields, Does, SetsLocals, Outcome, Goes, Next}
use Rattle.wz_machine.specs.InstrSteps.{leaf_step}
use Rattle.wz_machine.specs.Step.{outcome_reduct, code_reduct, step}
use Rattle.wz_machine.specs.Contexts.{FrameContent, Layer, LabelLayer, in_layer, term_in, code_content, content_reduct}
use Rattle.wz_machine.specs.Flat.{OpenKind, OpenFunction, OpenBlock, OpenLoop, Opened, FlatStacks, locals_in, own_values, layer_of, layers_of, results_of, content_of, layers_in, flat_term, HasPlaces, HasLocals, IsNested, PlainStep, LocalStep, opened_content, OpeningStep, LeavingTerm, LoopingTerm}
use Rattle.wz_machine.proofs.ContextLemmas.{step_within}

-- ---- parts of the list of values

-- a front of what has the same longer front
pub take-front : (n k : ℕ) (xs ys : List Value) → n ≤ k → take k xs ≡ take k ys → take n xs ≡ take n ys
take-front n k xs ys le e = sym (take-take n k xs le) ∙ ap (λ (zs : List Value). take n zs) e ∙ take-take n k ys le

-- the locals are the same where all below the own values is
pub locals-front : (opened : Opened) (k : ℕ) (xs ys : List Value) → opened.locals_at ≤ opened.locals_end → opened.locals_end ≤ k → take k xs ≡ take k ys
    → locals_in opened xs ≡ locals_in opened ys
locals-front opened k xs ys start end e =
    let n : ℕ = opened.locals_at in
    let m : ℕ = opened.locals_end - opened.locals_at in
    let le : n + m ≤ k = omega (arith, start, end) in
    sym (drop-take n m xs) ∙ ap (λ (zs : List Value). drop n zs) (take-front (n + m) k xs ys le e) ∙ drop-take n m ys

-- the values under a block, with more on top of them
own-append : (opened : Opened) (below carried : List Value) → opened.height ≤ length below
    → own_values opened (below ++ reverse carried) ≡ carried ++ own_values opened below
own-append opened below carried le =
    ap (λ (zs : List Value). reverse zs) (drop-append-le opened.height below (reverse carried) le)
    ∙ reverse-append (drop opened.height below) (reverse carried)
    ∙ ap (λ (zs : List Value). zs ++ reverse (drop opened.height below)) (reverse-reverse carried)

-- ---- the code that is left of the innermost block is no part of what is around it

pub moved-term : (opened : Opened) (rest : Code) (outer : List Opened) (below : List Value) (content : FrameContent)
    → term_in (results_of opened outer) (layers_of opened outer below) content
    ≡ term_in (results_of (record opened { rest = rest }) outer) (layers_of (record opened { rest = rest }) outer below) content
moved-term opened rest [] below content = refl
moved-term opened rest (parent ∷ parents) below content = refl

-- the innermost block goes on with this content
goes-on : (s : State) (m : FlatStacks) (rest : Code) (below : List Value) (change : Change) (new : FrameContent)
    → content_reduct s (content_of m) ≡ Goes change new.locals new.inside → layers_of m.top m.outer (take m.top.base m.values) ≡ layers_of m.top m.outer below
    → step s (flat_term m) ≡ Next change (term_in (results_of (record m.top { rest = rest }) m.outer) (layers_of (record m.top { rest = rest }) m.outer below) new)
goes-on s m rest below change new reduct same =
    (step_within s (results_of m.top m.outer) (layers_in m) (content_of m)).goes change new reduct
    ∙ ap (λ (layers : List Layer). Next change (term_in (results_of m.top m.outer) layers new)) same
    ∙ ap (λ (term : Term). Next change term) (moved-term m.top rest m.outer below new)

-- what an instruction in front of the code does
leaf-reduct : (s : State) (m : FlatStacks) (leaf : Leaf) (rest : Code) (outcome : Outcome) → m.top.rest ≡ Then leaf rest
    → leaf_step s (locals_in m.top m.values) leaf (own_values m.top m.values) ≡ outcome
    → content_reduct s (content_of m) ≡ outcome_reduct (locals_in m.top m.values) rest outcome
leaf-reduct s m leaf rest outcome at does =
    ap (λ (code : Code). code_reduct s (locals_in m.top m.values) (own_values m.top m.values) code) at
    ∙ ap (λ (o : Outcome). outcome_reduct (locals_in m.top m.values) rest o) does

pub plain_step : PlainStep
plain_step s m leaf rest change values at does placed front =
    let own : List Value = own_values m.top values in
    let locals : List Value = locals_in m.top m.values in
    let top : Opened = record m.top { rest = rest } in
    let same : locals ≡ locals_in m.top values = sym (locals-front m.top m.top.height values m.values placed.locals placed.height front) in
    goes-on s m rest (take m.top.base values) change (code_content locals own rest) (leaf-reduct s m leaf rest (Does (Yields change own)) at does)
    (ap (λ (below : List Value). layers_of m.top m.outer below) (sym (take-front m.top.base m.top.height values m.values placed.base front)))
    ∙ ap (λ (ls : List Value). Next change (term_in (results_of top m.outer) (layers_of top m.outer (take m.top.base values)) (code_content ls own rest))) same

-- ---- a local is set

-- the values under a label, where a local below them is set
label-set : (parent : Opened) (parents : List Opened) (below : List Value) (place : ℕ) (value : Value) (layer : List Value → Layer) → place < parent.height
    → layers_of parent parents (take parent.base (slice_set below place value)) ≡ layers_of parent parents (take parent.base below)
    → layer (own_values parent (slice_set below place value)) ∷ layers_of parent parents (take parent.base (slice_set below place value))
    ≡ layer (own_values parent below) ∷ layers_of parent parents (take parent.base below)
label-set parent parents below place value layer under same =
    let own : own_values parent (slice_set below place value) ≡ own_values parent below =
    ap (λ (zs : List Value). reverse zs) (drop-set-lt parent.height below place value under) in
    ap (λ (zs : List Value). layer zs ∷ layers_of parent parents (take parent.base (slice_set below place value))) own
    ∙ ap (λ (ls : List Layer). layer (own_values parent below) ∷ ls) same

-- a block has its function's locals, and so has the parent
parent-set : (kind : OpenKind) (child parent : Opened) (parents : List Opened) (xs : List Value) (place : ℕ) (value : Value)
    → HasLocals kind child parent → HasPlaces parent
    → child.locals_at ≤ place → place < child.locals_end
    → ((ys : List Value) → parent.locals_at ≤ place → place < parent.locals_end
    → layers_of parent parents (take parent.base (slice_set ys place value)) ≡ layers_of parent parents (take parent.base ys))
    → layer_of kind child.arity (own_values parent (take child.base (slice_set xs place value))) parent.rest (locals_in parent (take child.base (slice_set xs place value)))
    ∷ layers_of parent parents (take parent.base (take child.base (slice_set xs place value)))
    ≡ layer_of kind child.arity (own_values parent (take child.base xs)) parent.rest (locals_in parent (take child.base xs))
    ∷ layers_of parent parents (take parent.base (take child.base xs))
parent-set OpenFunction child parent parents xs place value has placed from to on =
    ap (λ (below : List Value). layer_of OpenFunction child.arity (own_values parent below) parent.rest (locals_in parent below) ∷ layers_of parent parents (take parent.base below))
    (take-set-le child.base xs place value (omega (arith, has, from)))
parent-set OpenBlock child parent parents xs place value has placed from to on =
    ap (λ (below : List Value). LabelLayer (own_values parent below) child.arity None parent.rest ∷ layers_of parent parents (take parent.base below))
    (take-set-lt child.base xs place value (omega (arith, has.2, to)))
    ∙ label-set parent parents (take child.base xs) place value (λ own. LabelLayer own child.arity None parent.rest) (omega (arith, has.1, placed.height, to))
    (on (take child.base xs) (omega (arith, has.0, from)) (omega (arith, has.1, to)))
parent-set (OpenLoop again) child parent parents xs place value has placed from to on =
    ap (λ (below : List Value). LabelLayer (own_values parent below) child.arity (Some again) parent.rest ∷ layers_of parent parents (take parent.base below))
    (take-set-lt child.base xs place value (omega (arith, has.2, to)))
    ∙ label-set parent parents (take child.base xs) place value (λ own. LabelLayer own child.arity (Some again) parent.rest) (omega (arith, has.1, placed.height, to))
    (on (take child.base xs) (omega (arith, has.0, from)) (omega (arith, has.1, to)))

-- the layers around a block are the same, since its function's locals are no part of them
layers-set : (parents : List Opened) (child : Opened) (xs : List Value) (place : ℕ) (value : Value)
    → IsNested child parents → child.locals_at ≤ place → place < child.locals_end
    → layers_of child parents (take child.base (slice_set xs place value)) ≡ layers_of child parents (take child.base xs)
layers-set [] child xs place value nested from to = refl
layers-set (parent ∷ parents) child xs place value nested from to =
    parent-set child.kind child parent parents xs place value nested.0 nested.1 from to (λ ys above below. layers-set parents parent ys place value nested.2 above below)

pub local_step : LocalStep
local_step s m leaf rest values place value at does placed nested from to front =
    let xs : List Value = take m.top.height m.values in
    let now : take m.top.base values ≡ take m.top.base (slice_set xs place value) =
    sym (take-take m.top.base m.top.height values placed.base) ∙ ap (λ (zs : List Value). take m.top.base zs) front in
    let same : layers_of m.top m.outer (take m.top.base values) ≡ layers_of m.top m.outer (take m.top.base m.values) =
    ap (λ (zs : List Value). layers_of m.top m.outer zs) now ∙ layers-set m.outer m.top xs place value nested from to
    ∙ ap (λ (zs : List Value). layers_of m.top m.outer zs) (take-take m.top.base m.top.height m.values placed.base) in
    goes-on s m rest (take m.top.base values) Nothing (code_content (locals_in m.top values) (own_values m.top values) rest)
    (leaf-reduct s m leaf rest (SetsLocals (locals_in m.top values) (own_values m.top values)) at does) (sym same)

-- ---- a block is opened, left or begun anew

pub opening_step : OpeningStep
opening_step s m rest new values reduct under =
    goes-on s m rest (take m.top.base (take new.base values)) Nothing (opened_content m rest new values) reduct
    (ap (λ (below : List Value). layers_of m.top m.outer below) (sym under))

pub leaving_term : LeavingTerm
leaving_term parent parents below carried placed le =
    let values : List Value = below ++ reverse carried in
    let whole : List Value → List Value → List Value → Term =
    λ xs locals own. term_in (results_of parent parents) (layers_of parent parents xs) (code_content locals own parent.rest) in
    let base : take parent.base values ≡ take parent.base below = take-append-le parent.base below (reverse carried) (omega (arith, placed.base, le)) in
    let locals : locals_in parent values ≡ locals_in parent below =
    locals-front parent parent.height values below placed.locals placed.height (take-append-le parent.height below (reverse carried) le) in
    sym (ap (λ (xs : List Value). whole xs (locals_in parent values) (own_values parent values)) base
    ∙ ap (λ (ls : List Value). whole (take parent.base below) ls (own_values parent values)) locals
    ∙ ap (λ (own : List Value). whole (take parent.base below) (locals_in parent below) own) (own-append parent below carried le))

-- the layer of a loop, whose kind is known
looping : (kind : OpenKind) (child : Opened) (again : Code) (parent : Opened) (layers : List Layer) (results : ℕ) (below locals : List Value) (content : FrameContent)
    → kind ≡ OpenLoop again
    → term_in results layers (in_layer (LabelLayer below child.arity (Some again) parent.rest) content)
    ≡ term_in results (layer_of kind child.arity below parent.rest locals ∷ layers) content
looping kind child again parent layers results below locals content e =
    ap (λ (k : OpenKind). term_in results (layer_of k child.arity below parent.rest locals ∷ layers) content) (sym e)

pub looping_term : LoopingTerm
looping_term child again parent parents below carried kind base height end start =
    let values : List Value = below ++ reverse carried in
    let layers : List Value → List Layer =
    λ xs. layer_of child.kind child.arity (own_values parent xs) parent.rest (locals_in parent xs) ∷ layers_of parent parents (take parent.base xs) in
    let whole : List Value → List Value → List Value → Term =
    λ xs locals own. term_in (results_of parent parents) (layers xs) (code_content locals own again) in
    let all : take child.base values ≡ below = ap (λ (n : ℕ). take n values) base ∙ take-append_seam below (reverse carried) in
    let locals : locals_in child values ≡ locals_in child below =
    locals-front child (length below) values below start end (take-append-le (length below) below (reverse carried) (omega arith)) in
    let own : own_values child values ≡ carried =
    ap (λ (n : ℕ). reverse (drop n values)) height ∙ ap (λ (xs : List Value). reverse xs) (drop-append_seam below (reverse carried)) ∙ reverse-reverse carried in
    looping child.kind child again parent (layers_of parent parents (take parent.base below)) (results_of parent parents) (own_values parent below) (locals_in parent below)
    (code_content (locals_in child below) carried again) kind
    ∙ sym (ap (λ (xs : List Value). whole xs (locals_in child values) (own_values child values)) all
    ∙ ap (λ (ls : List Value). whole below ls (own_values child values)) locals
    ∙ ap (λ (vs : List Value). whole below (locals_in child below) vs) own)
