-- A step of the machine's stacks, by what their innermost code comes to.
use Rattle.std.proofs.Common.{◌≡◌, ◌≤◌, ◌<◌, ℕ, ◌-◌, ◌==◌, List, [], ◌∷◌, ◌++◌, Some, if◌then◌else◌, length, take, drop, slice_get, take_all, refl, ap, sym, subst, ◌∙◌, arith}
use Rattle.std.proofs.lemmas.List.{length-drop}
use Rattle.std.proofs.lemmas.Bool.Decides.{nat_tests}
use Rattle.wz_types.specs.declared.value.Value.{Value}
use Rattle.wz_code.specs.declared.instr.Instr.{Instr}
use Rattle.wz_code.specs.Trees.{code_in}
use Rattle.wz_store.specs.Changes.{Nothing, range_of}
use Rattle.wz_machine.specs.State.{State}
use Rattle.wz_machine.specs.Outcomes.{Finishes, Branches, Returns, Answer, Next, Done, Stuck}
use Rattle.wz_machine.specs.Step.{code_reduct, step}
use Rattle.wz_machine.specs.Contexts.{content_reduct}
use Rattle.wz_machine.specs.Flat.{content_of, layers_in, results_of, own_values, locals_in}
use Rattle.wz_machine.specs.Stacks.{EntryKind, CallEntry, BlockEntry, LoopEntry, Entry, StackParts, opened_of, flat_of, stacks_term, AreStacked, IsStacked}
use Rattle.wz_machine.specs.Landing.{landing, ending_in, ending, IsLeft}
use Rattle.wz_machine.specs.Turns.{own_of}
use Rattle.wz_machine.proofs.ContextLemmas.{step_within}
use Rattle.wz_machine.proofs.LandingLemmas.{branch-lands, branch-stuck, return-lands, end-lands}
use Rattle.wz_machine.proofs.KeptLemmas.{parts-same}

-- the values under the innermost entry's own are there
base-within : (s : StackParts) → IsStacked s → s.top.base ≤ length s.values
base-within s stacked = omega (arith, stacked.room.base, stacked.within)

pub jump-lands : (st : State) (s : StackParts) (label have : ℕ) → IsStacked s → label ≤ s.top.depth
    → content_reduct st (content_of (flat_of s)) ≡ Branches label (own_of s have) → step st (stacks_term s) ≡ landing label s.top s.outer s.values (own_of s have)
jump-lands st s label have stacked deep reduct =
    (step_within st (results_of (flat_of s).top (flat_of s).outer) (layers_in (flat_of s)) (content_of (flat_of s))).branches label (own_of s have) reduct
    ∙ branch-lands s.outer s.top s.values (locals_in (opened_of s.top) s.values) (own_of s have) label stacked.stacked stacked.room (base-within s stacked) deep refl

pub jump-stuck : (st : State) (s : StackParts) (label have : ℕ) → IsStacked s → s.top.depth < label
    → content_reduct st (content_of (flat_of s)) ≡ Branches label (own_of s have) → step st (stacks_term s) ≡ Stuck
jump-stuck st s label have stacked deep reduct =
    (step_within st (results_of (flat_of s).top (flat_of s).outer) (layers_in (flat_of s)) (content_of (flat_of s))).branches label (own_of s have) reduct
    ∙ branch-stuck s.outer s.top (take s.top.base s.values) (locals_in (opened_of s.top) s.values) (own_of s have) label stacked.stacked deep

pub back-lands : (st : State) (s : StackParts) (have : ℕ) → IsStacked s → content_reduct st (content_of (flat_of s)) ≡ Returns (own_of s have)
    → step st (stacks_term s) ≡ landing s.top.depth s.top s.outer s.values (own_of s have)
back-lands st s have stacked reduct =
    (step_within st (results_of (flat_of s).top (flat_of s).outer) (layers_in (flat_of s)) (content_of (flat_of s))).returns (own_of s have) reduct
    ∙ return-lands s.outer s.top s.values (own_of s have) stacked.stacked (base-within s stacked)

-- ---- the end of a block or a function

end-reduct : (st : State) (s : StackParts) → s.top.rest ≡ [] → content_reduct st (content_of (flat_of s)) ≡ Finishes (own_values (opened_of s.top) s.values)
end-reduct st s e =
    ap (λ (code : List Instr). code_reduct st (locals_in (opened_of s.top) s.values) (own_values (opened_of s.top) s.values) (code_in s.top.body code)) e

pub end-step : (st : State) (s : StackParts) → IsStacked s → s.top.rest ≡ [] → step st (stacks_term s) ≡ ending s.top s.outer s.values
end-step st s stacked e =
    (step_within st (results_of (flat_of s).top (flat_of s).outer) (layers_in (flat_of s)) (content_of (flat_of s))).ends (own_values (opened_of s.top) s.values) (end-reduct st s e)
    ∙ end-lands s.outer s.top s.values stacked.stacked (base-within s stacked)

same-true : (m n : ℕ) (a b : Answer) → m ≡ n → (if m == n then a else b) ≡ a
same-true m n a b e = grind (arith, nat_tests)

same-false : (m n : ℕ) (a b : Answer) → (m ≡ n → ⊥) → (if m == n then a else b) ≡ b
same-false m n a b e = grind (arith, nat_tests)

-- all own values
all-own : (s : StackParts) → s.top.height ≤ length s.values → range_of s.values s.top.height (length s.values - s.top.height) ≡ drop s.top.height s.values
all-own s le =
    let len : length (drop s.top.height s.values) ≡ length s.values - s.top.height = length-drop s.top.height s.values in
    take_all (length s.values - s.top.height) (drop s.top.height s.values) (omega (arith, len))

-- a call hasn't its results
stuck-in : (kind : EntryKind) (child parent : Entry) (parents : List Entry) (values : List Value) → kind ≡ CallEntry → (length (drop child.height values) ≡ child.arity → ⊥)
    → ending_in kind child parent parents values ≡ Stuck
stuck-in CallEntry child parent parents values e ne =
    same-false (length (drop child.height values)) child.arity (Next Nothing (stacks_term (record { top = parent; outer = parents; values = take child.base values ++ drop child.height values }))) Stuck ne
stuck-in BlockEntry child parent parents values e ne = cc
stuck-in (LoopEntry again) child parent parents values e ne = cc

ending-stuck : (outer : List Entry) (child : Entry) (values : List Value) → child.kind ≡ CallEntry → (length (drop child.height values) ≡ child.arity → ⊥)
    → ending child outer values ≡ Stuck
ending-stuck [] child values e ne = same-false (length (drop child.height values)) child.arity (Done (drop child.height values)) Stuck ne
ending-stuck (parent ∷ parents) child values e ne = stuck-in child.kind child parent parents values e ne

pub end-stuck : (st : State) (s : StackParts) → IsStacked s → s.top.rest ≡ [] → s.top.kind ≡ CallEntry → (length s.values - s.top.height ≡ s.top.arity → ⊥)
    → step st (stacks_term s) ≡ Stuck
end-stuck st s stacked rest e ne =
    end-step st s stacked rest ∙ ending-stuck s.outer s.top s.values e (λ h. ne (sym (length-drop s.top.height s.values) ∙ h))

ending-done : (outer : List Entry) (child : Entry) (values : List Value) → length outer ≡ 0 → length (drop child.height values) ≡ child.arity
    → ending child outer values ≡ Done (drop child.height values)
ending-done [] child values none e = same-true (length (drop child.height values)) child.arity (Done (drop child.height values)) Stuck e
ending-done (parent ∷ parents) child values none e = absurd (omega (arith, none))

pub end-done : (st : State) (s : StackParts) → IsStacked s → s.top.rest ≡ [] → length s.outer ≡ 0 → length s.values - s.top.height ≡ s.top.arity
    → step st (stacks_term s) ≡ Done (range_of s.values s.top.height (length s.values - s.top.height))
end-done st s stacked rest none e =
    end-step st s stacked rest ∙ ending-done s.outer s.top s.values none (length-drop s.top.height s.values ∙ e)
    ∙ ap (λ (vs : List Value). Done vs) (sym (all-own s stacked.within))

outermost-in : (outer : List Entry) (top : Entry) → AreStacked top outer → length outer ≡ 0 → top.kind ≡ CallEntry
outermost-in [] top stacked none = stacked.kind
outermost-in (parent ∷ parents) top stacked none = absurd (omega (arith, none))

-- the outermost entry is a call
pub outermost-call : (s : StackParts) → IsStacked s → length s.outer ≡ 0 → s.top.kind ≡ CallEntry
outermost-call s stacked none = outermost-in s.outer s.top stacked.stacked none

left-in : (kind : EntryKind) (child parent : Entry) (parents : List Entry) (values : List Value) → (kind ≡ CallEntry → length (drop child.height values) ≡ child.arity)
    → ending_in kind child parent parents values
    ≡ Next Nothing (stacks_term (record { top = parent; outer = parents; values = take child.base values ++ drop child.height values }))
left-in CallEntry child parent parents values e =
    same-true (length (drop child.height values)) child.arity (Next Nothing (stacks_term (record { top = parent; outer = parents; values = take child.base values ++ drop child.height values }))) Stuck (e refl)
left-in BlockEntry child parent parents values e = refl
left-in (LoopEntry again) child parent parents values e = refl

ending-left : (outer : List Entry) (child : Entry) (values : List Value) (now : StackParts) → (child.kind ≡ CallEntry → length (drop child.height values) ≡ child.arity)
    → slice_get outer 0 ≡ Some now.top → now.outer ≡ drop 1 outer → now.values ≡ take child.base values ++ drop child.height values
    → ending child outer values ≡ Next Nothing (stacks_term now)
ending-left [] child values now e top outer vals = cc
ending-left (parent ∷ parents) child values now e top outer vals =
    let is : parent ≡ now.top = cc in
    left-in child.kind child parent parents values e
    ∙ ap (λ (t : StackParts). Next Nothing (stacks_term t))
    (parts-same parent now.top parents now.outer (take child.base values ++ drop child.height values) now.values is (sym outer) (sym vals))

pub end-left : (st : State) (s now : StackParts) → IsStacked s → s.top.rest ≡ [] → (s.top.kind ≡ CallEntry → length s.values - s.top.height ≡ s.top.arity)
    → IsLeft s 0 s.top.base (length s.values) (length s.values - s.top.height) now → step st (stacks_term s) ≡ Next Nothing (stacks_term now)
end-left st s now stacked rest e left =
    let from : length s.values - (length s.values - s.top.height) ≡ s.top.height = omega (arith, stacked.within) in
    end-step st s stacked rest
    ∙ ending-left s.outer s.top s.values now (λ h. length-drop s.top.height s.values ∙ e h) left.parent left.outer
    (left.values ∙ ap (λ (vs : List Value). take s.top.base s.values ++ vs) (ap (λ n. range_of s.values n (length s.values - s.top.height)) from ∙ all-own s stacked.within))

-- ---- the same by a copy of the innermost entry, and the number of values

results-by : (s : StackParts) (t : Entry) (have : ℕ) → t ≡ s.top → have ≡ length s.values → (t.kind ≡ CallEntry → have - t.height ≡ t.arity)
    → s.top.kind ≡ CallEntry → length s.values - s.top.height ≡ s.top.arity
results-by s t have is is_have e =
    subst (λ (u : Entry). u.kind ≡ CallEntry → length s.values - u.height ≡ u.arity) is
    (subst (λ (h : ℕ). t.kind ≡ CallEntry → h - t.height ≡ t.arity) is_have e)

pub end-left-by : (st : State) (s now : StackParts) (t : Entry) (have : ℕ) → IsStacked s → s.top.rest ≡ [] → t ≡ s.top → have ≡ length s.values
    → (t.kind ≡ CallEntry → have - t.height ≡ t.arity) → IsLeft s 0 t.base have (have - t.height) now → step st (stacks_term s) ≡ Next Nothing (stacks_term now)
end-left-by st s now t have stacked rest is is_have e left =
    end-left st s now stacked rest (results-by s t have is is_have e)
    (subst (λ (u : Entry). IsLeft s 0 u.base (length s.values) (length s.values - u.height) now) is
    (subst (λ (h : ℕ). IsLeft s 0 t.base h (h - t.height) now) is_have left))

pub end-done-by : (st : State) (s : StackParts) (t : Entry) (have : ℕ) → IsStacked s → s.top.rest ≡ [] → t ≡ s.top → have ≡ length s.values → length s.outer ≡ 0
    → (t.kind ≡ CallEntry → have - t.height ≡ t.arity) → step st (stacks_term s) ≡ Done (range_of s.values t.height (have - t.height))
end-done-by st s t have stacked rest is is_have none e =
    end-done st s stacked rest none (results-by s t have is is_have e (outermost-call s stacked none))
    ∙ ap (λ (u : Entry). Done (range_of s.values u.height (length s.values - u.height))) (sym is)
    ∙ ap (λ (h : ℕ). Done (range_of s.values t.height (h - t.height))) (sym is_have)

pub end-stuck-by : (st : State) (s : StackParts) (t : Entry) (have : ℕ) → IsStacked s → s.top.rest ≡ [] → t ≡ s.top → have ≡ length s.values
    → t.kind ≡ CallEntry → (have - t.height ≡ t.arity → ⊥) → step st (stacks_term s) ≡ Stuck
end-stuck-by st s t have stacked rest is is_have kind ne =
    end-stuck st s stacked rest (ap (λ (u : Entry). u.kind) (sym is) ∙ kind)
    (subst (λ (u : Entry). length s.values - u.height ≡ u.arity → ⊥) is (subst (λ (h : ℕ). h - t.height ≡ t.arity → ⊥) is_have ne))
