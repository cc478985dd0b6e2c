-- A branch, a return and an end within the layers that the machine's stacks stand for lead where `landing` and `ending` say.
use Rattle.std.proofs.Common.{◌≡◌, ◌≤◌, ◌<◌, ℕ, zero, suc, ◌+◌, ◌-◌, nat_le, ◌==◌, List, [], ◌∷◌, ◌++◌, Some, if◌then◌else◌, length, take, drop, reverse, map, refl, ap, sym, ◌∙◌, arith}
use Rattle.std.proofs.lemmas.List.{drop-take, take-take, length-take-le, length-reverse, reverse-reverse}
use Rattle.wz_types.specs.declared.value.Value.{Value}
use Rattle.wz_code.specs.Trees.{Code, code_in}
use Rattle.wz_store.specs.Changes.{Nothing}
use Rattle.wz_machine.specs.Terms.{Innermost, InLabel, Term}
use Rattle.wz_machine.specs.Outcomes.{Answer, Next, Done, Stuck}
use Rattle.wz_machine.specs.Contexts.{Layer, term_in, code_content, branch_answer, return_answer, end_answer}
use Rattle.wz_machine.specs.Flat.{locals_in, own_values, layer_of, layers_of, results_of, HasPlaces}
use Rattle.wz_machine.specs.Stacks.{EntryKind, CallEntry, BlockEntry, LoopEntry, Entry, open_kind, opened_of, stacks_term, HasRoom, IsBlockIn, IsKindIn, AreStacked}
use Rattle.wz_machine.specs.Landing.{arrived, landing, ending_in, ending}
use Rattle.wz_machine.proofs.FlatLemmas.{leaving_term, looping_term}

-- ---- what is known of a parent

places : (entry : Entry) → HasRoom entry → HasPlaces (opened_of entry)
places entry room = record { base = room.base; locals = room.locals; height = room.height }

-- the values under a child: they hold all that belongs to the parent
under : (child parent : Entry) (values : List Value) → child.base ≤ length values → parent.height ≤ child.base → parent.height ≤ length (take child.base values)
under child parent values within le = rw (length-take-le child.base values within) le

-- a block has its parent's locals, and these lie below it
same-locals : (child parent : Entry) (values : List Value) → IsBlockIn child parent → HasRoom parent → locals_in (opened_of child) values ≡ locals_in (opened_of parent) values
same-locals child parent values inside room = cc (inside.starts, inside.ends)

locals-below : (child parent : Entry) (values : List Value) → IsBlockIn child parent → HasRoom parent
    → locals_in (opened_of parent) (take child.base values) ≡ locals_in (opened_of child) values
locals-below child parent values inside room =
    let n : ℕ = parent.locals_at in
    let m : ℕ = parent.locals_end - parent.locals_at in
    let le : n + m ≤ child.base = omega (arith, inside.ends, inside.locals, room.locals) in
    sym (drop-take n m (take child.base values)) ∙ ap (λ (vs : List Value). drop n vs) (take-take (n + m) child.base values le) ∙ drop-take n m values
    ∙ sym (same-locals child parent values inside room)

-- its own locals lie below it
loop-locals : (child : Entry) (values : List Value) → HasRoom child → child.locals_end ≤ child.base
    → locals_in (opened_of child) values ≡ locals_in (opened_of child) (take child.base values)
loop-locals child values room le =
    let n : ℕ = child.locals_at in
    let m : ℕ = child.locals_end - child.locals_at in
    let fits : n + m ≤ child.base = omega (arith, le, room.locals) in
    sym (drop-take n m values) ∙ ap (λ (vs : List Value). drop n vs) (sym (take-take (n + m) child.base values fits)) ∙ drop-take n m (take child.base values)

-- ---- leaving

-- what is carried goes on the values under the child
left-term : (child parent : Entry) (parents : List Entry) (values carried : List Value) → HasRoom parent → child.base ≤ length values → parent.height ≤ child.base
    → term_in (results_of (opened_of parent) (map opened_of parents)) (layers_of (opened_of parent) (map opened_of parents) (take parent.base (take child.base values)))
    (code_content (locals_in (opened_of parent) (take child.base values)) (carried ++ own_values (opened_of parent) (take child.base values)) (opened_of parent).rest)
    ≡ stacks_term (record { top = parent; outer = parents; values = take child.base values ++ reverse carried })
left-term child parent parents values carried room within le =
    leaving_term (opened_of parent) (map opened_of parents) (take child.base values) carried (places parent room) (under child parent values within le)

-- the same from a block, whose locals stand around it
block-term : (child parent : Entry) (parents : List Entry) (values locals carried : List Value) → IsBlockIn child parent → HasRoom parent → child.base ≤ length values
    → parent.height ≤ child.base → locals ≡ locals_in (opened_of child) values
    → term_in (results_of (opened_of parent) (map opened_of parents)) (layers_of (opened_of parent) (map opened_of parents) (take parent.base (take child.base values)))
    (code_content locals (carried ++ own_values (opened_of parent) (take child.base values)) (opened_of parent).rest)
    ≡ stacks_term (record { top = parent; outer = parents; values = take child.base values ++ reverse carried })
block-term child parent parents values locals carried inside room within le same =
    let at : locals ≡ locals_in (opened_of parent) (take child.base values) = same ∙ sym (locals-below child parent values inside room) in
    ap (λ (ls : List Value). term_in (results_of (opened_of parent) (map opened_of parents))
    (layers_of (opened_of parent) (map opened_of parents) (take parent.base (take child.base values)))
    (code_content ls (carried ++ own_values (opened_of parent) (take child.base values)) (opened_of parent).rest)) at
    ∙ left-term child parent parents values carried room within le

-- ---- a branch

-- what is inside the child's layer goes to its own label
land-here : (kind : EntryKind) (child parent : Entry) (parents : List Entry) (values locals found : List Value) → child.kind ≡ kind → IsKindIn kind child parent
    → HasRoom child → HasRoom parent → child.base ≤ length values → parent.height ≤ child.base → locals ≡ locals_in (opened_of child) values
    → branch_answer (results_of (opened_of parent) (map opened_of parents))
    (layer_of (open_kind child.body kind) child.arity (own_values (opened_of parent) (take child.base values)) (opened_of parent).rest
    (locals_in (opened_of parent) (take child.base values)) ∷ layers_of (opened_of parent) (map opened_of parents) (take parent.base (take child.base values)))
    locals zero found
    ≡ (if nat_le child.arity (length found)
    then Next Nothing (stacks_term (arrived kind child parent parents (take child.base values) (reverse (take child.arity found)))) else Stuck)
land-here CallEntry child parent parents values locals found is inside own room within le same =
    ap (λ (term : Term). if nat_le child.arity (length found) then Next Nothing term else Stuck)
    (left-term child parent parents values (take child.arity found) room within le)
land-here BlockEntry child parent parents values locals found is inside own room within le same =
    ap (λ (term : Term). if nat_le child.arity (length found) then Next Nothing term else Stuck)
    (block-term child parent parents values locals (take child.arity found) inside room within le same)
land-here (LoopEntry again) child parent parents values locals found is inside own room within le same =
    let below : List Value = take child.base values in
    let len : length below ≡ child.base = length-take-le child.base values within in
    let code : Code = code_in child.body again in
    let at : locals ≡ locals_in (opened_of child) below = same ∙ loop-locals child values own inside.locals in
    ap (λ (ls : List Value). if nat_le child.arity (length found)
    then Next Nothing (term_in (results_of (opened_of parent) (map opened_of parents)) (layers_of (opened_of parent) (map opened_of parents) (take parent.base below))
    (record { locals = ls; inside = InLabel (own_values (opened_of parent) below) child.arity (Some code) (Innermost (take child.arity found) code) (opened_of parent).rest }))
    else Stuck) at
    ∙ ap (λ (term : Term). if nat_le child.arity (length found) then Next Nothing term else Stuck)
    (looping_term (opened_of child) code (opened_of parent) (map opened_of parents) below (take child.arity found)
    (ap (λ (k : EntryKind). open_kind child.body k) is) (sym len) (inside.height ∙ sym len) (rw len inside.locals) own.locals)

from-block : (child parent : Entry) (parents : List Entry) (values locals found : List Value) (label : ℕ) → IsBlockIn child parent → HasRoom parent
    → parent.height ≤ child.base → suc label ≤ child.depth → locals ≡ locals_in (opened_of child) values
    → ((ls : List Value) → label ≤ parent.depth → ls ≡ locals_in (opened_of parent) values
    → branch_answer (results_of (opened_of parent) (map opened_of parents)) (layers_of (opened_of parent) (map opened_of parents) (take parent.base values)) ls label found
    ≡ landing label parent parents values found)
    → branch_answer (results_of (opened_of parent) (map opened_of parents))
    (layers_of (opened_of parent) (map opened_of parents) (take parent.base (take child.base values))) locals label found
    ≡ landing label parent parents values found
from-block child parent parents values locals found label inside room le deep same on =
    let base : parent.base ≤ child.base = omega (arith, le, room.base) in
    ap (λ (vs : List Value). branch_answer (results_of (opened_of parent) (map opened_of parents)) (layers_of (opened_of parent) (map opened_of parents) vs) locals label found)
    (take-take parent.base child.base values base)
    ∙ on locals (omega (arith, inside.depth, deep)) (same ∙ same-locals child parent values inside room)

-- a child of a block's kind goes outwards with a greater label, a call has none
land-outwards : (kind : EntryKind) (child parent : Entry) (parents : List Entry) (values locals found : List Value) (label : ℕ) → IsKindIn kind child parent
    → HasRoom parent → parent.height ≤ child.base → suc label ≤ child.depth → locals ≡ locals_in (opened_of child) values
    → ((ls : List Value) → label ≤ parent.depth → ls ≡ locals_in (opened_of parent) values
    → branch_answer (results_of (opened_of parent) (map opened_of parents)) (layers_of (opened_of parent) (map opened_of parents) (take parent.base values)) ls label found
    ≡ landing label parent parents values found)
    → branch_answer (results_of (opened_of parent) (map opened_of parents))
    (layer_of (open_kind child.body kind) child.arity (own_values (opened_of parent) (take child.base values)) (opened_of parent).rest
    (locals_in (opened_of parent) (take child.base values)) ∷ layers_of (opened_of parent) (map opened_of parents) (take parent.base (take child.base values)))
    locals (suc label) found
    ≡ landing label parent parents values found
land-outwards CallEntry child parent parents values locals found label inside room le deep same on = absurd (omega (arith, inside.depth, deep))
land-outwards BlockEntry child parent parents values locals found label inside room le deep same on =
    from-block child parent parents values locals found label inside room le deep same on
land-outwards (LoopEntry again) child parent parents values locals found label inside room le deep same on =
    from-block child parent parents values locals found label inside room le deep same on

pub branch-lands : (outer : List Entry) (child : Entry) (values locals found : List Value) (label : ℕ) → AreStacked child outer → HasRoom child
    → child.base ≤ length values → label ≤ child.depth → locals ≡ locals_in (opened_of child) values
    → branch_answer (results_of (opened_of child) (map opened_of outer)) (layers_of (opened_of child) (map opened_of outer) (take child.base values)) locals label found
    ≡ landing label child outer values found
branch-lands [] child values locals found zero stacked room within deep same = refl
branch-lands [] child values locals found (suc label) stacked room within deep same = refl
branch-lands (parent ∷ parents) child values locals found zero stacked room within deep same =
    land-here child.kind child parent parents values locals found refl stacked.0 room stacked.2 within stacked.1 same
branch-lands (parent ∷ parents) child values locals found (suc label) stacked room within deep same =
    land-outwards child.kind child parent parents values locals found label stacked.0 stacked.2 stacked.1 deep same
    (λ ls le at. branch-lands parents parent values ls found label stacked.3 stacked.2 (omega (arith, within, stacked.1, stacked.2.base)) le at)

-- ---- a label that no block of the function has

stuck-outwards : (kind : EntryKind) (child parent : Entry) (below rest : List Value) (again : Code) (layers : List Layer) (results : ℕ) (outer locals found : List Value) (label : ℕ)
    → IsKindIn kind child parent → child.depth < suc label
    → (parent.depth < label → branch_answer results layers locals label found ≡ Stuck)
    → branch_answer results (layer_of (open_kind child.body kind) child.arity below again outer ∷ layers) locals (suc label) found ≡ Stuck
stuck-outwards CallEntry child parent below rest again layers results outer locals found label inside deep on = refl
stuck-outwards BlockEntry child parent below rest again layers results outer locals found label inside deep on = on (omega (arith, inside.depth, deep))
stuck-outwards (LoopEntry code) child parent below rest again layers results outer locals found label inside deep on = on (omega (arith, inside.depth, deep))

pub branch-stuck : (outer : List Entry) (child : Entry) (below locals found : List Value) (label : ℕ) → AreStacked child outer → child.depth < label
    → branch_answer (results_of (opened_of child) (map opened_of outer)) (layers_of (opened_of child) (map opened_of outer) below) locals label found ≡ Stuck
branch-stuck outer child below locals found zero stacked deep = absurd (omega (arith, deep))
branch-stuck [] child below locals found (suc label) stacked deep = refl
branch-stuck (parent ∷ parents) child below locals found (suc label) stacked deep =
    stuck-outwards child.kind child parent (own_values (opened_of parent) below) [] (opened_of parent).rest
    (layers_of (opened_of parent) (map opened_of parents) (take parent.base below)) (results_of (opened_of parent) (map opened_of parents))
    (locals_in (opened_of parent) below) locals found label stacked.0 deep
    (λ lt. branch-stuck parents parent (take parent.base below) locals found label stacked.3 lt)

-- ---- return: a branch to the function's own label

return-block : (child parent : Entry) (parents : List Entry) (values found : List Value) → IsBlockIn child parent → HasRoom parent → parent.height ≤ child.base
    → return_answer (results_of (opened_of parent) (map opened_of parents)) (layers_of (opened_of parent) (map opened_of parents) (take parent.base values)) found
    ≡ landing parent.depth parent parents values found
    → return_answer (results_of (opened_of parent) (map opened_of parents))
    (layers_of (opened_of parent) (map opened_of parents) (take parent.base (take child.base values))) found
    ≡ landing child.depth child (parent ∷ parents) values found
return-block child parent parents values found inside room le on =
    let base : parent.base ≤ child.base = omega (arith, le, room.base) in
    ap (λ (vs : List Value). return_answer (results_of (opened_of parent) (map opened_of parents)) (layers_of (opened_of parent) (map opened_of parents) vs) found)
    (take-take parent.base child.base values base)
    ∙ on ∙ ap (λ (n : ℕ). landing n child (parent ∷ parents) values found) (sym inside.depth)

return-outwards : (kind : EntryKind) (child parent : Entry) (parents : List Entry) (values found : List Value) → child.kind ≡ kind → IsKindIn kind child parent
    → HasRoom parent → child.base ≤ length values → parent.height ≤ child.base
    → return_answer (results_of (opened_of parent) (map opened_of parents)) (layers_of (opened_of parent) (map opened_of parents) (take parent.base values)) found
    ≡ landing parent.depth parent parents values found
    → return_answer (results_of (opened_of parent) (map opened_of parents))
    (layer_of (open_kind child.body kind) child.arity (own_values (opened_of parent) (take child.base values)) (opened_of parent).rest
    (locals_in (opened_of parent) (take child.base values)) ∷ layers_of (opened_of parent) (map opened_of parents) (take parent.base (take child.base values)))
    found
    ≡ landing child.depth child (parent ∷ parents) values found
return-outwards CallEntry child parent parents values found is inside room within le on =
    ap (λ (term : Term). if nat_le child.arity (length found) then Next Nothing term else Stuck)
    (left-term child parent parents values (take child.arity found) room within le)
    ∙ ap (λ (k : EntryKind). if nat_le child.arity (length found)
    then Next Nothing (stacks_term (arrived k child parent parents (take child.base values) (reverse (take child.arity found)))) else Stuck) (sym is)
    ∙ ap (λ (n : ℕ). landing n child (parent ∷ parents) values found) (sym inside.depth)
return-outwards BlockEntry child parent parents values found is inside room within le on = return-block child parent parents values found inside room le on
return-outwards (LoopEntry again) child parent parents values found is inside room within le on = return-block child parent parents values found inside room le on

pub return-lands : (outer : List Entry) (child : Entry) (values found : List Value) → AreStacked child outer → child.base ≤ length values
    → return_answer (results_of (opened_of child) (map opened_of outer)) (layers_of (opened_of child) (map opened_of outer) (take child.base values)) found
    ≡ landing child.depth child outer values found
return-lands [] child values found stacked within = ap (λ (n : ℕ). landing n child [] values found) (sym stacked.depth)
return-lands (parent ∷ parents) child values found stacked within =
    return-outwards child.kind child parent parents values found refl stacked.0 stacked.2 within stacked.1
    (return-lands parents parent values found stacked.3 (omega (arith, within, stacked.1, stacked.2.base)))

-- ---- an end

-- all that is in the child goes on the values under it
all-carried : (child : Entry) (values : List Value) (top : Entry) (outer : List Entry)
    → stacks_term (record { top = top; outer = outer; values = take child.base values ++ reverse (own_values (opened_of child) values) })
    ≡ stacks_term (record { top = top; outer = outer; values = take child.base values ++ drop child.height values })
all-carried child values top outer =
    ap (λ (vs : List Value). stacks_term (record { top = top; outer = outer; values = take child.base values ++ vs })) (reverse-reverse (drop child.height values))

-- as many values as the list has, whichever way round
same-test : (values : List Value) (n : ℕ) (a b : Answer) → (if length (reverse values) == n then a else b) ≡ (if length values == n then a else b)
same-test values n a b = ap (λ (k : ℕ). if k == n then a else b) (length-reverse values)

end-block : (child parent : Entry) (parents : List Entry) (values : List Value) → IsBlockIn child parent → HasRoom parent → child.base ≤ length values
    → parent.height ≤ child.base
    → Next Nothing (term_in (results_of (opened_of parent) (map opened_of parents)) (layers_of (opened_of parent) (map opened_of parents) (take parent.base (take child.base values)))
    (code_content (locals_in (opened_of child) values) (own_values (opened_of child) values ++ own_values (opened_of parent) (take child.base values)) (opened_of parent).rest))
    ≡ Next Nothing (stacks_term (record { top = parent; outer = parents; values = take child.base values ++ drop child.height values }))
end-block child parent parents values inside room within le =
    ap (λ (term : Term). Next Nothing term)
    (block-term child parent parents values (locals_in (opened_of child) values) (own_values (opened_of child) values) inside room within le refl
    ∙ all-carried child values parent parents)

end-here : (kind : EntryKind) (child parent : Entry) (parents : List Entry) (values : List Value) → IsKindIn kind child parent
    → HasRoom parent → child.base ≤ length values → parent.height ≤ child.base
    → end_answer (results_of (opened_of parent) (map opened_of parents))
    (layer_of (open_kind child.body kind) child.arity (own_values (opened_of parent) (take child.base values)) (opened_of parent).rest
    (locals_in (opened_of parent) (take child.base values)) ∷ layers_of (opened_of parent) (map opened_of parents) (take parent.base (take child.base values)))
    (locals_in (opened_of child) values) (own_values (opened_of child) values)
    ≡ ending_in kind child parent parents values
end-here CallEntry child parent parents values inside room within le =
    ap (λ (term : Term). if length (own_values (opened_of child) values) == child.arity then Next Nothing term else Stuck)
    (left-term child parent parents values (own_values (opened_of child) values) room within le ∙ all-carried child values parent parents)
    ∙ same-test (drop child.height values) child.arity (Next Nothing (stacks_term (record { top = parent; outer = parents; values = take child.base values ++ drop child.height values }))) Stuck
end-here BlockEntry child parent parents values inside room within le = end-block child parent parents values inside room within le
end-here (LoopEntry again) child parent parents values inside room within le = end-block child parent parents values inside room within le

pub end-lands : (outer : List Entry) (child : Entry) (values : List Value) → AreStacked child outer → child.base ≤ length values
    → end_answer (results_of (opened_of child) (map opened_of outer)) (layers_of (opened_of child) (map opened_of outer) (take child.base values))
    (locals_in (opened_of child) values) (own_values (opened_of child) values)
    ≡ ending child outer values
end-lands [] child values stacked within =
    ap (λ (vs : List Value). if length (own_values (opened_of child) values) == child.arity then Done vs else Stuck) (reverse-reverse (drop child.height values))
    ∙ same-test (drop child.height values) child.arity (Done (drop child.height values)) Stuck
end-lands (parent ∷ parents) child values stacked within = end-here child.kind child parent parents values stacked.0 stacked.2 within stacked.1
