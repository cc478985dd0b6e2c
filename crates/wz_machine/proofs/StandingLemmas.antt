-- The stack of terms in a machine: its top, and what an answer makes of it.
use Rattle.std.proofs.Common.{◌≡◌, ◌≤◌, ◌<◌, ℕ, ◌+◌, ◌-◌, List, [], ◌∷◌, ◌++◌, Option, Some, None, IsSome, length, take, map, get_or, refl, ap, sym, ◌∙◌, arith}
use Rattle.std.proofs.lemmas.List.{take_all, take_more, take_more_set, length-set, reverse-append}
use Rattle.std.proofs.Math.ListN.{set}
use Rattle.wz_types.specs.declared.value.Value.{Value}
use Rattle.wz_machine.specs.Terms.{Standing, Runs}
use Rattle.wz_machine.specs.Replies.{put}
use Rattle.wz_machine.specs.Standings.{WorkParts, work_term, work_without, rest_of, Asking, AskingFloat, AskingMemory, AskingTable, AskingHost, StandingParts, question_of, standing_from, standing_of, stack_of, asking_in, asking_of_top}
use Rattle.wz_machine.specs.Waiting.{answered_stack}

-- ---- the topmost is the last

-- one more at the end is one more on top
pub stack_push : (standings : List StandingParts) (top : StandingParts) → stack_of (standings ++ top ∷ []) ≡ standing_of top ∷ stack_of standings
stack_push standings top = ap (λ (xs : List StandingParts). map standing_of xs) (reverse-append standings (top ∷ []))

last_split : (xs : List StandingParts) (d : StandingParts) → 0 < length xs → xs ≡ take (length xs - 1) xs ++ get_or xs (length xs - 1) d ∷ []
last_split xs d some =
    let all : length xs ≤ length xs - 1 + 1 = omega arith in
    sym (take_all (length xs - 1 + 1) xs all) ∙ take_more xs (length xs - 1) d (omega arith)

pub stack_top : (xs : List StandingParts) (d : StandingParts) → 0 < length xs
    → stack_of xs ≡ standing_of (get_or xs (length xs - 1) d) ∷ stack_of (take (length xs - 1) xs)
stack_top xs d some = ap (λ (ys : List StandingParts). stack_of ys) (last_split xs d some) ∙ stack_push (take (length xs - 1) xs) (get_or xs (length xs - 1) d)

-- another one on top
pub stack_set : (xs : List StandingParts) (top : StandingParts) → 0 < length xs → stack_of (set xs (length xs - 1) top) ≡ standing_of top ∷ stack_of (take (length xs - 1) xs)
stack_set xs top some =
    let len : length (set xs (length xs - 1) top) ≡ length xs = length-set xs (length xs - 1) top in
    let all : length (set xs (length xs - 1) top) ≤ length xs - 1 + 1 = omega (arith, len) in
    ap (λ (ys : List StandingParts). stack_of ys) (sym (take_all (length xs - 1 + 1) (set xs (length xs - 1) top) all) ∙ take_more_set xs (length xs - 1) top (omega arith))
    ∙ stack_push (take (length xs - 1) xs) top

-- ---- its question

asking_is : (asking : Asking) (operands : List Value) → asking_in (question_of asking operands) ≡ asking
asking_is (AskingFloat op) operands = refl
asking_is (AskingMemory index by) operands = refl
asking_is (AskingTable index by reference) operands = refl
asking_is (AskingHost target type) operands = refl

asking_from : (question : Option Asking) (count : ℕ) (work : WorkParts) (below : List Standing) → asking_of_top (standing_from question count work ∷ below) ≡ question
asking_from None count work below = refl
asking_from (Some asking) count work below = ap (λ (a : Asking). Some a) (asking_is asking _)

pub asking_top : (xs : List StandingParts) (d : StandingParts) → 0 < length xs → asking_of_top (stack_of xs) ≡ (get_or xs (length xs - 1) d).question
asking_top xs d some =
    let top = get_or xs (length xs - 1) d in
    ap (λ (stack : List Standing). asking_of_top stack) (stack_top xs d some) ∙ asking_from top.question top.count top.work (stack_of (take (length xs - 1) xs))

-- ---- an answer

answered_from : (question : Option Asking) (count : ℕ) (work : WorkParts) (values : List Value) (below : List Standing) → IsSome question
    → answered_stack values (standing_from question count work ∷ below) ≡ Runs (put values (work_term (work_without count work))) ∷ below
answered_from None count work values below some = absurd (cc some)
answered_from (Some asking) count work values below some = refl

-- the topmost of the terms is answered, and another one is in its place
pub answered_top : (xs : List StandingParts) (new : StandingParts) (d : StandingParts) (values : List Value) → 0 < length xs
    → IsSome (get_or xs (length xs - 1) d).question → standing_of new ≡ Runs (put values (rest_of (get_or xs (length xs - 1) d)))
    → stack_of (set xs (length xs - 1) new) ≡ answered_stack values (stack_of xs)
answered_top xs new d values some asks answered =
    let old = get_or xs (length xs - 1) d in
    let below = stack_of (take (length xs - 1) xs) in
    stack_set xs new some
    ∙ ap (λ (top : Standing). top ∷ below) answered
    ∙ sym (answered_from old.question old.count old.work values below asks)
    ∙ ap (λ (stack : List Standing). answered_stack values stack) (sym (stack_top xs d some))

pub answered_last : (xs : List StandingParts) (n : ℕ) (old new : StandingParts) (values : List Value) → n ≡ length xs → 0 < n → old ≡ get_or xs (n - 1) old
    → IsSome (asking_of_top (stack_of xs)) → standing_of new ≡ Runs (put values (rest_of old)) → stack_of (set xs (n - 1) new) ≡ answered_stack values (stack_of xs)
answered_last xs n old new values len some is asks answered =
    let more : 0 < length xs = omega (arith, len, some) in
    let last : get_or xs (length xs - 1) old ≡ old = ap (λ (k : ℕ). get_or xs (k - 1) old) (sym len) ∙ sym is in
    let question : asking_of_top (stack_of xs) ≡ (get_or xs (length xs - 1) old).question = asking_top xs old more in
    ap (λ (k : ℕ). stack_of (set xs (k - 1) new)) len
    ∙ answered_top xs new old values more (rw question at asks) (answered ∙ ap (λ (parts : StandingParts). Runs (put values (rest_of parts))) (sym last))
