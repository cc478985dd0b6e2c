-- What the machine does at a branch and at an end is where these lead.
use Rattle.std.proofs.Common.{◌≡◌, ◌≤◌, ◌<◌, ℕ, zero, suc, ◌+◌, ◌-◌, nat_le, List, [], ◌∷◌, ◌++◌, Some, if◌then◌else◌, length, take, drop, reverse, slice_get, get_or, drop-cons, refl, ap, sym, ◌∙◌, ◌⊎◌, inl, inr, arith}
use Rattle.std.proofs.lemmas.Bool.Decides.{nat_tests}
use Rattle.std.proofs.lemmas.List.{length-take-le, length-drop, length-reverse}
use Rattle.std.proofs.lemmas.Option.{slice_get-get_or}
use Rattle.wz_types.specs.declared.value.Value.{Value}
use Rattle.wz_code.specs.declared.instr.Instr.{Instr}
use Rattle.wz_store.specs.Changes.{Nothing, range_of}
use Rattle.wz_machine.specs.Outcomes.{Answer, Next, Done, Stuck}
use Rattle.wz_machine.specs.Step.{results_answer}
use Rattle.wz_machine.specs.Stacks.{EntryKind, CallEntry, BlockEntry, LoopEntry, Entry, StackParts, stacks_term, IsKindIn, AreStacked}
use Rattle.wz_machine.specs.Landing.{arrived, landing, IsLeft, IsAgain}
use Rattle.wz_machine.specs.Turns.{own_of}
use Rattle.wz_machine.proofs.ListLemmas.{last-own}
use Rattle.wz_machine.proofs.KeptLemmas.{parts-same}

-- no more blocks of a function are open than entries stand around
depth-in : (kind : EntryKind) (child parent : Entry) (n : ℕ) → IsKindIn kind child parent → parent.depth ≤ n → child.depth ≤ suc n
depth-in CallEntry child parent n h le = omega (arith, h.depth)
depth-in BlockEntry child parent n h le = omega (arith, h.depth, le)
depth-in (LoopEntry again) child parent n h le = omega (arith, h.depth, le)

pub depth-within : (child : Entry) (outer : List Entry) → AreStacked child outer → child.depth ≤ length outer
depth-within child [] stacked = omega (arith, stacked.depth)
depth-within child (parent ∷ parents) stacked = depth-in child.kind child parent (length parents) stacked.0 (depth-within parent parents stacked.3)

-- ---- tests

le-true : (m n : ℕ) (a b : Answer) → m ≤ n → (if nat_le m n then a else b) ≡ a
le-true m n a b le = grind (arith, nat_tests)

le-false : (m n : ℕ) (a b : Answer) → n < m → (if nat_le m n then a else b) ≡ b
le-false m n a b lt = grind (arith, nat_tests)

pub own-length : (s : StackParts) (have : ℕ) → have ≤ length s.values → length (own_of s have) ≡ have - s.top.height
own-length s have within =
    length-reverse (drop s.top.height (take have s.values)) ∙ length-drop s.top.height (take have s.values) ∙ ap (λ n. n - s.top.height) (length-take-le have s.values within)

-- ---- where a branch leads, by its label

landing-in : (label : ℕ) (child target parent : Entry) (outer : List Entry) (values found : List Value) → slice_get (child ∷ outer) label ≡ Some target
    → slice_get outer label ≡ Some parent
    → landing label child outer values found
    ≡ (if nat_le target.arity (length found)
    then Next Nothing (stacks_term (arrived target.kind target parent (drop (suc label) outer) (take target.base values) (reverse (take target.arity found)))) else Stuck)
landing-in label child target parent [] values found here around = cc
landing-in zero child target parent (first ∷ outer) values found here around =
    let e : child ≡ target = cc in
    let f : first ≡ parent = cc in
    ap (λ (p : Entry). if nat_le child.arity (length found)
    then Next Nothing (stacks_term (arrived child.kind child p outer (take child.base values) (reverse (take child.arity found)))) else Stuck) f
    ∙ ap (λ (t : Entry). if nat_le t.arity (length found)
    then Next Nothing (stacks_term (arrived t.kind t parent outer (take t.base values) (reverse (take t.arity found)))) else Stuck) e
landing-in (suc label) child target parent (first ∷ outer) values found here around = landing-in label first target parent outer values found here around

landing-out : (label : ℕ) (child target : Entry) (outer : List Entry) (values found : List Value) → slice_get (child ∷ outer) label ≡ Some target → label ≡ length outer
    → landing label child outer values found ≡ results_answer target.arity found
landing-out zero child target [] values found here last = let e : child ≡ target = cc in ap (λ (t : Entry). results_answer t.arity found) e
landing-out zero child target (first ∷ outer) values found here last = absurd (omega (arith, last))
landing-out (suc label) child target [] values found here last = cc
landing-out (suc label) child target (first ∷ outer) values found here last = landing-out label first target outer values found here (omega (arith, last))

-- ---- what the machine does

-- there are too few values
few-values : (outer : List Entry) (child target : Entry) (label : ℕ) (values found : List Value) → slice_get (child ∷ outer) label ≡ Some target
    → length found < target.arity → landing label child outer values found ≡ Stuck
few-values [] child target zero values found here few =
    let e : child ≡ target = cc in
    le-false child.arity (length found) (Done (reverse (take child.arity found))) Stuck (rw e few)
few-values (first ∷ outer) child target zero values found here few =
    let e : child ≡ target = cc in
    le-false child.arity (length found) (Next Nothing (stacks_term (arrived child.kind child first outer (take child.base values) (reverse (take child.arity found))))) Stuck (rw e few)
few-values [] child target (suc label) values found here few = refl
few-values (first ∷ outer) child target (suc label) values found here few = few-values outer first target label values found here few

pub branch-few : (s : StackParts) (label have : ℕ) (target : Entry) → slice_get (s.top ∷ s.outer) label ≡ Some target → have ≤ length s.values
    → have - s.top.height < target.arity → landing label s.top s.outer s.values (own_of s have) ≡ Stuck
branch-few s label have target here within few =
    few-values s.outer s.top target label s.values (own_of s have) here (rw (own-length s have within) few)

-- the outermost call is left
pub branch-ends : (s : StackParts) (label have : ℕ) (target : Entry) → slice_get (s.top ∷ s.outer) label ≡ Some target → label ≡ length s.outer → have ≤ length s.values
    → s.top.height + target.arity ≤ have
    → landing label s.top s.outer s.values (own_of s have) ≡ Done (range_of s.values (have - target.arity) target.arity)
branch-ends s label have target here last within enough =
    let len : length (own_of s have) ≡ have - s.top.height = own-length s have within in
    landing-out label s.top target s.outer s.values (own_of s have) here last
    ∙ le-true target.arity (length (own_of s have)) (Done (reverse (take target.arity (own_of s have)))) Stuck (omega (arith, len, enough))
    ∙ ap (λ (vs : List Value). Done vs) (last-own target.arity have s.top.height s.values within enough)

-- what arrives behind a block or a call, or in a loop
arrives-left : (kind : EntryKind) (s : StackParts) (label base have count : ℕ) (target : Entry) (now : StackParts) (carried : List Value) → IsLeft s label base have count now
    → carried ≡ range_of s.values (have - count) count → (kind ≡ CallEntry) ⊎ (kind ≡ BlockEntry)
    → arrived kind target now.top (drop (suc label) s.outer) (take base s.values) carried ≡ now
arrives-left CallEntry s label base have count target now carried left e h =
    parts-same now.top now.top (drop (suc label) s.outer) now.outer (take base s.values ++ carried) now.values refl (sym left.outer)
    (ap (λ (vs : List Value). take base s.values ++ vs) e ∙ sym left.values)
arrives-left BlockEntry s label base have count target now carried left e h =
    parts-same now.top now.top (drop (suc label) s.outer) now.outer (take base s.values ++ carried) now.values refl (sym left.outer)
    (ap (λ (vs : List Value). take base s.values ++ vs) e ∙ sym left.values)
arrives-left (LoopEntry again) s label base have count target now carried left e h = elim h [ inl f ↦ cc | inr f ↦ cc ]

pub branch-left : (s now : StackParts) (label have : ℕ) (target : Entry) → slice_get (s.top ∷ s.outer) label ≡ Some target → have ≤ length s.values
    → s.top.height + target.arity ≤ have → (target.kind ≡ CallEntry) ⊎ (target.kind ≡ BlockEntry) → IsLeft s label target.base have target.arity now
    → landing label s.top s.outer s.values (own_of s have) ≡ Next Nothing (stacks_term now)
branch-left s now label have target here within enough kind left =
    let len : length (own_of s have) ≡ have - s.top.height = own-length s have within in
    let carried : List Value = reverse (take target.arity (own_of s have)) in
    let arrives = arrived target.kind target now.top (drop (suc label) s.outer) (take target.base s.values) carried in
    landing-in label s.top target now.top s.outer s.values (own_of s have) here left.parent
    ∙ le-true target.arity (length (own_of s have)) (Next Nothing (stacks_term arrives)) Stuck (omega (arith, len, enough))
    ∙ ap (λ (t : StackParts). Next Nothing (stacks_term t))
    (arrives-left target.kind s label target.base have target.arity target now carried left (last-own target.arity have s.top.height s.values within enough) kind)

arrives-again : (kind : EntryKind) (again : List Instr) (s : StackParts) (label have count : ℕ) (target parent : Entry) (parents : List Entry) (now : StackParts) (carried : List Value)
    → IsAgain s label target again have count now → carried ≡ range_of s.values (have - count) count → kind ≡ LoopEntry again → parent ∷ parents ≡ drop label s.outer
    → arrived kind target parent parents (take target.base s.values) carried ≡ now
arrives-again CallEntry again s label have count target parent parents now carried begun e is around = cc
arrives-again BlockEntry again s label have count target parent parents now carried begun e is around = cc
arrives-again (LoopEntry code) again s label have count target parent parents now carried begun e is around =
    let same : code ≡ again = cc in
    parts-same (record target { rest = code }) now.top (parent ∷ parents) now.outer (take target.base s.values ++ carried) now.values
    (ap (λ (c : List Instr). record target { rest = c }) same ∙ sym begun.top) (around ∙ sym begun.outer)
    (ap (λ (vs : List Value). take target.base s.values ++ vs) e ∙ sym begun.values)

pub branch-again : (s now : StackParts) (label have : ℕ) (target : Entry) (again : List Instr) → slice_get (s.top ∷ s.outer) label ≡ Some target → label < length s.outer
    → have ≤ length s.values → s.top.height + target.arity ≤ have → target.kind ≡ LoopEntry again → IsAgain s label target again have target.arity now
    → landing label s.top s.outer s.values (own_of s have) ≡ Next Nothing (stacks_term now)
branch-again s now label have target again here lt within enough kind begun =
    let len : length (own_of s have) ≡ have - s.top.height = own-length s have within in
    let carried : List Value = reverse (take target.arity (own_of s have)) in
    let parent : Entry = get_or s.outer label s.top in
    let parents : List Entry = drop (suc label) s.outer in
    let around : slice_get s.outer label ≡ Some parent = slice_get-get_or s.outer label s.top lt in
    let arrives = arrived target.kind target parent parents (take target.base s.values) carried in
    landing-in label s.top target parent s.outer s.values (own_of s have) here around
    ∙ le-true target.arity (length (own_of s have)) (Next Nothing (stacks_term arrives)) Stuck (omega (arith, len, enough))
    ∙ ap (λ (t : StackParts). Next Nothing (stacks_term t))
    (arrives-again target.kind again s label have target.arity target parent parents now carried begun
    (last-own target.arity have s.top.height s.values within enough) kind (sym (drop-cons s.outer label s.top lt)))
