-- Many steps, put together.
use Rattle.std.proofs.Common.{◌≡◌, ◌≤◌, ◌<◌, ◌+◌, ◌-◌, ◌⊎◌, ℕ, zero, suc, List, [], ◌∷◌, Option, Some, Result, Ok, Err, OnErr, Bool, false, IsFalse, inl, inr, length, take, slice_get, get_or, set, refl, ap, sym, subst, ◌∙◌, arith}
use Rattle.std.proofs.lemmas.List.{nil_from_length}
use Rattle.wz_code.specs.declared.instr.Instr.{Instr}
use Rattle.wz_code.specs.declared.instr.Instr.TheVariants.{Block, Loop, If, Br, BrIf}
use Rattle.wz_code.specs.BodyParts.{BodyParts}
use Rattle.wz_code.specs.Trees.{Code, code_in, headed_in}
use Rattle.wz_store.specs.Made.{StoreState}
use Rattle.wz_store.specs.Changes.{Nothing}
use Rattle.wz_machine.specs.State.{State, state_of}
use Rattle.wz_machine.specs.Terms.{Term, Standing}
use Rattle.wz_machine.specs.Standings.{StandingParts, standing_of, stack_of}
use Rattle.wz_machine.specs.Outcomes.{Branches, Answer}
use Rattle.wz_machine.specs.Step.{step}
use Rattle.wz_machine.specs.Next.{Head, head_of, next}
use Rattle.wz_machine.specs.Stacks.{CallEntry, LoopEntry, Entry, StackParts, flat_of, stacks_term, IsStacked}
use Rattle.wz_machine.specs.Straight.{changes_table}
use Rattle.wz_machine.specs.Strides.{GoesOnWith}
use Rattle.wz_machine.specs.Turns.{own_of, HasFrontNumber, JumpTurned}
use Rattle.wz_machine.specs.declared.turn.Turn.TheVariants as turn
use Rattle.wz_machine.specs.Contexts.{content_reduct}
use Rattle.wz_machine.specs.Flat.{content_of}
use Rattle.wz_machine.specs.Landing.{IsAgain, IsLeft}
use Rattle.wz_machine.specs.Advance.{head_changes_table, StandingAdvanced, StackAdvanced, IsAdvancePart, StandingAdvancedPart, StackAdvancedPart, StepsOn, EntersNone, Enters, Reaches, ReachesEntry, GoesNot, HaltsNext, IsStepOn, IsOnward, StaysWithin}
use Rattle.wz_machine.specs.declared.advance.Onward.TheVariants as onward
use Rattle.wz_machine.proofs.BranchLemmas.{branch-again}
use Rattle.wz_machine.proofs.KeptLemmas.{again-stacked, left-stacked, found-at, counts-fall}
use Rattle.wz_machine.proofs.StepLemmas.{jump-lands, end-left-by}
use Rattle.wz_machine.proofs.ControlLemmas.{br-reduct, br_if-reduct}
use Rattle.wz_machine.proofs.CountLemmas.{frames_counted, locals_counted}
use Rattle.wz_machine.proofs.ChangeLemmas.{change_reaches_state}
use Rattle.wz_machine.proofs.StandingLemmas.{stack_top, stack_set}
use Rattle.wz_machine.proofs.SiteLemmas.{next-head, leaf-spares}

-- steps after steps
pub reaches_add : (m n : ℕ) (s between after : State) (term middle new : Term) → Reaches m s term between middle → Reaches n between middle after new → Reaches (m + n) s term after new
reaches_add m zero s between after term middle new first rest =
    let P : ℕ → State → Term → Type 0 = λ k x t. Reaches k s term x t in
    let none : m ≡ m + 0 = omega arith in
    let one : P m after middle = subst (λ (x : State). P m x middle) (sym rest.0) first in
    let two : P m after new = subst (λ (t : Term). P m after t) (sym rest.1) one in
    subst (λ k. P k after new) none two
reaches_add m (suc n) s between after term middle new first (x, t, rest, on, none) =
    let more : suc (m + n) ≡ m + suc n = omega arith in
    subst (λ k. Reaches k s term after new) more (x, t, reaches_add m n s between x term middle t first rest, on, none)

-- the same, counted by how many are left of a limit
pub reaches_left : (limit left rest : ℕ) (s between after : State) (term middle new : Term) → left ≤ limit → rest ≤ left → Reaches (limit - left) s term between middle
    → Reaches (left - rest) between middle after new → Reaches (limit - rest) s term after new
reaches_left limit left rest s between after term middle new few within first more =
    let count : limit - left + (left - rest) ≡ limit - rest = omega (arith, few, within) in
    subst (λ k. Reaches k s term after new) count (reaches_add (limit - left) (left - rest) s between after term middle new first more)

-- one step more, that enters no function
pub reaches_more : (m n : ℕ) (s between after : State) (term middle new : Term) → n ≡ m + 1 → Reaches m s term between middle → StepsOn between middle after new
    → EntersNone middle new → Reaches n s term after new
reaches_more m n s between after term middle new at first on none =
    let more : suc m ≡ n = omega (arith, at) in
    subst (λ k. Reaches k s term after new) more (between, middle, first, on, none)

pub reaches_entry : (m n : ℕ) (s between after : State) (term middle new : Term) → n ≡ m + 1 → Reaches m s term between middle → StepsOn between middle after new
    → Enters middle new → ReachesEntry n s term after new
reaches_entry m n s between after term middle new at first on enters =
    let more : suc m ≡ n = omega (arith, at) in
    subst (λ k. ReachesEntry k s term after new) more (between, middle, first, on, enters)

-- the instruction in front
headed-spares : (body : BodyParts) (instr : Instr) (rest : Code) → head_changes_table (head_of (headed_in body instr rest)) ≡ changes_table instr
headed-spares body (Block shape inner) rest = refl
headed-spares body (Loop shape inner) rest = refl
headed-spares body (If shape first second) rest = refl
headed-spares body instr rest = leaf-spares body instr

pub table_next : (s : StackParts) (instr : Instr) (rest : List Instr) → s.top.rest ≡ instr ∷ rest → changes_table instr ≡ head_changes_table (next (stacks_term s))
table_next s instr rest first =
    sym (ap (λ (h : Option Head). head_changes_table h) (next-head s ∙ ap (λ (code : List Instr). head_of (code_in s.top.body code)) first)
    ∙ headed-spares s.top.body instr (code_in s.top.body rest))

pub no_table_next : (s : StackParts) (rest : List Instr) → rest ≡ s.top.rest → length rest ≡ 0 → false ≡ head_changes_table (next (stacks_term s))
no_table_next s [] same none =
    sym (ap (λ (h : Option Head). head_changes_table h) (next-head s ∙ ap (λ (code : List Instr). head_of (code_in s.top.body code)) (sym same)))
no_table_next s (instr ∷ rest) same none = absurd (omega (arith, none))

-- a step that went on is one of a run
pub gone_on : (bodies : List BodyParts) (s : StoreState) (before now : StackParts) (t : StoreState) → GoesOnWith (step (state_of bodies s) (stacks_term before)) s now t
    → head_changes_table (next (stacks_term before)) ≡ false → StepsOn (state_of bodies s) (stacks_term before) (state_of bodies t) (stacks_term now)
gone_on bodies s before now t gone spares = record {
  change = gone.change;
  goes = gone.goes;
  state = ap (λ (x : StoreState). state_of bodies x) gone.store ∙ change_reaches_state bodies s gone.change;
  spares = spares;
}

-- a step that doesn't go on leaves all as it was
pub halts_here : (bodies : List BodyParts) (store after : StoreState) (before now : StackParts) (answer : Answer) → now ≡ before → after ≡ store
    → step (state_of bodies store) (stacks_term before) ≡ answer → GoesNot answer
    → IsStepOn false (state_of bodies store) (stacks_term before) (state_of bodies after) (stacks_term now)
halts_here bodies store after before now answer same kept is halts =
    (ap (λ (x : StoreState). state_of bodies x) kept, ap (λ (x : StackParts). stacks_term x) same, inr (subst (λ (a : Answer). GoesNot a) (sym is) halts))

-- many steps, behind which the next one doesn't go on
pub reaches_halt : (m limit : ℕ) (first s after : State) (term middle new : Term) → Reaches m first term s middle → IsOnward onward.Halts s middle after new
    → Reaches m first term after new × ((m ≡ limit) ⊎ HaltsNext after new)
reaches_halt m limit first s after term middle new ran (same, stays, halts) =
    let P : State → Term → Type 0 = λ x t. Reaches m first term x t × ((m ≡ limit) ⊎ HaltsNext x t) in
    let one : P s middle = (ran, inr halts) in
    let two : P after middle = subst (λ (x : State). P x middle) (sym same) one in
    subst (λ (t : Term). P after t) (sym stays) two

-- steps that were made before memory was refused, which changed nothing more
pub part_made : (bodies : List BodyParts) (made limit : ℕ) (first : State) (term : Term) (store after : StoreState) (before now : StackParts) → made ≤ limit
    → Reaches made first term (state_of bodies store) (stacks_term before) → now ≡ before → after ≡ store
    → IsAdvancePart limit first term (state_of bodies after) (stacks_term now)
part_made bodies made limit first term store after before now few ran same kept =
    let P : StackParts → StoreState → Type 0 = λ x y. Reaches made first term (state_of bodies y) (stacks_term x) in
    let one : P now store = subst (λ (x : StackParts). P x store) (sym same) ran in
    let two : P now after = subst (λ (y : StoreState). P now y) (sym kept) one in
    (made, few, (two, inl refl))

-- what holds in any case holds at an error
pub on_err : {T E P : Type 0} (r : Result T E) → P → OnErr r P
on_err (Ok x) p = tt
on_err (Err e) p = p

-- the topmost term is the last of a list
pub stack_advanced : (entered : Bool) (limit made : ℕ) (s after : State) (xs ys : List StandingParts) (before now d : StandingParts) (n : ℕ) → n ≡ length xs → 0 < n
    → before ≡ get_or xs (n - 1) d → ys ≡ set xs (n - 1) now → StandingAdvanced entered limit made s (standing_of before) after (standing_of now)
    → StackAdvanced entered limit made s (stack_of xs) after (stack_of ys)
stack_advanced entered limit made s after xs ys before now d n len some is set_to advanced =
    let positive : 0 < length xs = omega (arith, len, some) in
    let place : n - 1 ≡ length xs - 1 = ap (λ k. k - 1) len in
    let first : before ≡ get_or xs (length xs - 1) d = is ∙ ap (λ k. get_or xs k d) place in
    let below : List Standing = stack_of (take (length xs - 1) xs) in
    let was : stack_of xs ≡ standing_of before ∷ below =
    stack_top xs d positive ∙ ap (λ (p : StandingParts). standing_of p ∷ below) (sym first) in
    let later : stack_of ys ≡ standing_of now ∷ below =
    ap (λ (zs : List StandingParts). stack_of zs) (set_to ∙ ap (λ k. set xs k now) place) ∙ stack_set xs now positive in
    let P : List Standing → Type 0 = λ x. StackAdvanced entered limit made s x after (stack_of ys) in
    subst P (sym was) (standing_of now, later, advanced)

pub stack_part : (limit : ℕ) (s after : State) (xs ys : List StandingParts) (before now d : StandingParts) (n : ℕ) → n ≡ length xs → 0 < n
    → before ≡ get_or xs (n - 1) d → ys ≡ set xs (n - 1) now → StandingAdvancedPart limit s (standing_of before) after (standing_of now)
    → StackAdvancedPart limit s (stack_of xs) after (stack_of ys)
stack_part limit s after xs ys before now d n len some is set_to (made, few, advanced) =
    (made, few, stack_advanced false made made s after xs ys before now d n len some is set_to advanced)

-- ---- a branch to the innermost loop

-- the instruction in front branches to the innermost label, and so many values stay
pub record BranchesHere (s : StackParts) (have : ℕ) : Type 0 where
  pub own : s.top.height ≤ have
  pub within : have ≤ length s.values
  pub reduct : (st : State) → content_reduct st (content_of (flat_of s)) ≡ Branches 0 (own_of s have)
  pub spares : IsFalse (head_changes_table (next (stacks_term s)))

-- the innermost entry begins anew, as by a branch to it with what its block has of so many values
pub record BeginsAnew (before : StackParts) (have : ℕ) (now : StackParts) : Type 0 where
  pub turned : JumpTurned before 0 have turn.Went now
  pub none : EntersNone (stacks_term before) (stacks_term now)

pub br_here : (s : StackParts) (label : ℕ) (rest : List Instr) (have : ℕ) → s.top.rest ≡ Br label ∷ rest → label ≡ 0 → have ≡ length s.values
    → s.top.height ≤ have → BranchesHere s have
br_here s label rest have e none is own =
    let first : s.top.rest ≡ Br 0 ∷ rest = e ∙ ap (λ n. Br n ∷ rest) none in
    record {
      own = own;
      within = omega (arith, is);
      reduct = λ st. br-reduct st s 0 rest have first is;
      spares = sym (table_next s (Br 0) rest first);
    }

pub br_if_here : (s : StackParts) (label n : ℕ) (rest : List Instr) (have : ℕ) → s.top.rest ≡ BrIf label ∷ rest → label ≡ 0 → have ≡ length s.values
    → HasFrontNumber s n → (n ≡ 0 → ⊥) → BranchesHere s (have - 1)
br_if_here s label n rest have e none is number ne =
    let first : s.top.rest ≡ BrIf 0 ∷ rest = e ∙ ap (λ k. BrIf k ∷ rest) none in
    record {
      own = omega (arith, is, number.within);
      within = omega (arith, is);
      reduct = λ st. br_if-reduct st s 0 n rest have first is number ne;
      spares = sym (table_next s (BrIf 0) rest first);
    }

pub begins_anew : (s now : StackParts) (have : ℕ) (target : Entry) (again : List Instr) → IsStacked s → target ≡ s.top → 0 < length s.outer
    → target.arity ≡ 0 → s.top.height ≤ have → have ≤ length s.values → target.base ≤ have → target.kind ≡ LoopEntry again
    → IsAgain s 0 target again have 0 now → BeginsAnew s have now
begins_anew s now have target again stacked same lt arity own within base kind begun =
    let here : slice_get (s.top ∷ s.outer) 0 ≡ Some target = ap (λ (e : Entry). Some e) (sym same) in
    let carries : IsAgain s 0 target again have target.arity now = subst (λ n. IsAgain s 0 target again have n now) (sym arity) begun in
    let after : IsStacked now = again-stacked s now 0 have 0 target again stacked here lt kind within (omega (arith, base)) begun in
    let lands = branch-again s now 0 have target again here lt within (omega (arith, own, arity)) kind carries in
    let top : now.top ≡ record s.top { rest = again } = begun.top ∙ ap (λ (e : Entry). record e { rest = again }) same in
    record {
      turned = λ st reduct. jump-lands st s 0 have stacked (omega arith) reduct ∙ lands;
      none = record {
        frames = omega (arith, frames_counted s stacked, frames_counted now after, ap (λ (e : Entry). e.frames) top);
        locals = omega (arith, locals_counted s stacked, locals_counted now after, ap (λ (e : Entry). e.frame_locals) top);
      };
    }

pub repeats_by : (s now : StackParts) (have : ℕ) → BranchesHere s have → BeginsAnew s have now → StaysWithin s now
repeats_by s now have here anew = record { turned = λ st. anew.turned st (here.reduct st); spares = here.spares; none = anew.none }

-- ---- the end of a block or a function

left_enters_none : (s now : StackParts) (have count : ℕ) → IsStacked s → have ≤ length s.values → s.top.base + count ≤ have → IsLeft s 0 s.top.base have count now
    → EntersNone (stacks_term s) (stacks_term now)
left_enters_none s now have count stacked within carried left =
    let after : IsStacked now = left-stacked s now 0 have count s.top stacked refl within carried left in
    let found = found-at 0 s.top s.top now.top s.outer stacked.room stacked.stacked refl left.parent in
    let fall : (now.top.frames ≤ s.top.frames) × (now.top.frame_locals ≤ s.top.frame_locals) = counts-fall s.top.kind s.top now.top found.kind in
    record {
      frames = omega (arith, frames_counted s stacked, frames_counted now after, fall.0);
      locals = omega (arith, locals_counted s stacked, locals_counted now after, fall.1);
    }

pub ends_within : (s now : StackParts) (top : Entry) (rest : List Instr) (have : ℕ) → IsStacked s → top ≡ s.top → rest ≡ s.top.rest → length rest ≡ 0
    → have ≡ length s.values → top.height ≤ have → (top.kind ≡ CallEntry → have - top.height ≡ top.arity) → IsLeft s 0 top.base have (have - top.height) now
    → StaysWithin s now
ends_within s now top rest have stacked same first none len own results left =
    let inner : s.top.base ≤ s.top.height = stacked.room.base in
    let base : top.base ≤ top.height = subst (λ (e : Entry). e.base ≤ e.height) (sym same) inner in
    let leaves : IsLeft s 0 s.top.base have (have - top.height) now = subst (λ (e : Entry). IsLeft s 0 e.base have (have - top.height) now) same left in
    record {
      turned = λ st. end-left-by st s now top have stacked (sym first ∙ nil_from_length rest none) same len results left;
      spares = sym (no_table_next s rest first none);
      none = left_enters_none s now have (have - top.height) stacked (omega (arith, len)) (omega (arith, own, base, ap (λ (e : Entry). e.base) same)) leaves;
    }

-- ---- a step that enters no function

-- it is a step of a run
pub within_on : (s now : StackParts) (st : State) → StaysWithin s now → StepsOn st (stacks_term s) st (stacks_term now) × EntersNone (stacks_term s) (stacks_term now)
within_on s now st r = (record { change = Nothing; goes = r.turned st; state = refl; spares = r.spares }, r.none)
