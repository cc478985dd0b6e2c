-- A run of plain instructions, with the innermost loop's branches to itself, is as many steps of the term.
use Rattle.std.proofs.Common.{◌≡◌, ◌≤◌, ◌<◌, ◌+◌, ◌-◌, ℕ, zero, suc, List, [], ◌∷◌, ◌++◌, inl, inr, take, drop, reverse, length, refl, ap, sym, subst, ◌∙◌, arith}
use Rattle.std.proofs.lemmas.List.{length-append, length-take-le, take-take, drop-take, append-nil}
use Rattle.wz_types.specs.declared.value.Value.{Value}
use Rattle.wz_types.specs.declared.value.Value.TheVariants.{I32}
use Rattle.wz_code.specs.declared.instr.Instr.{Instr}
use Rattle.wz_code.specs.declared.instr.Instr.TheVariants.{Br, BrIf}
use Rattle.wz_code.specs.BodyParts.{BodyParts}
use Rattle.wz_store.specs.declared.function.Function.{Function}
use Rattle.wz_store.specs.State.{StateOf}
use Rattle.wz_store.specs.Changes.{range_of}
use Rattle.wz_machine.specs.State.{state_of}
use Rattle.wz_machine.specs.Stacks.{EntryKind, LoopEntry, Entry, StackParts, stacks_term, IsStacked, IsBlockIn, IsKindIn, AreStacked}
use Rattle.wz_machine.specs.PlainSteps.{Site, used}
use Rattle.wz_machine.specs.Operands.{HasNumber}
use Rattle.wz_machine.specs.Straight.{Point, point, RunsTo}
use Rattle.wz_machine.specs.Laps.{BranchesBack, Repeats, GoesBack, LapsTo}
use Rattle.wz_machine.specs.Running.{site_of, SameApart}
use Rattle.wz_machine.specs.Turns.{own_of, HasFrontNumber}
use Rattle.wz_machine.specs.Landing.{IsAgain}
use Rattle.wz_machine.specs.Advance.{StepsOn, Reaches, StaysWithin}
use Rattle.wz_machine.proofs.AdvanceLemmas.{BranchesHere, br_here, br_if_here, begins_anew, repeats_by, within_on}
use Rattle.wz_machine.proofs.SiteLemmas.{values_at, stacks_at, IsSplit, IsFew, front-size, front-at, own-at, regroup, split-kept, leaf-first, went-on, stacked-at, enters-none, steps-on, places_of, split-of, values-before, values-after}

-- ---- runs put together

-- instructions after others
pub laps_run : (top : Entry) (m n : ℕ) (p q r : Point) → LapsTo top m p q → RunsTo top.body n q r → LapsTo top (m + n) p r
laps_run top m zero p q r laps same =
    let none : m ≡ m + 0 = omega arith in
    subst (λ k. LapsTo top k p r) none (subst (λ (x : Point). LapsTo top m p x) (sym same) laps)
laps_run top m (suc n) p q r laps (x, runs, goes) =
    let more : suc (m + n) ≡ m + suc n = omega arith in
    subst (λ k. LapsTo top k p r) more (x, laps_run top m n p q x laps runs, inl goes)

-- So many of a limit's instructions are left, and the run has come to this code; behind the values there is room for one by each of it.
pub record IsLap (top : Entry) (limit left : ℕ) (code : List Instr) (have now room : ℕ) (old new : Site) : Type 0 where
  pub few : left ≤ limit
  pub ran : LapsTo top (limit - left) (point top.rest have old) (point code now new)
  pub fits : now + length code ≤ room

pub lap_begins : (top : Entry) (limit have room : ℕ) (at : Site) → have + length top.rest ≤ room → IsLap top limit limit top.rest have have room at at
lap_begins top limit have room at fits =
    let none : 0 ≡ limit - limit = omega arith in
    record { few = omega arith; ran = subst (λ n. LapsTo top n (point top.rest have at) (point top.rest have at)) none refl; fits = fits }

-- a run of plain instructions more
pub lap_ran : (top : Entry) (limit left made : ℕ) (code rest : List Instr) (have now next room : ℕ) (old middle new : Site)
    → IsLap top limit left code have now room old middle → made ≤ left → rest ≡ drop made code → RunsTo top.body made (point code now middle) (point (drop made code) next new)
    → LapsTo top (limit - (left - made)) (point top.rest have old) (point rest next new)
lap_ran top limit left made code rest have now next room old middle new lap within is runs =
    let count : limit - left + made ≡ limit - (left - made) = omega (arith, lap.few, within) in
    let both = laps_run top (limit - left) made (point top.rest have old) (point code now middle) (point (drop made code) next new) lap.ran runs in
    let P : ℕ → List Instr → Type 0 = λ n c. LapsTo top n (point top.rest have old) (point c next new) in
    subst (λ (c : List Instr). P (limit - (left - made)) c) (sym is) (subst (λ n. P n (drop made code)) count both)

-- the loop begins anew
pub lap_again : (top : Entry) (limit left : ℕ) (code again : List Instr) (have now : ℕ) (old new : Site) → left ≤ limit → 0 < left
    → LapsTo top (limit - left) (point top.rest have old) (point code now new) → Repeats top code now new.own again → now ≤ length new.own
    → IsLap top limit (left - 1) again have 0 (length new.own) old new
lap_again top limit left code again have now old new few some ran repeats used =
    let more : suc (limit - left) ≡ limit - (left - 1) = omega (arith, few, some) in
    let back : GoesBack top (point code now new) (point again 0 new) = record { repeats = repeats; used = used; none = refl; same = refl } in
    record {
      few = omega (arith, few);
      ran = subst (λ n. LapsTo top n (point top.rest have old) (point again 0 new)) more (point code now new, ran, inr back);
      fits = omega (arith, repeats.fits);
    }

-- ---- the values at a point

size-at : (s : StackParts) (below between : List Value) (p : Point) → IsSplit s below between p → p.have ≤ length p.at.own
    → length (values_at below between p) ≡ s.top.height + p.have
size-at s below between p h within =
    let front : List Value = below ++ (p.at.locals ++ between) in
    omega (
      arith,
      ap length (regroup below p.at.locals between (take p.have p.at.own)),
      length-append front (take p.have p.at.own),
      front-size s below between p h,
      length-take-le p.have p.at.own within,
    )

-- those that the innermost block has among the first so many
own-among : (s : StackParts) (below between : List Value) (p : Point) (n : ℕ) → IsSplit s below between p → n ≤ p.have
    → own_of (stacks_at s below between p) (s.top.height + n) ≡ used n p.at.own
own-among s below between p n h few =
    ap (λ (vs : List Value). reverse vs)
    (drop-take s.top.height n (values_at below between p) ∙ ap (λ (vs : List Value). take n vs) (own-at s below between p h) ∙ take-take n p.have p.at.own few)

-- ---- a branch to the innermost loop

-- a loop isn't outermost, and its own values begin where it begins
record IsInner (top : Entry) (outer : List Entry) : Type 0 where
  base : top.base ≡ top.height
  around : 0 < length outer

is-inner : (top : Entry) (outer : List Entry) (again : List Instr) → AreStacked top outer → top.kind ≡ LoopEntry again → IsInner top outer
is-inner top [] again stacked loop = absurd (cc (stacked.kind, loop))
is-inner top (parent ∷ parents) again stacked loop =
    let block : IsBlockIn top parent = subst (λ (k : EntryKind). IsKindIn k top parent) loop stacked.0 in
    record { base = sym block.height; around = omega arith }

number-at : (s : StackParts) (below between : List Value) (p : Point) (number : ℕ) → IsSplit s below between p → p.have ≤ length p.at.own
    → HasNumber number p.have p.at.own → HasFrontNumber (stacks_at s below between p) number
number-at s below between p number h within on =
    let size = size-at s below between p h within in
    let last : length (values_at below between p) - 1 ≡ s.top.height + (p.have - 1) = omega (arith, size, on.there) in
    let whole = ap (λ n. own_of (stacks_at s below between p) n) size ∙ own-among s below between p p.have h (omega arith) in
    let others = ap (λ n. own_of (stacks_at s below between p) n) last ∙ own-among s below between p (p.have - 1) h (omega arith) in
    record {
      own = whole ∙ on.values ∙ ap (λ (vs : List Value). I32 number ∷ vs) (sym others);
      within = omega (arith, size, on.there);
    }

branches-here : (s : StackParts) (below between : List Value) (p : Point) (instr : Instr) (rest : List Instr) → IsSplit s below between p → p.have ≤ length p.at.own
    → p.rest ≡ instr ∷ rest → BranchesBack instr p.have p.at.own → (have : ℕ) × BranchesHere (stacks_at s below between p) have
branches-here s below between p (Br label) rest h within first back =
    let size = size-at s below between p h within in
    (length (values_at below between p), br_here (stacks_at s below between p) label rest (length (values_at below between p)) first back refl (omega (arith, size)))
branches-here s below between p (BrIf label) rest h within first (none, (number, on, ne)) =
    let there = number-at s below between p number h within on in (
      length (values_at below between p) - 1,
      br_if_here (stacks_at s below between p) label number rest (length (values_at below between p)) first none refl there ne,
    )
branches-here s below between p instr rest h within first back = absurd back

record HasGoneBack (s : StackParts) (below between : List Value) (p q : Point) : Type 0 where
  stays : StaysWithin (stacks_at s below between p) (stacks_at s below between q)
  split : IsSplit s below between q

gone-back : (s : StackParts) (below between : List Value) (p q : Point) → IsFew s → IsSplit s below between p → GoesBack s.top p q → HasGoneBack s below between p q
gone-back s below between p q few h back =
    let old : StackParts = stacks_at s below between p in
    let new : StackParts = stacks_at s below between q in
    let inner = is-inner s.top s.outer q.rest h.stacked back.repeats.loop in
    let here = branches-here s below between p back.repeats.instr back.repeats.rest h back.used back.repeats.first back.repeats.back in
    let base : s.top.base ≡ s.top.height = inner.base in
    let left : values_at below between q ≡ below ++ (p.at.locals ++ between) =
    cc (back.same, back.none, append-nil between) in
    let first : take s.top.base (values_at below between p) ≡ below ++ (p.at.locals ++ between) =
    ap (λ n. take n (values_at below between p)) base ∙ front-at s below between p h in
    let values : new.values ≡ take s.top.base old.values ++ range_of old.values (here.0 - 0) 0 =
    left ∙ sym (append-nil (below ++ (p.at.locals ++ between))) ∙ ap (λ (vs : List Value). vs ++ []) (sym first) in
    let stacked : IsStacked old = stacked-at s below between p few h in
    let begun : IsAgain old 0 old.top q.rest here.0 0 new = record { top = refl; outer = refl; values = values } in
    let anew = begins_anew old new here.0 old.top q.rest stacked refl inner.around back.repeats.none here.1.own here.1.within (omega (arith, base, here.1.own))
    back.repeats.loop begun in
    record { stays = repeats_by old new here.0 here.1 anew; split = split-kept s below between p q h (ap (λ at. length at.locals) back.same) }

-- ---- many steps

record HasReached (bodies : List BodyParts) (s : StackParts) (below between : List Value) (n : ℕ) (p q : Point) : Type 0 where
  reaches : Reaches n (state_of bodies p.at.store) (stacks_term (stacks_at s below between p)) (state_of bodies q.at.store) (stacks_term (stacks_at s below between q))
  split : IsSplit s below between q

laps-reach : (bodies : List BodyParts) (s : StackParts) (below between : List Value) (n : ℕ) (p q : Point) → IsFew s → IsSplit s below between p
    → LapsTo s.top n p q → HasReached bodies s below between n p q
laps-reach bodies s below between zero p q few h same =
    let P : Point → Type 0 = λ x. HasReached bodies s below between zero p x in
    subst P (sym same) (record { reaches = (refl, refl); split = h })
laps-reach bodies s below between (suc n) p q few h (m, laps, inl goes) =
    let r = laps-reach bodies s below between n p m few h laps in
    let first = leaf-first s.top.body goes.instr m.rest q.rest goes.went.0 goes.first in
    let stepped = went-on bodies s below between m q goes.instr r.split first (goes.went.2 bodies) in
    record {
      reaches = (
        state_of bodies m.at.store,
        stacks_term (stacks_at s below between m),
        r.reaches,
        steps-on bodies s below between m q goes first stepped,
        enters-none s below between m q few r.split stepped.split,
      );
      split = stepped.split;
    }
laps-reach bodies s below between (suc n) p q few h (m, laps, inr back) =
    let r = laps-reach bodies s below between n p m few h laps in
    let gone = gone-back s below between m q few r.split back in
    let old = stacks_term (stacks_at s below between m) in
    let new = stacks_term (stacks_at s below between q) in
    let on = within_on (stacks_at s below between m) (stacks_at s below between q) (state_of bodies m.at.store) gone.stays in
    let steps : StepsOn (state_of bodies m.at.store) old (state_of bodies q.at.store) new =
    subst (λ at. StepsOn (state_of bodies m.at.store) old (state_of bodies at.store) new) (sym back.same) on.0 in
    record { reaches = (state_of bodies m.at.store, old, r.reaches, steps, on.1); split = gone.split }

-- what a run came to
pub record HasRun (bodies : List BodyParts) (s : StackParts) (made : ℕ) (store after : StateOf Function) (now : StackParts) : Type 0 where
  pub reaches : Reaches made (state_of bodies store) (stacks_term s) (state_of bodies after) (stacks_term now)
  pub stacked : IsStacked now

-- a run over the values of stacks, behind which there is room
pub run_lands : (bodies : List BodyParts) (s : StackParts) (values new : List Value) (have made n : ℕ) (store after : StateOf Function) (rest : List Instr) → IsStacked s
    → take have values ≡ s.values → have ≤ length values → s.top.height ≤ have → SameApart (places_of s.top) values new
    → LapsTo s.top made (point s.top.rest (have - s.top.height) (site_of (places_of s.top) values store)) (point rest n (site_of (places_of s.top) new after))
    → HasRun bodies s made store after (record { top = record s.top { rest = rest }; outer = s.outer; values = take (s.top.height + n) new })
run_lands bodies s values new have made n store after rest stacked held fits own apart laps =
    let below : List Value = take s.top.locals_at values in
    let between : List Value = range_of values s.top.locals_end (s.top.height - s.top.locals_end) in
    let p : Point = point s.top.rest (have - s.top.height) (site_of (places_of s.top) values store) in
    let q : Point = point rest n (site_of (places_of s.top) new after) in
    let few : IsFew s = record { few = stacked.few; small = stacked.small } in
    let r = laps-reach bodies s below between made p q few (split-of s values have store stacked fits own) laps in
    let P : List Value → List Value → Type 0 = λ vs ws. HasRun bodies (record { top = s.top; outer = s.outer; values = vs }) made store after
    (record { top = record s.top { rest = rest }; outer = s.outer; values = ws }) in
    let at-parts : P (values_at below between p) (values_at below between q) = record { reaches = r.reaches; stacked = stacked-at s below between q few r.split } in
    let half : P s.values (values_at below between q) =
    subst (λ (vs : List Value). P vs (values_at below between q)) (values-before s values have store stacked held own) at-parts in
    subst (λ (ws : List Value). P s.values ws) (values-after s values new rest n after stacked apart) half
