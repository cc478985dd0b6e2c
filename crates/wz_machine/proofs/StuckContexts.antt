-- A step keeps the typing of a term, if instructions that hold no others do what their rules say.
use Rattle.std.proofs.Common.{◌≡◌, ◌≤◌, ◌++◌, ◌∷◌, ◌∙◌, ◌==◌, [], ℕ, List, subst, None, Some, refl, sym, Option, reverse, drop, length, nat_le, take, IsSomeAnd, suc, zero, true, eq-eqb}
use Rattle.std.proofs.lemmas.Bool.{le-leb}
use Rattle.std.proofs.lemmas.List.{length-reverse, reverse-append, reverse-reverse}
use Rattle.wz_types.specs.declared.types.ValType.{ValType}
use Rattle.wz_types.specs.declared.value.Value.{Value}
use Rattle.wz_types.proofs.SameTypeLemmas.{same_type-true}
use Rattle.wz_types.specs.FunctionType.{FunctionType}
use Rattle.wz_types.specs.declared.value.Value.TheVariants.{I32}
use Rattle.wz_types.specs.declared.types.ValType.TheVariants as valtype
use Rattle.wz_code.specs.declared.instr.Shape.{Shape}
use Rattle.wz_code.specs.declared.instr.Shape.TheVariants.{Empty, One, Index}
use Rattle.wz_code.specs.Trees.{Code, End, Then, InBlock, InLoop, InIf}
use Rattle.wz_num.specs.Number.{number}
use Rattle.wz_valid_code.specs.Context.{TypingContext, shape_type, Labels}
use Rattle.wz_valid_code.specs.Operands.{Operands, Takes, pushed}
use Rattle.wz_valid_code.specs.Typing.{IsTyped}
use Rattle.wz_valid_code.specs.Rules.{Leads, Exchange}
use Rattle.wz_store.specs.Changes.{Nothing}
use Rattle.wz_machine.specs.TypedTerms.{HaveTypes, as_operands, answer_types, Continues, IsRestTyped, IsInsideTyped, IsTermTyped}
use Rattle.wz_machine.specs.TypedState.{HasType, state_context}
use Rattle.wz_machine.specs.State.{State}
use Rattle.wz_machine.specs.BlockSteps.{block_type, label_types, block_entry, if_entry, arrival, label_reduct, frame_left, frame_reduct}
use Rattle.wz_machine.specs.Outcomes.{Effect, Yields, Poses, Fails, HasNoRule, Outcome, Does, SetsLocals, Jumps, Quits, Calls, Reduct, Goes, Sticks, Finishes, Branches, Returns, Pauses, Traps, Answer, Done, Stuck}
use Rattle.wz_machine.specs.Step.{effect_reduct, outcome_reduct, code_reduct, inside_reduct, results_answer, frame_answer, step}
use Rattle.wz_machine.specs.Terms.{InLabel, Innermost, Inside, InFrame, Term, Frame, BareValues}
use Rattle.wz_machine.specs.InstrSteps.{leaf_step}
use Rattle.wz_machine.specs.TypedSteps.{IsAnswerTyped}
use Rattle.wz_machine.proofs.StuckRelations.{Have, LeavesServe, EffectServes, scope_in, ReductServes, OutcomeServes, Offered, Offers}
use Rattle.wz_machine.proofs.StuckValues.{stand-pushed, offers-of, stand-taken, as_operands-reverse, stand-length, stand-reverse}
use Rattle.wz_machine.proofs.StuckOperands.{if-true, take-i32}

module _ (context : TypingContext) where
  -- ---- whole stacks

  -- all values are of the types that are taken
  stand-whole : (types : List ValType) (values : List Value) (before : Operands) → Takes types before [] → HaveTypes context values before
      → HaveTypes context values (as_operands types)
  stand-whole [] values before t h = subst (λ (x : Operands). HaveTypes context values x) t h
  stand-whole (a ∷ types) values [] t h = absurd t
  stand-whole (a ∷ types) [] (o ∷ before) t h = absurd h
  stand-whole (a ∷ types) (v ∷ values) (None ∷ before) t h = absurd h
  stand-whole (a ∷ types) (v ∷ values) (Some q ∷ before) t h =
      (subst (λ (x : ValType). HasType context v x) (same_type-true q a t.0) h.0, stand-whole types values before t.1 h.1)

-- a block's type in the state is that in its context
shape-same : (s : State) (shape : Shape) → block_type s.types shape ≡ shape_type (state_context s) shape
shape-same s Empty = refl
shape-same s (One type) = refl
shape-same s (Index number) = refl

module _ (s : State) (leaves : LeavesServe s) where
  -- ---- the innermost instructions

  effect-serves : (types returns : List ValType) (labels : Labels) (results : List ValType) (locals : List Value) (rest : Code) (effect : Effect) (next : Operands)
      → EffectServes s next effect → IsTyped (scope_in s types returns) labels rest next results → Have s locals (as_operands types)
      → ReductServes s (scope_in s types returns) labels results (effect_reduct locals rest effect)
  effect-serves types returns labels results locals rest (Yields change values) next e t l = (e.0, l, (next, e.1, t))
  effect-serves types returns labels results locals rest (Poses question values) next (below, stand, is, serves) t l = (
    serves,
    λ vs h. (
      next,
      subst (λ (x : Operands). Have s (vs ++ values) x) (sym is)
          (stand-pushed (state_context s) vs values (answer_types question) below h stand),
      t,
    ),
  )
  effect-serves types returns labels results locals rest (Fails kind) next e t l = tt
  effect-serves types returns labels results locals rest HasNoRule next e t l = absurd e

  found-serves : (types returns : List ValType) (labels : Labels) (results : List ValType) (locals : List Value) (rest : Code) (outcome : Outcome) (next : Operands)
      → OutcomeServes s (scope_in s types returns) labels next outcome → IsTyped (scope_in s types returns) labels rest next results
      → Have s locals (as_operands types) → ReductServes s (scope_in s types returns) labels results (outcome_reduct locals rest outcome)
  found-serves types returns labels results locals rest (Does effect) next o t l = effect-serves types returns labels results locals rest effect next o t l
  found-serves types returns labels results locals rest (SetsLocals new values) next o t l = (tt, o.0, (next, o.1, t))
  found-serves types returns labels results locals rest (Jumps label values) next o t l = o
  found-serves types returns labels results locals rest (Quits values) next o t l = o
  found-serves types returns labels results locals rest (Calls count inner code values) next o t l = (
    tt,
    l,
    (
      o.types,
      o.ends,
      o.long,
      o.locals,
      ([], tt, o.typed),
      record { operands = o.below; values = o.stand; code = subst (λ (x : Operands). IsTyped (scope_in s types returns) labels rest x results) o.leads t },
    ),
  )

  -- a block takes in what stands on top
  block_entry-serves : (types returns : List ValType) (labels : Labels) (results : List ValType) (locals : List Value) (type : FunctionType) (again : Option Code) (inner : Code) (values : List Value) (rest : Code)
      (below next : Operands) → Offered (state_context s) (reverse type.params) values → Have s (drop (length (reverse type.params)) values) below
      → next ≡ pushed type.results below → IsTyped (scope_in s types returns) (label_types type again ∷ labels) inner (pushed type.params []) type.results
      → Continues (scope_in s types returns) labels (label_types type again) type.results again
      → IsTyped (scope_in s types returns) labels rest next results → Have s locals (as_operands types)
      → ReductServes s (scope_in s types returns) labels results (block_entry locals (Some type) again inner values rest)
  block_entry-serves types returns labels results locals type again inner values rest below next off stand is typed on follows l =
      let n : ℕ = length type.params in
      let offers = offers-of (state_context s) type.params values off in
      if-true (λ (f : Reduct). ReductServes s (scope_in s types returns) labels results f) (nat_le n (length values))
      (Goes Nothing locals (InLabel (drop n values) (length (label_types type again)) again (Innermost (take n values) inner) rest)) Sticks
      (le-leb n (length values) offers.enough) (
        tt,
        l,
        (
          label_types type again,
          type.results,
          refl,
          (pushed type.params [], offers.carried, typed),
          on,
          record {
            operands = below;
            values = subst (λ (k : ℕ). Have s (drop k values) below) (length-reverse type.params) stand;
            code = subst (λ (x : Operands). IsTyped (scope_in s types returns) labels rest x results) is follows;
          },
        ),
      )

  block-serves : (types returns : List ValType) (labels : Labels) (results : List ValType) (locals : List Value) (o : Option FunctionType) (inner : Code) (values : List Value) (rest : Code) (before : Operands)
      → IsSomeAnd o (λ type. IsTyped (scope_in s types returns) (type.results ∷ labels) inner (pushed type.params []) type.results
      × ((next : Operands) × Leads (Exchange type.params type.results) before next × IsTyped (scope_in s types returns) labels rest next results))
      → Have s values before → Have s locals (as_operands types)
      → ReductServes s (scope_in s types returns) labels results (block_entry locals o None inner values rest)
  block-serves types returns labels results locals None inner values rest before h st l = absurd h
  block-serves types returns labels results locals (Some type) inner values rest before (typed, (next, (below, takes, is), follows)) st l =
      let r = stand-taken (state_context s) (reverse type.params) values before below takes st in
      block_entry-serves types returns labels results locals type None inner values rest below next r.0 r.1 is typed refl follows l

  loop-serves : (types returns : List ValType) (labels : Labels) (results : List ValType) (locals : List Value) (o : Option FunctionType) (inner : Code) (values : List Value) (rest : Code) (before : Operands)
      → IsSomeAnd o (λ type. IsTyped (scope_in s types returns) (type.params ∷ labels) inner (pushed type.params []) type.results
      × ((next : Operands) × Leads (Exchange type.params type.results) before next × IsTyped (scope_in s types returns) labels rest next results))
      → Have s values before → Have s locals (as_operands types)
      → ReductServes s (scope_in s types returns) labels results (block_entry locals o (Some inner) inner values rest)
  loop-serves types returns labels results locals None inner values rest before h st l = absurd h
  loop-serves types returns labels results locals (Some type) inner values rest before (typed, (next, (below, takes, is), follows)) st l =
      let r = stand-taken (state_context s) (reverse type.params) values before below takes st in
      block_entry-serves types returns labels results locals type (Some inner) inner values rest below next r.0 r.1 is typed typed follows l

  if-serves : (types returns : List ValType) (labels : Labels) (results : List ValType) (locals : List Value) (o : Option FunctionType) (first second : Code) (values : List Value) (rest : Code) (before : Operands)
      → IsSomeAnd o (λ type. IsTyped (scope_in s types returns) (type.results ∷ labels) first (pushed type.params []) type.results
      × IsTyped (scope_in s types returns) (type.results ∷ labels) second (pushed type.params []) type.results
      × ((next : Operands) × Leads (Exchange (type.params ++ valtype.I32 ∷ []) type.results) before next × IsTyped (scope_in s types returns) labels rest next results))
      → Have s values before → Have s locals (as_operands types)
      → ReductServes s (scope_in s types returns) labels results (if_entry locals o first second values rest)
  if-serves types returns labels results locals None first second values rest before h st l = absurd h
  if-serves types returns labels results locals (Some type) first second values rest before (one, other, (next, (below, takes, is), follows)) st l =
      let asked : reverse (type.params ++ valtype.I32 ∷ []) ≡ valtype.I32 ∷ reverse type.params = reverse-append type.params (valtype.I32 ∷ []) in
      let r = stand-taken (state_context s) (valtype.I32 ∷ reverse type.params) values before below (subst (λ (x : List ValType). Takes x before below) asked takes) st in
      take-i32 (state_context s) (λ vs. Have s (drop (suc (length (reverse type.params))) vs) below
      → ReductServes s (scope_in s types returns) labels results (if_entry locals (Some type) first second vs rest))
      (reverse type.params) (λ bits vs fit off stand. by bits vs off stand) values r.0 r.1
    where
      by : (bits : ℕ) (vs : List Value) → Offered (state_context s) (reverse type.params) vs → Have s (drop (length (reverse type.params)) vs) below
          → ReductServes s (scope_in s types returns) labels results (if_entry locals (Some type) first second (I32 bits ∷ vs) rest)
      by zero vs off stand = block_entry-serves types returns labels results locals type None second vs rest below next off stand is other refl follows l
      by (suc n) vs off stand = block_entry-serves types returns labels results locals type None first vs rest below next off stand is one refl follows l

  first-serves : (types returns : List ValType) (labels : Labels) (results : List ValType) (locals values : List Value) (code : Code) (before : Operands)
      → IsTyped (scope_in s types returns) labels code before results → Have s values before → Have s locals (as_operands types)
      → ReductServes s (scope_in s types returns) labels results (code_reduct s locals values code)
  first-serves types returns labels results locals values End before t st l =
      subst (λ (x : Operands). Have s values x) (as_operands-reverse results) (stand-whole (state_context s) (reverse results) values before t st)
  first-serves types returns labels results locals values (Then leaf rest) before (next, leads, t) st l =
      found-serves types returns labels results locals rest (leaf_step s locals leaf values) next
      (leaves.serves types returns labels leaf locals values before next leads st l) t l
  first-serves types returns labels results locals values (InBlock shape inner rest) before t st l =
      subst (λ (o : Option FunctionType). ReductServes s (scope_in s types returns) labels results (block_entry locals o None inner values rest))
      (sym (shape-same s shape))
      (block-serves types returns labels results locals (shape_type (state_context s) shape) inner values rest before t st l)
  first-serves types returns labels results locals values (InLoop shape inner rest) before t st l =
      subst (λ (o : Option FunctionType). ReductServes s (scope_in s types returns) labels results (block_entry locals o (Some inner) inner values rest))
      (sym (shape-same s shape))
      (loop-serves types returns labels results locals (shape_type (state_context s) shape) inner values rest before t st l)
  first-serves types returns labels results locals values (InIf shape first second rest) before t st l =
      subst (λ (o : Option FunctionType). ReductServes s (scope_in s types returns) labels results (if_entry locals o first second values rest))
      (sym (shape-same s shape))
      (if-serves types returns labels results locals (shape_type (state_context s) shape) first second values rest before t st l)

  -- ---- labels and frames

  -- values that go to what follows
  follows-serves : (types returns : List ValType) (labels : Labels) (results ends : List ValType) (locals below : List Value) (rest : Code) (left : List Value)
      → Have s left (pushed ends []) → IsRestTyped (scope_in s types returns) labels ends below rest results → Have s locals (as_operands types)
      → ReductServes s (scope_in s types returns) labels results (Goes Nothing locals (Innermost (left ++ below) rest))
  follows-serves types returns labels results ends locals below rest left h follows l =
      (tt, l, (pushed ends follows.operands, stand-pushed (state_context s) left below ends follows.operands h follows.values, follows.code))

  arrival-serves : (types returns : List ValType) (labels : Labels) (results carried ends : List ValType) (locals below : List Value) (count : ℕ) (again : Option Code) (rest : Code) (taken : List Value)
      → count ≡ length carried → Have s taken (pushed carried []) → Continues (scope_in s types returns) labels carried ends again
      → IsRestTyped (scope_in s types returns) labels ends below rest results → Have s locals (as_operands types)
      → ReductServes s (scope_in s types returns) labels results (Goes Nothing locals (arrival below count again rest taken))
  arrival-serves types returns labels results carried ends locals below count None rest taken long h on follows l =
      follows-serves types returns labels results ends locals below rest taken
      (subst (λ (x : List ValType). Have s taken (pushed x [])) on h) follows l
  arrival-serves types returns labels results carried ends locals below count (Some again) rest taken long h on follows l =
      (tt, l, (carried, ends, long, (pushed carried [], h, on), on, follows))

  label-serves : (types returns : List ValType) (labels : Labels) (results carried ends : List ValType) (locals below : List Value) (count : ℕ) (again : Option Code) (rest : Code) (found : Reduct)
      → count ≡ length carried → Continues (scope_in s types returns) labels carried ends again → IsRestTyped (scope_in s types returns) labels ends below rest results
      → Have s locals (as_operands types) → ReductServes s (scope_in s types returns) (carried ∷ labels) ends found
      → ReductServes s (scope_in s types returns) labels results (label_reduct locals below count again rest found)
  label-serves types returns labels results carried ends locals below count again rest (Goes change new inside) long on follows l f =
      (f.0, f.1, (carried, ends, long, f.2, on, follows))
  label-serves types returns labels results carried ends locals below count again rest (Finishes left) long on follows l f =
      follows-serves types returns labels results ends locals below rest left f follows l
  label-serves types returns labels results carried ends locals below count again rest (Branches zero found) long on follows l (asked, is, offers) =
      let same : asked ≡ carried = cc in
      let offered : Offers (state_context s) found carried = subst (λ (x : List ValType). Offers (state_context s) found x) same offers in
      let enough : count ≤ length found = subst (λ (k : ℕ). k ≤ length found) (sym long) offered.enough in
      if-true (λ (f : Reduct). ReductServes s (scope_in s types returns) labels results f) (nat_le count (length found))
      (Goes Nothing locals (arrival below count again rest (take count found))) Sticks (le-leb count (length found) enough)
      (arrival-serves types returns labels results carried ends locals below count again rest (take count found) long
      (subst (λ (k : ℕ). Have s (take k found) (pushed carried [])) (sym long) offered.carried) on follows l)
  label-serves types returns labels results carried ends locals below count again rest (Branches (suc label) found) long on follows l f = f
  label-serves types returns labels results carried ends locals below count again rest (Returns found) long on follows l f = f
  label-serves types returns labels results carried ends locals below count again rest (Pauses question inside) long on follows l f =
      (f.0, λ vs h. (carried, ends, long, f.1 vs h, on, follows))
  label-serves types returns labels results carried ends locals below count again rest (Traps kind) long on follows l f = tt
  label-serves types returns labels results carried ends locals below count again rest Sticks long on follows l f = absurd f

  left-serves : (types returns : List ValType) (labels : Labels) (results ends : List ValType) (locals below : List Value) (count : ℕ) (rest : Code) (found : List Value)
      → count ≡ length ends → IsRestTyped (scope_in s types returns) labels ends below rest results → Have s locals (as_operands types)
      → Offers (state_context s) found ends → ReductServes s (scope_in s types returns) labels results (frame_left locals below count rest found)
  left-serves types returns labels results ends locals below count rest found long follows l offers =
      let enough : count ≤ length found = subst (λ (k : ℕ). k ≤ length found) (sym long) offers.enough in
      if-true (λ (f : Reduct). ReductServes s (scope_in s types returns) labels results f) (nat_le count (length found))
      (Goes Nothing locals (Innermost (take count found ++ below) rest)) Sticks (le-leb count (length found) enough)
      (follows-serves types returns labels results ends locals below rest (take count found)
      (subst (λ (k : ℕ). Have s (take k found) (pushed ends [])) (sym long) offers.carried) follows l)

  ends-long : (ends : List ValType) (count : ℕ) (left : List Value) → count ≡ length ends → Have s left (pushed ends []) → (length left == count) ≡ true
  ends-long ends count left long h =
      eq-eqb (length left) count
      (stand-length (state_context s) left (reverse ends) (subst (λ (x : Operands). Have s left x)
      (sym (as_operands-reverse ends)) h) ∙ length-reverse ends ∙ sym long)

  frame-serves : (types returns : List ValType) (labels : Labels) (results own ends : List ValType) (locals below : List Value) (count : ℕ) (inner : List Value) (rest : Code) (found : Reduct)
      → count ≡ length ends → Have s inner (as_operands own) → IsRestTyped (scope_in s types returns) labels ends below rest results
      → Have s locals (as_operands types) → ReductServes s (scope_in s own ends) (ends ∷ []) ends found
      → ReductServes s (scope_in s types returns) labels results (frame_reduct locals below count inner rest found)
  frame-serves types returns labels results own ends locals below count inner rest (Goes change new inside) long i follows l f =
      (f.0, l, (own, ends, long, f.1, f.2, follows))
  frame-serves types returns labels results own ends locals below count inner rest (Finishes left) long i follows l f =
      if-true (λ (f : Reduct). ReductServes s (scope_in s types returns) labels results f) (length left == count)
      (Goes Nothing locals (Innermost (left ++ below) rest)) Sticks (ends-long ends count left long f)
      (follows-serves types returns labels results ends locals below rest left f follows l)
  frame-serves types returns labels results own ends locals below count inner rest (Branches zero found) long i follows l (asked, is, offers) =
      let same : asked ≡ ends = cc in
      left-serves types returns labels results ends locals below count rest found long follows l
      (subst (λ (x : List ValType). Offers (state_context s) found x) same offers)
  frame-serves types returns labels results own ends locals below count inner rest (Branches (suc label) found) long i follows l (asked, is, offers) = absurd (cc)
  frame-serves types returns labels results own ends locals below count inner rest (Returns found) long i follows l f =
      left-serves types returns labels results ends locals below count rest found long follows l f
  frame-serves types returns labels results own ends locals below count inner rest (Pauses question inside) long i follows l f =
      (f.0, λ vs h. (own, ends, long, i, f.1 vs h, follows))
  frame-serves types returns labels results own ends locals below count inner rest (Traps kind) long i follows l f = tt
  frame-serves types returns labels results own ends locals below count inner rest Sticks long i follows l f = absurd f

  inside-serves : (types returns : List ValType) (labels : Labels) (results : List ValType) (locals : List Value) (inside : Inside)
      → IsInsideTyped (scope_in s types returns) labels inside results → Have s locals (as_operands types)
      → ReductServes s (scope_in s types returns) labels results (inside_reduct s locals inside)
  inside-serves types returns labels results locals (Innermost values code) (before, st, t) l = first-serves types returns labels results locals values code before t st l
  inside-serves types returns labels results locals (InLabel below count again inside rest) (carried, ends, long, t, on, follows) l =
      label-serves types returns labels results carried ends locals below count again rest (inside_reduct s locals inside) long on follows l
      (inside-serves types returns (carried ∷ labels) ends locals inside t l)
  inside-serves types returns labels results locals (InFrame below count inner inside rest) (own, ends, long, i, t, follows) l =
      frame-serves types returns labels results own ends locals below count inner rest (inside_reduct s inner inside) long i follows l
      (inside-serves own ends (ends ∷ []) ends inner inside t i)

  -- ---- terms

  in-order : (results : List ValType) (values : List Value) → Have s values (pushed results []) → Have s (reverse values) (as_operands results)
  in-order results values h =
      subst (λ (x : List ValType). Have s (reverse values) (as_operands x)) (reverse-reverse results)
      (stand-reverse (state_context s) values (reverse results) (subst (λ (x : Operands). Have s values x) (sym (as_operands-reverse results)) h))

  done-serves : (results : List ValType) (count : ℕ) (found : List Value) → count ≡ length results → Offers (state_context s) found results
      → IsAnswerTyped s results (results_answer count found)
  done-serves results count found long offers =
      let enough : count ≤ length found = subst (λ (k : ℕ). k ≤ length found) (sym long) offers.enough in
      if-true (λ (a : Answer). IsAnswerTyped s results a) (nat_le count (length found)) (Done (reverse (take count found))) Stuck (le-leb count (length found) enough)
      (subst (λ (k : ℕ). Have s (reverse (take k found)) (as_operands results)) (sym long)
      (in-order results (take (length results) found) offers.carried))

  frame_answer-serves : (types results : List ValType) (count : ℕ) (locals : List Value) (found : Reduct) → count ≡ length results
      → Have s locals (as_operands types)
      → ReductServes s (scope_in s types results) (results ∷ []) results found → IsAnswerTyped s results (frame_answer count locals found)
  frame_answer-serves types results count locals (Goes change new inside) long l f = (f.0, (types, long, f.1, f.2))
  frame_answer-serves types results count locals (Finishes left) long l f =
      if-true (λ (a : Answer). IsAnswerTyped s results a) (length left == count) (Done (reverse left)) Stuck (ends-long results count left long f)
      (in-order results left f)
  frame_answer-serves types results count locals (Branches zero found) long l (asked, is, offers) =
      let same : asked ≡ results = cc in
      done-serves results count found long (subst (λ (x : List ValType). Offers (state_context s) found x) same offers)
  frame_answer-serves types results count locals (Branches (suc label) found) long l (asked, is, offers) = absurd (cc)
  frame_answer-serves types results count locals (Returns found) long l f = done-serves results count found long f
  frame_answer-serves types results count locals (Pauses question inside) long l f =
      record { asked = f.0; answered = λ vs h. (types, long, l, f.1 vs h) }
  frame_answer-serves types results count locals (Traps kind) long l f = tt
  frame_answer-serves types results count locals Sticks long l f = absurd f

  -- a step of a typed term keeps the typing, and is never stuck
  pub step-serves : (term : Term) (results : List ValType) → IsTermTyped (state_context s) term results → IsAnswerTyped s results (step s term)
  step-serves (Frame count locals inside) results (types, long, l, t) =
      frame_answer-serves types results count locals (inside_reduct s locals inside) long l (inside-serves types results (results ∷ []) results locals inside t l)
  step-serves (BareValues values) results h = in-order results values h
