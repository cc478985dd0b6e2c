-- What the control instructions come to on the machine's stacks.
use Rattle.std.proofs.Common.{◌≡◌, ◌≤◌, ℕ, zero, suc, ◌-◌, List, [], ◌∷◌, Option, Some, None, length, take, drop, reverse, slice_get, unwrap_or, take_all, refl, ap, sym, ◌∙◌, arith}
use Rattle.std.proofs.lemmas.List.{take-take}
use Rattle.wz_types.specs.declared.value.Value.{Value}
use Rattle.wz_types.specs.declared.value.Value.TheVariants.{I32, I64, F32, F64, Ref}
use Rattle.wz_types.specs.FunctionType.{FunctionType}
use Rattle.wz_code.specs.declared.instr.Instr.{Instr}
use Rattle.wz_code.specs.declared.instr.Instr.TheVariants.{Block, Loop, If, Br, BrIf, BrTable, Return}
use Rattle.wz_code.specs.declared.instr.Shape.{Shape}
use Rattle.wz_code.specs.BodyParts.{block_at}
use Rattle.wz_code.specs.BlockRule.{IsBody}
use Rattle.wz_code.specs.Trees.{Code, Leaf, Plain, Then, code_in, tree_of, arm_of, headed_in}
use Rattle.wz_store.specs.Changes.{Change, Nothing}
use Rattle.wz_machine.specs.State.{State}
use Rattle.wz_machine.specs.Outcomes.{Yields, HasNoRule, Outcome, Does, Jumps, Branches, Returns, Sticks, Next, Stuck}
use Rattle.wz_machine.specs.ControlSteps.{br_if_step, listed_jump, br_table_step}
use Rattle.wz_machine.specs.InstrSteps.{leaf_step}
use Rattle.wz_machine.specs.BlockSteps.{block_type, block_entry, if_entry}
use Rattle.wz_machine.specs.Step.{outcome_reduct, code_reduct, step}
use Rattle.wz_machine.specs.Contexts.{content_reduct}
use Rattle.wz_machine.specs.Flat.{content_of, own_values, locals_in, HasPlaces}
use Rattle.wz_machine.specs.Stacks.{StackParts, opened_of, flat_of, stacks_term, IsStacked}
use Rattle.wz_machine.specs.Opening.{stepped}
use Rattle.wz_machine.specs.Turns.{own_of, arm_chosen, NoNumber, HasFrontNumber}
use Rattle.wz_machine.proofs.FlatLemmas.{plain_step}
use Rattle.wz_machine.proofs.StackLemmas.{block-code}
use Rattle.wz_machine.proofs.EntryLemmas.{sticks-step}

-- ---- the instruction in front

abbrev pub locals_of : StackParts → List Value
locals_of s = locals_in (opened_of s.top) s.values

pub front-reduct : (st : State) (s : StackParts) (instr : Instr) (rest : List Instr) → s.top.rest ≡ instr ∷ rest
    → content_reduct st (content_of (flat_of s))
    ≡ code_reduct st (locals_of s) (own_values (opened_of s.top) s.values) (headed_in s.top.body instr (code_in s.top.body rest))
front-reduct st s instr rest e =
    ap (λ (code : List Instr). code_reduct st (locals_of s) (own_values (opened_of s.top) s.values) (code_in s.top.body code)) e

pub own-all : (s : StackParts) (have : ℕ) → have ≡ length s.values → own_values (opened_of s.top) s.values ≡ own_of s have
own-all s have e = ap (λ (vs : List Value). reverse (drop s.top.height vs)) (sym (take_all have s.values (omega (arith, e))))

-- a leaf in front comes to this outcome
pub leaf-reduct : (st : State) (s : StackParts) (instr : Instr) (rest : List Instr) (leaf : Leaf) (own : List Value) (outcome : Outcome) → s.top.rest ≡ instr ∷ rest
    → headed_in s.top.body instr (code_in s.top.body rest) ≡ Then leaf (code_in s.top.body rest)
    → own_values (opened_of s.top) s.values ≡ own → leaf_step st (locals_of s) leaf own ≡ outcome
    → content_reduct st (content_of (flat_of s)) ≡ outcome_reduct (locals_of s) (code_in s.top.body rest) outcome
leaf-reduct st s instr rest leaf own outcome e is_leaf is_own does =
    front-reduct st s instr rest e
    ∙ ap (λ (code : Code). code_reduct st (locals_of s) (own_values (opened_of s.top) s.values) code) is_leaf
    ∙ ap (λ (vs : List Value). outcome_reduct (locals_of s) (code_in s.top.body rest) (leaf_step st (locals_of s) leaf vs)) is_own
    ∙ ap (λ (o : Outcome). outcome_reduct (locals_of s) (code_in s.top.body rest) o) does

-- the instruction is left behind
pub stepped-step : (st : State) (s : StackParts) (instr : Instr) (rest : List Instr) (leaf : Leaf) (own : List Value) (change : Change) (have : ℕ) → IsStacked s
    → s.top.rest ≡ instr ∷ rest → headed_in s.top.body instr (code_in s.top.body rest) ≡ Then leaf (code_in s.top.body rest) → s.top.height ≤ have
    → own_values (opened_of s.top) s.values ≡ own → leaf_step st (locals_of s) leaf own ≡ Does (Yields change (own_of s have))
    → step st (stacks_term s) ≡ Next change (stacks_term (stepped s rest have))
stepped-step st s instr rest leaf own change have stacked e is_leaf le is_own does =
    let at : code_in s.top.body s.top.rest ≡ Then leaf (code_in s.top.body rest) = ap (λ (code : List Instr). code_in s.top.body code) e ∙ is_leaf in
    let placed : HasPlaces (opened_of s.top) = record { base = stacked.room.base; locals = stacked.room.locals; height = stacked.room.height } in
    plain_step st (flat_of s) leaf (code_in s.top.body rest) change (take have s.values) at
    (ap (λ (vs : List Value). leaf_step st (locals_of s) leaf vs) is_own ∙ does) placed (take-take s.top.height have s.values le)

-- ---- br, br_if, br_table, return

pub br-reduct : (st : State) (s : StackParts) (label : ℕ) (rest : List Instr) (have : ℕ) → s.top.rest ≡ Br label ∷ rest → have ≡ length s.values
    → content_reduct st (content_of (flat_of s)) ≡ Branches label (own_of s have)
br-reduct st s label rest have e is = front-reduct st s (Br label) rest e ∙ ap (λ (vs : List Value). Branches label vs) (own-all s have is)

pub return-reduct : (st : State) (s : StackParts) (rest : List Instr) (have : ℕ) → s.top.rest ≡ Return ∷ rest → have ≡ length s.values
    → content_reduct st (content_of (flat_of s)) ≡ Returns (own_of s have)
return-reduct st s rest have e is = front-reduct st s Return rest e ∙ ap (λ (vs : List Value). Returns vs) (own-all s have is)

-- the values with a number in front
number-own : (s : StackParts) (n have : ℕ) → HasFrontNumber s n → have ≡ length s.values → own_values (opened_of s.top) s.values ≡ I32 n ∷ own_of s (have - 1)
number-own s n have number is = own-all s (length s.values) refl ∙ number.own ∙ ap (λ (h : ℕ). I32 n ∷ own_of s (h - 1)) (sym is)

taken : (label n : ℕ) (values : List Value) → (n ≡ 0 → ⊥) → br_if_step label (I32 n ∷ values) ≡ Jumps label values
taken label zero values ne = absurd (ne refl)
taken label (suc n) values ne = refl

pub br_if-reduct : (st : State) (s : StackParts) (label n : ℕ) (rest : List Instr) (have : ℕ) → s.top.rest ≡ BrIf label ∷ rest → have ≡ length s.values
    → HasFrontNumber s n → (n ≡ 0 → ⊥) → content_reduct st (content_of (flat_of s)) ≡ Branches label (own_of s (have - 1))
br_if-reduct st s label n rest have e is number ne =
    front-reduct st s (BrIf label) rest e
    ∙ ap (λ (vs : List Value). outcome_reduct (locals_of s) (code_in s.top.body rest) (br_if_step label vs)) (number-own s n have number is)
    ∙ ap (λ (o : Outcome). outcome_reduct (locals_of s) (code_in s.top.body rest) o) (taken label n (own_of s (have - 1)) ne)

pub br_if-passes : (st : State) (s : StackParts) (label n : ℕ) (rest : List Instr) (have : ℕ) → IsStacked s → s.top.rest ≡ BrIf label ∷ rest → have ≡ length s.values
    → HasFrontNumber s n → n ≡ 0 → step st (stacks_term s) ≡ Next Nothing (stacks_term (stepped s rest (have - 1)))
br_if-passes st s label n rest have stacked e is number none =
    stepped-step st s (BrIf label) rest (Plain (BrIf label)) (I32 n ∷ own_of s (have - 1)) Nothing (have - 1) stacked e refl (omega (arith, number.within, is))
    (number-own s n have number is) (ap (λ (k : ℕ). br_if_step label (I32 k ∷ own_of s (have - 1))) none)

no-branch : (label : ℕ) (values : List Value) → NoNumber values → br_if_step label values ≡ Does HasNoRule
no-branch label [] h = refl
no-branch label (I32 n ∷ values) h = absurd h
no-branch label (I64 n ∷ values) h = refl
no-branch label (F32 n ∷ values) h = refl
no-branch label (F64 n ∷ values) h = refl
no-branch label (Ref r ∷ values) h = refl

pub br_if-stuck : (st : State) (s : StackParts) (label : ℕ) (rest : List Instr) → s.top.rest ≡ BrIf label ∷ rest → NoNumber (own_of s (length s.values))
    → step st (stacks_term s) ≡ Stuck
br_if-stuck st s label rest e none =
    sticks-step st s (front-reduct st s (BrIf label) rest e
    ∙ ap (λ (vs : List Value). outcome_reduct (locals_of s) (code_in s.top.body rest) (br_if_step label vs)) (own-all s (length s.values) refl)
    ∙ ap (λ (o : Outcome). outcome_reduct (locals_of s) (code_in s.top.body rest) o) (no-branch label (own_of s (length s.values)) none))

listed-jump : (label : Option ℕ) (last : ℕ) (values : List Value) → listed_jump label last values ≡ Jumps (unwrap_or label last) values
listed-jump None last values = refl
listed-jump (Some label) last values = refl

pub br_table-reduct : (st : State) (s : StackParts) (first count last n label : ℕ) (rest : List Instr) (have : ℕ) → s.top.rest ≡ BrTable first count last ∷ rest
    → have ≡ length s.values → HasFrontNumber s n → label ≡ unwrap_or (slice_get (take count (drop first s.top.body.labels)) n) last
    → content_reduct st (content_of (flat_of s)) ≡ Branches label (own_of s (have - 1))
br_table-reduct st s first count last n label rest have e is number named =
    let labels : List ℕ = take count (drop first s.top.body.labels) in
    front-reduct st s (BrTable first count last) rest e
    ∙ ap (λ (vs : List Value). outcome_reduct (locals_of s) (code_in s.top.body rest) (br_table_step labels last vs)) (number-own s n have number is)
    ∙ ap (λ (o : Outcome). outcome_reduct (locals_of s) (code_in s.top.body rest) o) (listed-jump (slice_get labels n) last (own_of s (have - 1)))
    ∙ ap (λ (l : ℕ). Branches l (own_of s (have - 1))) (sym named)

no-table : (labels : List ℕ) (last : ℕ) (values : List Value) → NoNumber values → br_table_step labels last values ≡ Does HasNoRule
no-table labels last [] h = refl
no-table labels last (I32 n ∷ values) h = absurd h
no-table labels last (I64 n ∷ values) h = refl
no-table labels last (F32 n ∷ values) h = refl
no-table labels last (F64 n ∷ values) h = refl
no-table labels last (Ref r ∷ values) h = refl

pub br_table-stuck : (st : State) (s : StackParts) (first count last : ℕ) (rest : List Instr) → s.top.rest ≡ BrTable first count last ∷ rest
    → NoNumber (own_of s (length s.values)) → step st (stacks_term s) ≡ Stuck
br_table-stuck st s first count last rest e none =
    let labels : List ℕ = take count (drop first s.top.body.labels) in
    sticks-step st s (front-reduct st s (BrTable first count last) rest e
    ∙ ap (λ (vs : List Value). outcome_reduct (locals_of s) (code_in s.top.body rest) (br_table_step labels last vs)) (own-all s (length s.values) refl)
    ∙ ap (λ (o : Outcome). outcome_reduct (locals_of s) (code_in s.top.body rest) o) (no-table labels last (own_of s (length s.values)) none))

-- ---- block, loop, if

pub block-reduct : (st : State) (s : StackParts) (types : List FunctionType) (shape : Shape) (number : ℕ) (code rest : List Instr) (have : ℕ) → s.top.rest ≡ Block shape number ∷ rest
    → st.types ≡ types → IsBody s.top.body → code ≡ block_at s.top.body.blocks number → have ≡ length s.values
    → content_reduct st (content_of (flat_of s))
    ≡ block_entry (locals_of s) (block_type types shape) None (code_in s.top.body code) (own_of s have) (code_in s.top.body rest)
block-reduct st s types shape number code rest have e is_types is_body is_code is =
    let tree : tree_of s.top.body number ≡ code_in s.top.body code =
    sym (block-code s.top.body number is_body) ∙ ap (λ (c : List Instr). code_in s.top.body c) (sym is_code) in
    front-reduct st s (Block shape number) rest e
    ∙ ap (λ (ts : List FunctionType). block_entry (locals_of s) (block_type ts shape) None (tree_of s.top.body number) (own_values (opened_of s.top) s.values) (code_in s.top.body rest)) is_types
    ∙ ap (λ (c : Code). block_entry (locals_of s) (block_type types shape) None c (own_values (opened_of s.top) s.values) (code_in s.top.body rest)) tree
    ∙ ap (λ (vs : List Value). block_entry (locals_of s) (block_type types shape) None (code_in s.top.body code) vs (code_in s.top.body rest)) (own-all s have is)

pub loop-reduct : (st : State) (s : StackParts) (types : List FunctionType) (shape : Shape) (number : ℕ) (code rest : List Instr) (have : ℕ) → s.top.rest ≡ Loop shape number ∷ rest
    → st.types ≡ types → IsBody s.top.body → code ≡ block_at s.top.body.blocks number → have ≡ length s.values
    → content_reduct st (content_of (flat_of s))
    ≡ block_entry (locals_of s) (block_type types shape) (Some (code_in s.top.body code)) (code_in s.top.body code) (own_of s have) (code_in s.top.body rest)
loop-reduct st s types shape number code rest have e is_types is_body is_code is =
    let tree : tree_of s.top.body number ≡ code_in s.top.body code =
    sym (block-code s.top.body number is_body) ∙ ap (λ (c : List Instr). code_in s.top.body c) (sym is_code) in
    front-reduct st s (Loop shape number) rest e
    ∙ ap (λ (ts : List FunctionType). block_entry (locals_of s) (block_type ts shape) (Some (tree_of s.top.body number)) (tree_of s.top.body number) (own_values (opened_of s.top) s.values)
    (code_in s.top.body rest)) is_types
    ∙ ap (λ (c : Code). block_entry (locals_of s) (block_type types shape) (Some c) c (own_values (opened_of s.top) s.values) (code_in s.top.body rest)) tree
    ∙ ap (λ (vs : List Value). block_entry (locals_of s) (block_type types shape) (Some (code_in s.top.body code)) (code_in s.top.body code) vs (code_in s.top.body rest)) (own-all s have is)

pub second-chosen : (n : ℕ) (first second : Code) → n ≡ 0 → second ≡ arm_chosen n first second
second-chosen n first second e = ap (λ k. arm_chosen k first second) (sym e)

pub first-chosen : (n : ℕ) (first second : Code) → (n ≡ 0 → ⊥) → first ≡ arm_chosen n first second
first-chosen zero first second ne = absurd (ne refl)
first-chosen (suc n) first second ne = refl

chosen-arm : (locals : List Value) (type : Option FunctionType) (first second : Code) (n : ℕ) (values : List Value) (rest : Code)
    → if_entry locals type first second (I32 n ∷ values) rest ≡ block_entry locals type None (arm_chosen n first second) values rest
chosen-arm locals type first second zero values rest = refl
chosen-arm locals type first second (suc n) values rest = refl

-- if, with the arms that its body has
if-reduct : (st : State) (s : StackParts) (types : List FunctionType) (shape : Shape) (first : ℕ) (second : Option ℕ) (n : ℕ) (rest : List Instr) (have : ℕ)
    → s.top.rest ≡ If shape first second ∷ rest → st.types ≡ types → have ≡ length s.values → HasFrontNumber s n
    → content_reduct st (content_of (flat_of s))
    ≡ if_entry (locals_of s) (block_type types shape) (tree_of s.top.body first) (arm_of (λ k. tree_of s.top.body k) second) (I32 n ∷ own_of s (have - 1)) (code_in s.top.body rest)
if-reduct st s types shape first second n rest have e is_types is number =
    front-reduct st s (If shape first second) rest e
    ∙ ap (λ (ts : List FunctionType). if_entry (locals_of s) (block_type ts shape) (tree_of s.top.body first) (arm_of (λ k. tree_of s.top.body k) second)
    (own_values (opened_of s.top) s.values) (code_in s.top.body rest)) is_types
    ∙ ap (λ (vs : List Value). if_entry (locals_of s) (block_type types shape) (tree_of s.top.body first) (arm_of (λ k. tree_of s.top.body k) second) vs (code_in s.top.body rest))
    (number-own s n have number is)

pub if-chosen : (st : State) (s : StackParts) (types : List FunctionType) (shape : Shape) (first : ℕ) (second : Option ℕ) (n : ℕ) (code rest : List Instr) (have : ℕ)
    → s.top.rest ≡ If shape first second ∷ rest → st.types ≡ types → have ≡ length s.values → HasFrontNumber s n
    → code_in s.top.body code ≡ arm_chosen n (tree_of s.top.body first) (arm_of (λ k. tree_of s.top.body k) second)
    → content_reduct st (content_of (flat_of s))
    ≡ block_entry (locals_of s) (block_type types shape) None (code_in s.top.body code) (own_of s (have - 1)) (code_in s.top.body rest)
if-chosen st s types shape first second n code rest have e is_types is number is_code =
    if-reduct st s types shape first second n rest have e is_types is number
    ∙ chosen-arm (locals_of s) (block_type types shape) (tree_of s.top.body first) (arm_of (λ k. tree_of s.top.body k) second) n (own_of s (have - 1)) (code_in s.top.body rest)
    ∙ ap (λ (c : Code). block_entry (locals_of s) (block_type types shape) None c (own_of s (have - 1)) (code_in s.top.body rest)) (sym is_code)

no-if : (locals : List Value) (type : Option FunctionType) (first second : Code) (values : List Value) (rest : Code) → NoNumber values
    → if_entry locals type first second values rest ≡ Sticks
no-if locals type first second [] rest h = refl
no-if locals type first second (I32 n ∷ values) rest h = absurd h
no-if locals type first second (I64 n ∷ values) rest h = refl
no-if locals type first second (F32 n ∷ values) rest h = refl
no-if locals type first second (F64 n ∷ values) rest h = refl
no-if locals type first second (Ref r ∷ values) rest h = refl

pub if-stuck : (st : State) (s : StackParts) (shape : Shape) (first : ℕ) (second : Option ℕ) (rest : List Instr) → s.top.rest ≡ If shape first second ∷ rest
    → NoNumber (own_of s (length s.values)) → step st (stacks_term s) ≡ Stuck
if-stuck st s shape first second rest e none =
    sticks-step st s (front-reduct st s (If shape first second) rest e
    ∙ ap (λ (vs : List Value). if_entry (locals_of s) (block_type st.types shape) (tree_of s.top.body first) (arm_of (λ k. tree_of s.top.body k) second) vs (code_in s.top.body rest))
    (own-all s (length s.values) refl)
    ∙ no-if (locals_of s) (block_type st.types shape) (tree_of s.top.body first) (arm_of (λ k. tree_of s.top.body k) second) (own_of s (length s.values)) (code_in s.top.body rest) none)
