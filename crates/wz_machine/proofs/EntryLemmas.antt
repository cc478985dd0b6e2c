-- A block is entered: what the machine's stacks are then is what the step comes to.
use Rattle.std.proofs.Common.{◌≡◌, ◌≤◌, ◌<◌, ℕ, ◌+◌, ◌-◌, nat_le, List, Option, Some, None, option_map, Bool, true, false, if◌then◌else◌, length, take, drop, reverse, refl, ap, sym, subst, ◌∙◌, arith}
use Rattle.std.proofs.lemmas.List.{drop-take, take-take, length-take-le}
use Rattle.std.proofs.lemmas.Bool.Decides.{nat_tests}
use Rattle.wz_types.specs.declared.value.Value.{Value}
use Rattle.wz_types.specs.FunctionType.{FunctionType}
use Rattle.wz_code.specs.declared.instr.Instr.{Instr}
use Rattle.wz_code.specs.declared.instr.Shape.{Shape}
use Rattle.wz_code.specs.Trees.{Code, code_in}
use Rattle.wz_store.specs.Changes.{Nothing}
use Rattle.wz_machine.specs.State.{State}
use Rattle.wz_machine.specs.Terms.{Innermost, InLabel}
use Rattle.wz_machine.specs.Outcomes.{Reduct, Goes, Sticks, Next, Stuck}
use Rattle.wz_machine.specs.BlockSteps.{block_type, block_entry, label_types}
use Rattle.wz_machine.specs.Step.{step}
use Rattle.wz_machine.specs.Contexts.{Layer, LabelLayer, in_layer, code_content, content_reduct}
use Rattle.wz_machine.specs.Flat.{Opened, content_of, layers_in, results_of, own_values, locals_in, layer_of, opened_content}
use Rattle.wz_machine.specs.Stacks.{EntryKind, BlockEntry, LoopEntry, Entry, StackParts, open_kind, opened_of, flat_of, stacks_term, HasRoom, IsStacked}
use Rattle.wz_machine.specs.Opening.{block_in, with_block_opened}
use Rattle.wz_machine.specs.Turns.{own_of, again_of}
use Rattle.wz_machine.proofs.ContextLemmas.{step_within}
use Rattle.wz_machine.proofs.FlatLemmas.{opening_step}
use Rattle.wz_machine.proofs.ListLemmas.{take-own, drop-own}
use Rattle.wz_machine.proofs.BranchLemmas.{own-length}

fits-true : (m n : ℕ) (a b : Reduct) → m ≤ n → (if nat_le m n then a else b) ≡ a
fits-true m n a b le = grind (arith, nat_tests)

fits-false : (m n : ℕ) (a b : Reduct) → n < m → (if nat_le m n then a else b) ≡ b
fits-false m n a b lt = grind (arith, nat_tests)

pub sticks-step : (st : State) (s : StackParts) → content_reduct st (content_of (flat_of s)) ≡ Sticks → step st (stacks_term s) ≡ Stuck
sticks-step st s reduct = (step_within st (results_of (flat_of s).top (flat_of s).outer) (layers_in (flat_of s)) (content_of (flat_of s))).sticks reduct

-- the locals lie among the first values
locals-kept : (entry : Entry) (have : ℕ) (values : List Value) → HasRoom entry → entry.height ≤ have
    → locals_in (opened_of entry) (take have values) ≡ locals_in (opened_of entry) values
locals-kept entry have values room le =
    let n : ℕ = entry.locals_at in
    let m : ℕ = entry.locals_end - entry.locals_at in
    let fits : n + m ≤ have = omega (arith, le, room.locals, room.height) in
    sym (drop-take n m (take have values)) ∙ ap (λ (vs : List Value). drop n vs) (take-take (n + m) have values fits) ∙ drop-take n m values

entered-inside : (kind : EntryKind) (again : Option Code) (s : StackParts) (code rest : List Instr) (have params arity : ℕ) → IsStacked s
    → have ≤ length s.values → s.top.height + params ≤ have
    → ((below : List Value) (locals : List Value) → layer_of (open_kind s.top.body kind) arity below (code_in s.top.body rest) locals
    ≡ LabelLayer below arity again (code_in s.top.body rest))
    → Goes Nothing (locals_in (opened_of s.top) s.values)
    (InLabel (drop params (own_of s have)) arity again (Innermost (take params (own_of s have)) (code_in s.top.body code)) (code_in s.top.body rest))
    ≡ Goes Nothing (opened_content (flat_of s) (code_in s.top.body rest) (opened_of (block_in s.top kind code arity (have - params))) (take have s.values)).locals
    (opened_content (flat_of s) (code_in s.top.body rest) (opened_of (block_in s.top kind code arity (have - params))) (take have s.values)).inside
entered-inside kind again s code rest have params arity stacked within own layer =
    let values : List Value = take have s.values in
    let base : ℕ = have - params in
    let len : length values ≡ have = length-take-le have s.values within in
    let fits : s.top.height + params ≤ length values = omega (arith, len, own) in
    let high : s.top.height ≤ have = omega (arith, own) in
    let locals : locals_in (opened_of s.top) s.values ≡ locals_in (opened_of s.top) values = sym (locals-kept s.top have s.values stacked.room high) in
    let mine : take params (own_of s have) ≡ reverse (drop base values) =
    take-own params s.top.height values fits ∙ ap (λ (n : ℕ). reverse (drop (n - params) values)) len in
    let below : drop params (own_of s have) ≡ reverse (drop s.top.height (take base values)) =
    drop-own params s.top.height values fits ∙ ap (λ (n : ℕ). reverse (drop s.top.height (take (n - params) values))) len in
    let new : Opened = opened_of (block_in s.top kind code arity base) in
    ap (λ (ls : List Value). Goes Nothing ls (InLabel (drop params (own_of s have)) arity again (Innermost (take params (own_of s have)) (code_in s.top.body code)) (code_in s.top.body rest))) locals
    ∙ ap (λ (vs : List Value). Goes Nothing (locals_in (opened_of s.top) values)
    (InLabel vs arity again (Innermost (take params (own_of s have)) (code_in s.top.body code)) (code_in s.top.body rest))) below
    ∙ ap (λ (vs : List Value). Goes Nothing (locals_in (opened_of s.top) values)
    (InLabel (reverse (drop s.top.height (take base values))) arity again (Innermost vs (code_in s.top.body code)) (code_in s.top.body rest))) mine
    ∙ ap (λ (layer : Layer). Goes Nothing (in_layer layer (code_content (locals_in new values) (own_values new values) new.rest)).locals
    (in_layer layer (code_content (locals_in new values) (own_values new values) new.rest)).inside)
    (sym (layer (own_values (opened_of s.top) (take base values)) (locals_in (opened_of s.top) (take base values))))

-- a block of this kind is entered
entry-goes : (st : State) (s : StackParts) (kind : EntryKind) (again : Option Code) (code rest : List Instr) (have params arity : ℕ) → IsStacked s
    → have ≤ length s.values → s.top.height + params ≤ have
    → ((below : List Value) (locals : List Value) → layer_of (open_kind s.top.body kind) arity below (code_in s.top.body rest) locals
    ≡ LabelLayer below arity again (code_in s.top.body rest))
    → content_reduct st (content_of (flat_of s))
    ≡ Goes Nothing (locals_in (opened_of s.top) s.values)
    (InLabel (drop params (own_of s have)) arity again (Innermost (take params (own_of s have)) (code_in s.top.body code)) (code_in s.top.body rest))
    → step st (stacks_term s) ≡ Next Nothing (stacks_term (with_block_opened s rest kind code have params arity))
entry-goes st s kind again code rest have params arity stacked within own layer reduct =
    let base : ℕ = have - params in
    let b_le : s.top.base ≤ base = omega (arith, stacked.room.base, own) in
    let h_le : base ≤ have = omega arith in
    let under : take s.top.base (take base (take have s.values)) ≡ take s.top.base s.values =
    ap (λ (vs : List Value). take s.top.base vs) (take-take base have s.values h_le) ∙ take-take s.top.base base s.values b_le in
    opening_step st (flat_of s) (code_in s.top.body rest) (opened_of (block_in s.top kind code arity base)) (take have s.values)
    (reduct ∙ entered-inside kind again s code rest have params arity stacked within own layer) under

entry-reduct : (s : StackParts) (type : FunctionType) (again : Option Code) (inner rest : Code) (have : ℕ) (locals : List Value) → have ≤ length s.values
    → s.top.height + length type.params ≤ have
    → block_entry locals (Some type) again inner (own_of s have) rest
    ≡ Goes Nothing locals (InLabel (drop (length type.params) (own_of s have)) (length (label_types type again)) again
    (Innermost (take (length type.params) (own_of s have)) inner) rest)
entry-reduct s type again inner rest have locals within own =
    let len : length (own_of s have) ≡ have - s.top.height = own-length s have within in
    fits-true (length type.params) (length (own_of s have))
    (Goes Nothing locals (InLabel (drop (length type.params) (own_of s have)) (length (label_types type again)) again
    (Innermost (take (length type.params) (own_of s have)) inner) rest)) Sticks (omega (arith, len, own))

pub block-step : (st : State) (s : StackParts) (types : List FunctionType) (shape : Shape) (type : FunctionType) (code rest : List Instr) (have : ℕ) → IsStacked s
    → have ≤ length s.values → block_type types shape ≡ Some type → s.top.height + length type.params ≤ have
    → content_reduct st (content_of (flat_of s))
    ≡ block_entry (locals_in (opened_of s.top) s.values) (block_type types shape) None (code_in s.top.body code) (own_of s have) (code_in s.top.body rest)
    → step st (stacks_term s) ≡ Next Nothing (stacks_term (with_block_opened s rest BlockEntry code have (length type.params) (length type.results)))
block-step st s types shape type code rest have stacked within is own reduct =
    entry-goes st s BlockEntry None code rest have (length type.params) (length type.results) stacked within own (λ below locals. refl)
    (reduct ∙ ap (λ (t : Option FunctionType). block_entry (locals_in (opened_of s.top) s.values) t None (code_in s.top.body code) (own_of s have) (code_in s.top.body rest)) is
    ∙ entry-reduct s type None (code_in s.top.body code) (code_in s.top.body rest) have (locals_in (opened_of s.top) s.values) within own)

pub loop-step : (st : State) (s : StackParts) (types : List FunctionType) (shape : Shape) (type : FunctionType) (code rest : List Instr) (have : ℕ) → IsStacked s
    → have ≤ length s.values → block_type types shape ≡ Some type → s.top.height + length type.params ≤ have
    → content_reduct st (content_of (flat_of s))
    ≡ block_entry (locals_in (opened_of s.top) s.values) (block_type types shape) (Some (code_in s.top.body code)) (code_in s.top.body code) (own_of s have) (code_in s.top.body rest)
    → step st (stacks_term s) ≡ Next Nothing (stacks_term (with_block_opened s rest (LoopEntry code) code have (length type.params) (length type.params)))
loop-step st s types shape type code rest have stacked within is own reduct =
    entry-goes st s (LoopEntry code) (Some (code_in s.top.body code)) code rest have (length type.params) (length type.params) stacked within own (λ below locals. refl)
    (reduct ∙ ap (λ (t : Option FunctionType). block_entry (locals_in (opened_of s.top) s.values) t (Some (code_in s.top.body code)) (code_in s.top.body code) (own_of s have)
    (code_in s.top.body rest)) is
    ∙ entry-reduct s type (Some (code_in s.top.body code)) (code_in s.top.body code) (code_in s.top.body rest) have (locals_in (opened_of s.top) s.values) within own)

-- the type isn't there, or there are too few values
pub entry-untyped : (st : State) (s : StackParts) (types : List FunctionType) (shape : Shape) (loops : Bool) (code rest : List Instr) (have : ℕ) → block_type types shape ≡ None
    → content_reduct st (content_of (flat_of s))
    ≡ block_entry (locals_in (opened_of s.top) s.values) (block_type types shape) (again_of loops (code_in s.top.body code)) (code_in s.top.body code) (own_of s have) (code_in s.top.body rest)
    → step st (stacks_term s) ≡ Stuck
entry-untyped st s types shape loops code rest have is reduct =
    sticks-step st s (reduct ∙ ap (λ (t : Option FunctionType). block_entry (locals_in (opened_of s.top) s.values) t (again_of loops (code_in s.top.body code)) (code_in s.top.body code)
    (own_of s have) (code_in s.top.body rest)) is)

pub entry-few : (st : State) (s : StackParts) (types : List FunctionType) (shape : Shape) (type : FunctionType) (loops : Bool) (code rest : List Instr) (have : ℕ) → have ≤ length s.values
    → block_type types shape ≡ Some type → have - s.top.height < length type.params
    → content_reduct st (content_of (flat_of s))
    ≡ block_entry (locals_in (opened_of s.top) s.values) (block_type types shape) (again_of loops (code_in s.top.body code)) (code_in s.top.body code) (own_of s have) (code_in s.top.body rest)
    → step st (stacks_term s) ≡ Stuck
entry-few st s types shape type loops code rest have within is few reduct =
    let len : length (own_of s have) ≡ have - s.top.height = own-length s have within in
    let again : Option Code = again_of loops (code_in s.top.body code) in
    sticks-step st s (reduct ∙ ap (λ (t : Option FunctionType). block_entry (locals_in (opened_of s.top) s.values) t again (code_in s.top.body code)
    (own_of s have) (code_in s.top.body rest)) is
    ∙ fits-false (length type.params) (length (own_of s have))
    (Goes Nothing (locals_in (opened_of s.top) s.values) (InLabel (drop (length type.params) (own_of s have)) (length (label_types type again)) again
    (Innermost (take (length type.params) (own_of s have)) (code_in s.top.body code)) (code_in s.top.body rest))) Sticks (omega (arith, len, few)))

-- ---- by the numbers of parameters and results

abbrev pub counts_in : FunctionType → ℕ × ℕ
counts_in type = (length type.params, length type.results)

record TypeOf (type : Option FunctionType) (counts : ℕ × ℕ) : Type 0 where
  pub found : FunctionType
  pub is : type ≡ Some found
  pub params : counts.0 ≡ length found.params
  pub results : counts.1 ≡ length found.results

type-of : (type : Option FunctionType) (counts : ℕ × ℕ) → Some counts ≡ option_map counts_in type → TypeOf type counts
type-of None counts e = cc
type-of (Some found) counts e =
    let same : counts ≡ counts_in found = cc in
    record { found = found; is = refl; params = ap (λ (p : ℕ × ℕ). p.0) same; results = ap (λ (p : ℕ × ℕ). p.1) same }

pub no-type : (type : Option FunctionType) → None ≡ option_map counts_in type → type ≡ None
no-type None e = refl
no-type (Some found) e = cc

abbrev pub EntryReduct : State → StackParts → List FunctionType → Shape → Bool → List Instr → List Instr → ℕ → Type 0
EntryReduct st s types shape loops code rest have =
    content_reduct st (content_of (flat_of s))
    ≡ block_entry (locals_in (opened_of s.top) s.values) (block_type types shape) (again_of loops (code_in s.top.body code)) (code_in s.top.body code) (own_of s have) (code_in s.top.body rest)

pub block-turn : (st : State) (s now : StackParts) (types : List FunctionType) (shape : Shape) (loops : Bool) (code rest : List Instr) (have : ℕ) (counts : ℕ × ℕ) → IsStacked s
    → have ≤ length s.values → Some counts ≡ option_map counts_in (block_type types shape) → s.top.height + counts.0 ≤ have → loops ≡ false
    → now ≡ with_block_opened s rest BlockEntry code have counts.0 counts.1 → EntryReduct st s types shape loops code rest have
    → step st (stacks_term s) ≡ Next Nothing (stacks_term now)
block-turn st s now types shape loops code rest have counts stacked within found own is entered reduct =
    let type : TypeOf (block_type types shape) counts = type-of (block_type types shape) counts found in
    block-step st s types shape type.found code rest have stacked within type.is (omega (arith, own, type.params))
    (subst (λ (b : Bool). EntryReduct st s types shape b code rest have) is reduct)
    ∙ ap (λ (t : StackParts). Next Nothing (stacks_term t))
    (ap (λ (n : ℕ). with_block_opened s rest BlockEntry code have n (length type.found.results)) (sym type.params)
    ∙ ap (λ (n : ℕ). with_block_opened s rest BlockEntry code have counts.0 n) (sym type.results) ∙ sym entered)

pub loop-turn : (st : State) (s now : StackParts) (types : List FunctionType) (shape : Shape) (loops : Bool) (code rest : List Instr) (have : ℕ) (counts : ℕ × ℕ) → IsStacked s
    → have ≤ length s.values → Some counts ≡ option_map counts_in (block_type types shape) → s.top.height + counts.0 ≤ have → loops ≡ true
    → now ≡ with_block_opened s rest (LoopEntry code) code have counts.0 counts.0 → EntryReduct st s types shape loops code rest have
    → step st (stacks_term s) ≡ Next Nothing (stacks_term now)
loop-turn st s now types shape loops code rest have counts stacked within found own is entered reduct =
    let type : TypeOf (block_type types shape) counts = type-of (block_type types shape) counts found in
    loop-step st s types shape type.found code rest have stacked within type.is (omega (arith, own, type.params))
    (subst (λ (b : Bool). EntryReduct st s types shape b code rest have) is reduct)
    ∙ ap (λ (t : StackParts). Next Nothing (stacks_term t))
    (ap (λ (n : ℕ). with_block_opened s rest (LoopEntry code) code have n n) (sym type.params) ∙ sym entered)

pub few-turn : (st : State) (s : StackParts) (types : List FunctionType) (shape : Shape) (loops : Bool) (code rest : List Instr) (have : ℕ) (counts : ℕ × ℕ)
    → have ≤ length s.values → Some counts ≡ option_map counts_in (block_type types shape) → have - s.top.height < counts.0
    → EntryReduct st s types shape loops code rest have → step st (stacks_term s) ≡ Stuck
few-turn st s types shape loops code rest have counts within found few reduct =
    let type : TypeOf (block_type types shape) counts = type-of (block_type types shape) counts found in
    entry-few st s types shape type.found loops code rest have within type.is (omega (arith, few, type.params)) reduct
