-- Code names a data segment where an instruction of one of its blocks does.
use Rattle.std.proofs.Common.{◌≡◌, ℕ, zero, suc, ◌+◌, ◌≤◌, ◌<◌, List, [], ◌∷◌, length, map, take, Option, Some, None, Bool, true, false, refl, sym, ap, subst, ◌∙◌, arith, inl, inr}
use Rattle.std.specs.Prelude.{◌≢◌, ◌||◌, ◌⊎◌, ◌==◌}
use Rattle.std.specs.List.{list_any}
use Rattle.std.proofs.lemmas.Bool.{cases_Bool, eqb-true, eq-eqb, or_cases, or_left, or_right}
use Rattle.wz_types.specs.declared.types.ValType.{ValType}
use Rattle.wz_code.specs.declared.instr.Instr.{Instr}
use Rattle.wz_code.specs.declared.instr.Instr.TheVariants as instr
use Rattle.wz_code.specs.BodyParts.{Blocks, block_at, BodyParts}
use Rattle.wz_code.specs.Trees.{Leaf, leaf_of, Code, arm_of, headed, expand, tree_by, tree_in, tree_of}
use Rattle.wz_code.specs.BlockRule.{named, arm_named, times, namings, NamesRise, EachOnce, IsBody}
use Rattle.wz_code.proofs.LawLemmas.{tree_of_block}
use Rattle.wz_code.proofs.NamingLemmas.{names-such, naming-block, once-named}
use Rattle.wz_module.specs.Functions.{body_tree_of}
use Rattle.wz_decode.specs.CountRules.{names_data, code_names_data}

-- the rest of a block is part of its code
tail_names : (leaf : Instr → Leaf) (inner : ℕ → Code) (i : Instr) (rest : Code) → code_names_data rest ≡ true → code_names_data (headed leaf inner i rest) ≡ true
tail_names leaf inner (instr.Block shape body) rest e = or_right _ _ e
tail_names leaf inner (instr.Loop shape body) rest e = or_right _ _ e
tail_names leaf inner (instr.If shape one two) rest e = or_right _ _ (or_right _ _ e)
tail_names leaf inner i rest e = or_right _ _ e

-- an instruction that names one
head_names : (labels : List ℕ) (types : List ValType) (inner : ℕ → Code) (i : Instr) (rest : Code) → names_data i ≡ true
    → code_names_data (headed (λ i. leaf_of labels types i) inner i rest) ≡ true
head_names labels types inner (instr.MemoryInit segment memory) rest e = refl
head_names labels types inner (instr.DataDrop segment) rest e = refl
head_names labels types inner i rest e = absurd cc

pub block_names : (labels : List ℕ) (types : List ValType) (inner : ℕ → Code) (code : List Instr) → list_any names_data code ≡ true
    → code_names_data (expand (λ i. leaf_of labels types i) inner code) ≡ true
block_names labels types inner [] e = absurd cc
block_names labels types inner (i ∷ rest) e = elim (or_cases (names_data i) (list_any names_data rest) e) [
  | inl here ↦ head_names labels types inner i _ here
  | inr there ↦ tail_names (λ i. leaf_of labels types i) inner i _ (block_names labels types inner rest there)
]

-- ---- from a tree to its blocks

self_named : (k : ℕ) (ks : List ℕ) → 1 ≤ times k (k ∷ ks)
self_named k ks = let e = eq-eqb k k refl in rw e (omega arith)

later_named : (k n : ℕ) (ks : List ℕ) → 1 ≤ times k ks → 1 ≤ times k (n ∷ ks)
later_named k n ks h = omega (arith, h)

-- what names a data segment there: the instruction, a block that it names, or what follows
abbrev HeadCases : (ℕ → Code) → Instr → Code → Type 0
HeadCases inner i rest = (names_data i ≡ true) ⊎ (((k : ℕ) × (1 ≤ times k (named i)) × (code_names_data (inner k) ≡ true)) ⊎ (code_names_data rest ≡ true))

arm_cases : (inner : ℕ → Code) (one : ℕ) (two : Option ℕ) → code_names_data (arm_of inner two) ≡ true
    → (k : ℕ) × (1 ≤ times k (one ∷ arm_named two)) × (code_names_data (inner k) ≡ true)
arm_cases inner one None e = absurd cc
arm_cases inner one (Some k) e = (k, later_named k one (k ∷ []) (self_named k []), e)

head_cases : (labels : List ℕ) (types : List ValType) (inner : ℕ → Code) (i : Instr) (rest : Code)
    → code_names_data (headed (λ i. leaf_of labels types i) inner i rest) ≡ true → HeadCases inner i rest
head_cases labels types inner (instr.Block shape body) rest e = elim (or_cases _ _ e) [ inl h ↦ inr (inl (body, self_named body [], h)) | inr h ↦ inr (inr h) ]
head_cases labels types inner (instr.Loop shape body) rest e = elim (or_cases _ _ e) [ inl h ↦ inr (inl (body, self_named body [], h)) | inr h ↦ inr (inr h) ]
head_cases labels types inner (instr.If shape one two) rest e = elim (or_cases _ _ e) [
  | inl h ↦ inr (inl (one, self_named one (arm_named two), h))
  | inr more ↦ elim (or_cases _ _ more) [ inl h ↦ inr (inl (arm_cases inner one two h)) | inr h ↦ inr (inr h) ]
]
head_cases labels types inner i rest e = elim (or_cases _ _ e) [ inl h ↦ inl h | inr h ↦ inr (inr h) ]

abbrev CodeCases : (ℕ → Code) → List Instr → Type 0
CodeCases inner code = (list_any names_data code ≡ true) ⊎ ((k : ℕ) × (1 ≤ namings k code) × (code_names_data (inner k) ≡ true))

code_cases : (labels : List ℕ) (types : List ValType) (inner : ℕ → Code) (code : List Instr)
    → code_names_data (expand (λ i. leaf_of labels types i) inner code) ≡ true → CodeCases inner code
code_cases labels types inner [] e = absurd cc
code_cases labels types inner (i ∷ rest) e = elim (head_cases labels types inner i _ e) [
  | inl here ↦ inl (or_left _ _ here)
  | inr (inl h) ↦ inr (h.0, omega (arith, h.1), h.2)
  | inr (inr more) ↦ elim (code_cases labels types inner rest more) [
    | inl there ↦ inl (or_right _ _ there)
    | inr h ↦ inr (h.0, omega (arith, h.1), h.2)
  ]
]

by_depth : (depth : ℕ) (labels : List ℕ) (types : List ValType) (blocks : Blocks) (n : ℕ)
    → code_names_data (tree_by depth (λ i. leaf_of labels types i) blocks n) ≡ true → (m : ℕ) × (list_any names_data (block_at blocks m) ≡ true)
unfolding tree_by
by_depth zero labels types blocks n e = absurd cc
by_depth (suc depth) labels types blocks n e = elim (code_cases labels types (λ k. tree_by depth (λ i. leaf_of labels types i) blocks k) (block_at blocks n) e) [
  | inl here ↦ (n, here)
  | inr h ↦ by_depth depth labels types blocks h.0 h.2
]

pub some_block : (body : BodyParts) → code_names_data (tree_of body 0) ≡ true → (m : ℕ) × (list_any names_data (block_at body.blocks m) ≡ true)
unfolding tree_in
some_block body e = by_depth (length body.blocks) body.labels body.types body.blocks 0 e

-- ---- from a block to the tree

first_of_two : (k n : ℕ) (ks : List ℕ) → 1 ≤ times k (n ∷ ks) → (n ≡ k) ⊎ (1 ≤ times k ks)
first_of_two k n ks h = elim (cases_Bool (n == k)) [
  | inl same ↦ inl (eqb-true n k same)
  | inr other ↦ inr (let e : times k (n ∷ ks) ≡ 0 + times k ks = rw other refl in omega (arith, e, h))
]

either_some : (a b : ℕ) → 1 ≤ a + b → (1 ≤ a) ⊎ (1 ≤ b)
either_some zero b h = inr (omega (arith, h))
either_some (suc a) b h = inl (omega arith)

same_inner : (inner : ℕ → Code) (n k : ℕ) → n ≡ k → code_names_data (inner k) ≡ true → code_names_data (inner n) ≡ true
same_inner inner n k same e = subst (λ (m : ℕ). code_names_data (inner m) ≡ true) (sym same) e

arm_inner : (inner : ℕ → Code) (k : ℕ) (two : Option ℕ) → 1 ≤ times k (arm_named two) → code_names_data (inner k) ≡ true → code_names_data (arm_of inner two) ≡ true
arm_inner inner k None h e = absurd (omega (arith, h))
arm_inner inner k (Some n) h e = elim (first_of_two k n [] h) [ inl same ↦ same_inner inner n k same e | inr none ↦ absurd (omega (arith, none)) ]

-- an instruction that names a block in which a data segment is named
head_inner : (leaf : Instr → Leaf) (inner : ℕ → Code) (k : ℕ) (i : Instr) (rest : Code) → 1 ≤ times k (named i) → code_names_data (inner k) ≡ true
    → code_names_data (headed leaf inner i rest) ≡ true
head_inner leaf inner k (instr.Block shape body) rest h e = elim (first_of_two k body [] h) [
  | inl same ↦ or_left _ _ (same_inner inner body k same e)
  | inr none ↦ absurd (omega (arith, none))
]
head_inner leaf inner k (instr.Loop shape body) rest h e = elim (first_of_two k body [] h) [
  | inl same ↦ or_left _ _ (same_inner inner body k same e)
  | inr none ↦ absurd (omega (arith, none))
]
head_inner leaf inner k (instr.If shape one two) rest h e = elim (first_of_two k one (arm_named two) h) [
  | inl same ↦ or_left _ _ (same_inner inner one k same e)
  | inr more ↦ or_right _ _ (or_left _ _ (arm_inner inner k two more e))
]
head_inner leaf inner k i rest h e = absurd (omega (arith, h))

code_inner : (leaf : Instr → Leaf) (inner : ℕ → Code) (k : ℕ) (code : List Instr) → 1 ≤ namings k code → code_names_data (inner k) ≡ true
    → code_names_data (expand leaf inner code) ≡ true
code_inner leaf inner k [] h e = absurd (omega (arith, h))
code_inner leaf inner k (i ∷ rest) h e = elim (either_some (times k (named i)) (namings k rest) h) [
  | inl here ↦ head_inner leaf inner k i _ here e
  | inr there ↦ tail_names leaf inner i _ (code_inner leaf inner k rest there e)
]

climb : (fuel k : ℕ) (body : BodyParts) → NamesRise body.blocks → EachOnce body.blocks (0 ∷ []) → k < fuel → k < length body.blocks
    → code_names_data (tree_of body k) ≡ true → code_names_data (tree_of body 0) ≡ true
climb zero k body rise once less within e = absurd (omega (arith, less))
climb (suc fuel) k body rise once less within e = elim (cases_Bool (k == 0)) [
  | inl is ↦ subst (λ (n : ℕ). code_names_data (tree_of body n) ≡ true) (eqb-true k 0 is) e
  | inr not ↦
      let some : k ≢ 0 = λ z. let t = eq-eqb k 0 z in let f : true ≡ false = sym t ∙ not in absurd cc in
      let j = naming-block k body.blocks (once-named body.blocks k once (omega (arith, some)) within) in
      let lower = names-such (λ n. j.0 < n) k (block_at body.blocks j.0) (rise.each j.0) j.1 in
      let code = code_inner (λ i. leaf_of body.labels body.types i) (λ n. tree_of body n) k (block_at body.blocks j.0) j.1 e in
      let tree : code_names_data (tree_of body j.0) ≡ true = rw (tree_of_block body j.0 rise) code in
      climb fuel j.0 body rise once (omega (arith, less, lower)) (omega (arith, within, lower)) tree
]

pub block_in_tree : (body : BodyParts) (m : ℕ) → IsBody body → m < length body.blocks → list_any names_data (block_at body.blocks m) ≡ true
    → code_names_data (tree_of body 0) ≡ true
block_in_tree body m is within e =
    let rise = is.rule.names_rise in
    let tree : code_names_data (tree_of body m) ≡ true = rw (tree_of_block body m rise) (block_names body.labels body.types (λ n. tree_of body n) (block_at body.blocks m) e) in
    climb (m + 1) m body rise is.rule.once (omega arith) within tree

-- ---- all blocks of a body, and all bodies

some_true : (blocks : Blocks) → list_any (λ block. list_any names_data block) blocks ≡ true → (m : ℕ) × (m < length blocks) × (list_any names_data (block_at blocks m) ≡ true)
some_true [] e = absurd cc
some_true (block ∷ blocks) e = elim (or_cases _ _ e) [
  | inl here ↦ (0, omega arith, here)
  | inr there ↦ let m = some_true blocks there in (suc m.0, omega (arith, m.1), m.2)
]

from_block : (blocks : Blocks) (m : ℕ) → list_any names_data (block_at blocks m) ≡ true → list_any (λ block. list_any names_data block) blocks ≡ true
from_block [] zero e = absurd cc
from_block [] (suc m) e = absurd cc
from_block (block ∷ blocks) zero e = or_left _ _ e
from_block (block ∷ blocks) (suc m) e = or_right _ _ (from_block blocks m e)

pub blocks_are_tree : (body : BodyParts) → IsBody body → list_any (λ block. list_any names_data block) body.blocks ≡ code_names_data (tree_of body 0)
blocks_are_tree body is = elim (cases_Bool (list_any (λ block. list_any names_data block) body.blocks)) [
  | inl some ↦ let m = some_true body.blocks some in some ∙ sym (block_in_tree body m.0 is m.1 m.2)
  | inr none ↦ elim (cases_Bool (code_names_data (tree_of body 0))) [
    | inl tree ↦ let m = some_block body tree in let f : true ≡ false = sym (from_block body.blocks m.0 m.1) ∙ none in absurd cc
    | inr no_tree ↦ none ∙ sym no_tree
  ]
]

pub bodies_are_trees : (bodies : List BodyParts) → list_any (λ body. code_names_data (tree_of body 0)) bodies ≡ list_any (λ body. code_names_data body.1) (map body_tree_of bodies)
bodies_are_trees [] = refl
bodies_are_trees (body ∷ bodies) = rw (bodies_are_trees bodies) refl

or_assoc : (a b c : Bool) → (a || (b || c)) ≡ ((a || b) || c)
or_assoc true b c = refl
or_assoc false b c = refl

or_none : (a : Bool) → (a || false) ≡ a
or_none true = refl
or_none false = refl

pub blocks_more : (blocks : Blocks) (i : ℕ) → i < length blocks
    → list_any (λ block. list_any names_data block) (take (i + 1) blocks)
    ≡ (list_any (λ block. list_any names_data block) (take i blocks) || list_any names_data (block_at blocks i))
blocks_more [] i h = absurd (omega (arith, h))
blocks_more (block ∷ blocks) zero h = or_none (list_any names_data block)
blocks_more (block ∷ blocks) (suc i) h =
    let more : suc i + 1 ≡ suc (i + 1) = omega arith in
    rw more (ap (λ (b : Bool). list_any names_data block || b) (blocks_more blocks i (omega (arith, h))) ∙ or_assoc (list_any names_data block) _ _)
