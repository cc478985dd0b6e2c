-- The references that a body's tree makes are those of its instructions, block by block. Proofs of other crates may cite this file.
use Rattle.std.proofs.Common.{◌≡◌, ℕ, zero, suc, ◌+◌, ◌<◌, ◌≤◌, List, [], ◌∷◌, ◌++◌, length, Option, Some, None, ◌⊎◌, inl, inr, Bool, true, false, cond, refl, sym, ap}
use Rattle.std.proofs.Common.{subst, ◌∙◌, append-nil, append_assoc, unwrap_or, arith, ◌==◌, All}
use Rattle.std.specs.Cmp.{both_ways}
use Rattle.std.specs.List.{flat_map}
use Rattle.std.proofs.lemmas.List.Concat.{flat_map-append}
use Rattle.std.proofs.lemmas.List.Elements.{All-nil, All-head, All-tail}
use Rattle.std.proofs.lemmas.Option.{slice_get_past}
use Rattle.std.proofs.lemmas.Bool.{eqb-true}
use Rattle.wz_types.specs.declared.types.ValType.{ValType}
use Rattle.wz_code.specs.declared.instr.Instr.{Instr}
use Rattle.wz_code.specs.declared.instr.Instr.TheVariants.{Block, Loop, If}
use Rattle.wz_code.specs.BodyParts.{Blocks, BodyParts, block_at}
use Rattle.wz_code.specs.BlockRule.{named, Names, times, namings, BlockRule}
use Rattle.wz_code.specs.Trees.{Code, leaf_of, headed, expand, tree_of}
use Rattle.wz_code.specs.Walking.{in_order}
use Rattle.wz_code.specs.References.{has_number, referred_by, referred_in}
use Rattle.wz_code.proofs.LawLemmas.{tree_of_block}
use Rattle.wz_code.proofs.NamingLemmas.{names-such, naming-block, once-named}
use Rattle.wz_code.proofs.NumberLemmas.{Has, has-cases, has-first, has-second}

-- ---- one instruction

-- what an instruction and what follows it refer to
headed-refers : (labels : List ℕ) (types : List ValType) (inner : ℕ → Code) (instr : Instr) (rest : Code)
    → referred_in (headed (leaf_of labels types) inner instr rest) ≡ referred_by instr ++ (flat_map (λ k. referred_in (inner k)) (named instr) ++ referred_in rest)
headed-refers labels types inner (Block shape body) rest = ap (λ (xs : List ℕ). xs ++ referred_in rest) (sym (append-nil (referred_in (inner body))))
headed-refers labels types inner (Loop shape body) rest = ap (λ (xs : List ℕ). xs ++ referred_in rest) (sym (append-nil (referred_in (inner body))))
headed-refers labels types inner (If shape first None) rest = ap (λ (xs : List ℕ). xs ++ referred_in rest) (sym (append-nil (referred_in (inner first))))
headed-refers labels types inner (If shape first (Some second)) rest =
    sym (append_assoc (referred_in (inner first)) (referred_in (inner second)) (referred_in rest))
    ∙ ap (λ (xs : List ℕ). (referred_in (inner first) ++ xs) ++ referred_in rest) (sym (append-nil (referred_in (inner second))))
headed-refers labels types inner instr rest = refl

-- ---- the instructions of a block

-- what a block's instructions refer to by themselves
abbrev pub own_references : List Instr → List ℕ
own_references code = flat_map referred_by code

module _ (labels : List ℕ) (types : List ValType) (inner : ℕ → Code) (f : ℕ) where
  -- the numbers of blocks that hold the function
  abbrev Holds : ℕ → Type 0
  Holds k = Has f (referred_in (inner k))

  named-has : (Is : ℕ → Type 0) (ks : List ℕ) → All Is ks → Has f (flat_map (λ k. referred_in (inner k)) ks) → (k : ℕ) × Is k × Holds k
  named-has Is [] every h = absurd cc
  named-has Is (k ∷ ks) every h =
      elim (has-cases f (referred_in (inner k)) (flat_map (λ k. referred_in (inner k)) ks) h) [
        | inl here ↦ (k, All-head Is k ks every, here)
        | inr later ↦ named-has Is ks (All-tail Is k ks every) later
      ]

  -- a reference of the tree is made by one of the instructions, or in a block that they name
  tree-cases : (Is : ℕ → Type 0) (code : List Instr) → Names Is code → Has f (referred_in (expand (leaf_of labels types) inner code))
      → Has f (own_references code) ⊎ ((k : ℕ) × Is k × Holds k)
  tree-cases Is [] names h = absurd cc
  tree-cases Is (instr ∷ code) names h =
      let rest = expand (leaf_of labels types) inner code in
      let inside = flat_map (λ k. referred_in (inner k)) (named instr) in
      let Such : Instr → Type 0 = λ i. All Is (named i) in
      let split = subst (λ (xs : List ℕ). Has f xs) (headed-refers labels types inner instr rest) h in
      let own : Has f (own_references code) → Has f (own_references (instr ∷ code)) = has-second f (referred_by instr) (own_references code) in
      elim (has-cases f (referred_by instr) (inside ++ referred_in rest) split) [
        | inl here ↦ inl (has-first f (referred_by instr) (own_references code) here)
        | inr more ↦
            elim (has-cases f inside (referred_in rest) more) [
              | inl within ↦ inr (named-has Is (named instr) (All-head Such instr code names) within)
              | inr later ↦ elim (tree-cases Is code (All-tail Such instr code names) later) [ inl found ↦ inl (own found) | inr block ↦ inr block ]
            ]
      ]

  -- the tree has the references of the instructions
  own-in-tree : (code : List Instr) → Has f (own_references code) → Has f (referred_in (expand (leaf_of labels types) inner code))
  own-in-tree [] h = h
  own-in-tree (instr ∷ code) h =
      let rest = expand (leaf_of labels types) inner code in
      let inside = flat_map (λ k. referred_in (inner k)) (named instr) in
      subst (λ (xs : List ℕ). Has f xs) (sym (headed-refers labels types inner instr rest))
      (elim (has-cases f (referred_by instr) (own_references code) h) as (λ _. Has f (referred_by instr ++ (inside ++ referred_in rest))) [
        | inl here ↦ has-first f (referred_by instr) (inside ++ referred_in rest) here
        | inr later ↦ has-second f (referred_by instr) (inside ++ referred_in rest) (has-second f inside (referred_in rest) (own-in-tree code later))
      ])

  has-named : (k : ℕ) (ks : List ℕ) → 1 ≤ times k ks → Holds k → Has f (flat_map (λ k. referred_in (inner k)) ks)
  has-named k [] some h = absurd (omega (arith, some))
  has-named k (n ∷ ks) some h = by (n == k) refl some (λ few. has-named k ks few h) where
    by : (b : Bool) → (n == k) ≡ b → 1 ≤ cond b 1 0 + times k ks → (1 ≤ times k ks → Has f (flat_map (λ k. referred_in (inner k)) ks))
        → Has f (flat_map (λ k. referred_in (inner k)) (n ∷ ks))
    by true same few later =
        let e : n ≡ k = eqb-true n k same in
        has-first f (referred_in (inner n)) (flat_map (λ k. referred_in (inner k)) ks) (subst (λ (j : ℕ). Holds j) (sym e) h)
    by false same few later = has-second f (referred_in (inner n)) (flat_map (λ k. referred_in (inner k)) ks) (later (omega (arith, few)))

  -- and those of each block that they name
  named-in-tree : (k : ℕ) (code : List Instr) → 1 ≤ namings k code → Holds k → Has f (referred_in (expand (leaf_of labels types) inner code))
  named-in-tree k [] some h = absurd (omega (arith, some))
  named-in-tree k (instr ∷ code) some h =
      let rest = expand (leaf_of labels types) inner code in
      let inside = flat_map (λ k. referred_in (inner k)) (named instr) in
      subst (λ (xs : List ℕ). Has f xs) (sym (headed-refers labels types inner instr rest))
      (has-second f (referred_by instr) (inside ++ referred_in rest) (by (times k (named instr)) refl (λ few. named-in-tree k code few h))) where
        by : (n : ℕ) → times k (named instr) ≡ n → (1 ≤ namings k code → Has f (referred_in (expand (leaf_of labels types) inner code)))
            → Has f (flat_map (λ k. referred_in (inner k)) (named instr) ++ referred_in (expand (leaf_of labels types) inner code))
        by zero none later =
            has-second f (flat_map (λ k. referred_in (inner k)) (named instr)) (referred_in (expand (leaf_of labels types) inner code)) (later (omega (arith, some, none)))
        by (suc n) here later =
            has-first f (flat_map (λ k. referred_in (inner k)) (named instr)) (referred_in (expand (leaf_of labels types) inner code))
            (has-named k (named instr) (omega (arith, here)) h)

-- ---- all blocks

abbrev all_own : Blocks → List ℕ
all_own blocks = own_references (in_order blocks)

flat-append : (xs ys : List Instr) → own_references (xs ++ ys) ≡ own_references xs ++ own_references ys
flat-append xs ys = flat_map-append referred_by xs ys

own-in-all : (f : ℕ) (blocks : Blocks) (k : ℕ) → Has f (own_references (block_at blocks k)) → Has f (all_own blocks)
own-in-all f [] k h = absurd cc
own-in-all f (block ∷ blocks) zero h =
    subst (λ (xs : List ℕ). Has f xs) (sym (flat-append block (in_order blocks))) (has-first f (own_references block) (all_own blocks) h)
own-in-all f (block ∷ blocks) (suc k) h =
    subst (λ (xs : List ℕ). Has f xs) (sym (flat-append block (in_order blocks))) (has-second f (own_references block) (all_own blocks) (own-in-all f blocks k h))

block-of : (f : ℕ) (blocks : Blocks) → Has f (all_own blocks) → (k : ℕ) × (k < length blocks) × Has f (own_references (block_at blocks k))
block-of f [] h = absurd cc
block-of f (block ∷ blocks) h =
    elim (has-cases f (own_references block) (all_own blocks) (subst (λ (xs : List ℕ). Has f xs) (flat-append block (in_order blocks)) h)) [
      | inl here ↦ (0, omega arith, here)
      | inr later ↦ let found = block-of f blocks later in (suc found.0, omega (arith, found.1), found.2)
    ]

module _ (body : BodyParts) (rule : BlockRule body) (f : ℕ) where
  abbrev At : ℕ → Type 0
  At k = Has f (referred_in (tree_of body k))

  opened : (k : ℕ) → At k → Has f (referred_in (expand (leaf_of body.labels body.types) (λ j. tree_of body j) (block_at body.blocks k)))
  opened k h = subst (λ (code : Code). Has f (referred_in code)) (tree_of_block body k rule.names_rise) h

  closed : (k : ℕ) → Has f (referred_in (expand (leaf_of body.labels body.types) (λ j. tree_of body j) (block_at body.blocks k))) → At k
  closed k h = subst (λ (code : Code). Has f (referred_in code)) (sym (tree_of_block body k rule.names_rise)) h

  past-none : (k : ℕ) → length body.blocks ≤ k → Names (λ j. ⊥) (block_at body.blocks k)
  past-none k past =
      subst (λ (o : Option (List Instr)). Names (λ j. ⊥) (unwrap_or o [])) (sym (slice_get_past body.blocks k past)) (All-nil (λ (i : Instr). All (λ j. ⊥) (named i)))

  in-blocks : (n k : ℕ) → length body.blocks ≤ k + n → At k → Has f (all_own body.blocks)
  in-blocks zero k past h =
      elim (tree-cases body.labels body.types (λ j. tree_of body j) f (λ j. ⊥) (block_at body.blocks k) (past-none k (omega (arith, past))) (opened k h)) [
        | inl own ↦ own-in-all f body.blocks k own
        | inr found ↦ absurd found.1
      ]
  in-blocks (suc n) k past h =
      elim (tree-cases body.labels body.types (λ j. tree_of body j) f (λ j. k < j) (block_at body.blocks k) (rule.names_rise.each k) (opened k h)) [
        | inl own ↦ own-in-all f body.blocks k own
        | inr found ↦ in-blocks n found.0 (omega (arith, past, found.1)) found.2
      ]

  to-root : (n k : ℕ) → k < n → k < length body.blocks → At k → At 0
  to-root zero k less there h = absurd (omega (arith, less))
  to-root (suc n) zero less there h = h
  to-root (suc n) (suc k) less there h =
      let namer = naming-block (suc k) body.blocks (once-named body.blocks (suc k) rule.once (omega arith) there) in
      let lower : namer.0 < suc k = names-such (λ j. namer.0 < j) (suc k) (block_at body.blocks namer.0) (rule.names_rise.each namer.0) namer.1 in
      to-root n namer.0 (omega (arith, less, lower)) (omega (arith, there, lower))
      (closed namer.0 (named-in-tree body.labels body.types (λ j. tree_of body j) f (suc k) (block_at body.blocks namer.0) namer.1 h))

  in-tree : Has f (all_own body.blocks) → At 0
  in-tree h =
      let found = block-of f body.blocks h in
      to-root (suc found.0) found.0 (omega arith) found.1
      (closed found.0 (own-in-tree body.labels body.types (λ j. tree_of body j) f (block_at body.blocks found.0) found.2))

  -- a body refers to what the instructions of its blocks refer to
  pub tree-refers : has_number f (referred_in (tree_of body 0)) ≡ has_number f (own_references (in_order body.blocks))
  tree-refers =
      both_ways (has_number f (referred_in (tree_of body 0))) (has_number f (all_own body.blocks))
      (λ h. in-blocks (length body.blocks) 0 (omega arith) h) in-tree
