-- The laws of trees, of bodies that are being built and of the tables, as terms. Proofs of other crates cite this file and no other one of these proofs.
use Rattle.std.proofs.Common.{◌≡◌, ◌≢◌, ℕ, zero, suc, ◌+◌, ◌<◌, List, [], ◌∷◌, ◌++◌, Some, None, length, drop, refl, sym, ap, ◌∙◌, zero-add, cond, arith, All}
use Rattle.std.specs.Prelude.{slice_get, nat_lt}
use Rattle.std.proofs.lemmas.List.{length-append, length-set, append-nil}
use Rattle.std.proofs.lemmas.List.Elements.{All-nil, All-weaker}
use Rattle.wz_types.specs.declared.types.ValType.{ValType}
use Rattle.wz_code.specs.declared.instr.Instr.{Instr}
use Rattle.wz_code.specs.BodyParts.{Blocks, block_at, put_instr}
use Rattle.wz_code.specs.Trees.{Leaf, leaf_of, tree_in, code_in}
use Rattle.wz_code.specs.BlockRule.{named, times, NamesRise, InPools, PoolRule}
use Rattle.wz_code.specs.Laws.{TreeOfBlock, CodeAtStart, CodeAtInstr, CodeAtEnd, StartsBuilding, HeldIsThere, TakingInstr, TakingBlock, TakingLabel, TakingType, TakingPools, TakingLocals, CountsInstr, CountsBlock, CountsLabel, CountsType, CountsLocals, ShortByCount}
pub use Rattle.wz_code.proofs.TreeLemmas.{joined_end, joined_assoc}
pub use Rattle.wz_code.proofs.RuleLemmas.{times-append, times-here, not-times}
pub use Rattle.wz_code.proofs.NumericLemmas.{names_operation, operation_named}
pub use Rattle.wz_code.proofs.AccessLemmas.{names_access, access_named}
use Rattle.wz_code.proofs.TreeLemmas.{tree_in-block, tree_in-past, tree-other, tree-same, tree-block, tree-pools, at_new}
use Rattle.wz_code.proofs.RuleLemmas.{each-instr, rise-instr, rise-block, once-instr, once-block, held-once, held-not, held-within, leaf-more, in-more, count-instr, count-block, count-le}

-- ---- the tree of a block, and the code at a place of it

pub tree_of_block : TreeOfBlock
tree_of_block body number rise = tree_in-block (λ instr. leaf_of body.labels body.types instr) body.blocks rise number

pub code_at_start : CodeAtStart
code_at_start body number rise = sym (tree_of_block body number rise)

drop-get : {A : Type 0} (xs : List A) (i : ℕ) (x : A) → slice_get xs i ≡ Some x → drop i xs ≡ x ∷ drop (i + 1) xs
drop-get [] i x h = absurd (cc h)
drop-get (y ∷ ys) zero x h = cc h
drop-get (y ∷ ys) (suc i) x h = let more : suc i + 1 ≡ suc (i + 1) = omega arith in rw more (drop-get ys i x h)

drop-past : {A : Type 0} (xs : List A) (i : ℕ) → slice_get xs i ≡ None → drop i xs ≡ []
drop-past [] zero h = refl
drop-past [] (suc i) h = refl
drop-past (y ∷ ys) zero h = absurd (cc h)
drop-past (y ∷ ys) (suc i) h = drop-past ys i h

pub code_at_instr : CodeAtInstr
code_at_instr body number place instr h = ap (λ (code : List Instr). code_in body code) (drop-get (block_at body.blocks number) place instr h)

pub code_at_end : CodeAtEnd
code_at_end body number place h = ap (λ (code : List Instr). code_in body code) (drop-past (block_at body.blocks number) place h)

-- ---- a body that is being built

pub starts_building : StartsBuilding
starts_building = record {
  names_rise = record { each = λ n. none n };
  once = record { each = λ k. zero-add (times k (0 ∷ [])) ∙ one k };
  pools = record { each = λ n. in_none n };
} where
  none : (n : ℕ) → All (λ instr. All (λ k. n < k) (named instr)) (block_at ([] ∷ []) n)
  none zero = All-nil (λ instr. All (λ k. 0 < k) (named instr))
  none (suc n) = All-nil (λ instr. All (λ k. suc n < k) (named instr))

  in_none : (n : ℕ) → All (λ instr. InPools [] [] instr) (block_at ([] ∷ []) n)
  in_none zero = All-nil (λ instr. InPools [] [] instr)
  in_none (suc n) = All-nil (λ instr. InPools [] [] instr)

  one : (k : ℕ) → times k (0 ∷ []) ≡ cond (nat_lt k 1) 1 0
  one k = grind arith

pub held_is_there : HeldIsThere
held_is_there body held number building is =
    (held-within body.blocks number held building.once is, omega (arith, held-once body.blocks number held building.once))

pub taking_instr : TakingInstr
taking_instr body before number instr now building takes =
    let leaf : Instr → Leaf = λ i. leaf_of body.labels body.types i in
    let within = held-within body.blocks number before building.once takes.held in
    let not = held-not body.blocks number before building.once takes.held in
    let rises = rise-instr body.blocks number instr building.names_rise within takes.rises in
    let apart : All (λ k. k ≢ number) (named instr) =
    All-weaker (λ k. number < k) (λ k. k ≢ number) (λ k h e. absurd (omega arith)) (named instr) takes.rises in
    record {
      building = record {
        names_rise = rises;
        once = once-instr body.blocks number instr before now within takes.moved building.once;
        pools = record {
          each = λ n. each-instr (λ _ i. InPools body.labels body.types i) body.blocks number instr within (λ m. building.pools.each m) takes.pools n;
        };
      };
      here = tree-same leaf body.blocks number instr building.names_rise rises not within apart;
      elsewhere = λ n other. tree-other leaf body.blocks number instr building.names_rise rises not n other;
    }

pub taking_block : TakingBlock
taking_block body before now building grown =
    let leaf : Instr → Leaf = λ i. leaf_of body.labels body.types i in
    let rises = rise-block body.blocks building.names_rise in
    record {
      building = record {
        names_rise = rises;
        once = once-block body.blocks before now grown building.once;
        pools = record { each = λ n. rw (at_new body.blocks n) (building.pools.each n) };
      };
      here = tree-block leaf body.blocks building.names_rise rises (length body.blocks) ∙ tree_in-past leaf body.blocks building.names_rise (length body.blocks) (omega arith);
      elsewhere = λ n. tree-block leaf body.blocks building.names_rise rises n;
    }

-- where the pools grow, each leaf stays, and so does each tree
pools_grow : (labels more : List ℕ) (types others : List ValType) (blocks : Blocks) → NamesRise blocks → PoolRule labels types blocks
    → PoolRule (labels ++ more) (types ++ others) blocks
    × ((n : ℕ) → tree_in (λ i. leaf_of (labels ++ more) (types ++ others) i) blocks n ≡ tree_in (λ i. leaf_of labels types i) blocks n)
pools_grow labels more types others blocks rise pools = (
  record { each = λ n. All-weaker In In_more (λ i h. in-more labels more types others i h) (block_at blocks n) (pools.each n) },
  λ n. sym (tree-pools leaf leaf_more blocks rise
      (λ m. All-weaker In (λ i. leaf i ≡ leaf_more i) (λ i h. leaf-more labels more types others i h) (block_at blocks m) (pools.each m)) n),
) where
  In : Instr → Type 0
  In i = InPools labels types i

  In_more : Instr → Type 0
  In_more i = InPools (labels ++ more) (types ++ others) i

  leaf : Instr → Leaf
  leaf i = leaf_of labels types i

  leaf_more : Instr → Leaf
  leaf_more i = leaf_of (labels ++ more) (types ++ others) i

pub taking_pools : TakingPools
taking_pools body held labels types building =
    let grow = pools_grow body.labels labels body.types types body.blocks building.names_rise building.pools in
    record {
      building = record { names_rise = building.names_rise; once = building.once; pools = grow.0 };
      trees = grow.1;
    }

pub taking_label : TakingLabel
taking_label body held label building =
    let grow = pools_grow body.labels (label ∷ []) body.types [] body.blocks building.names_rise building.pools in
    let none : body.types ++ [] ≡ body.types = append-nil body.types in
    let grown = rw none at grow in
    record {
      building = record { names_rise = building.names_rise; once = building.once; pools = grown.0 };
      trees = grown.1;
    }

pub taking_type : TakingType
taking_type body held type building =
    let grow = pools_grow body.labels [] body.types (type ∷ []) body.blocks building.names_rise building.pools in
    let none : body.labels ++ [] ≡ body.labels = append-nil body.labels in
    let grown = rw none at grow in
    record {
      building = record { names_rise = building.names_rise; once = building.once; pools = grown.0 };
      trees = grown.1;
    }

pub taking_locals : TakingLocals
taking_locals body held count type building = record {
  building = record { names_rise = building.names_rise; once = building.once; pools = building.pools };
  trees = λ n. refl;
}

-- ---- the number of items

pub counts_instr : CountsInstr
counts_instr body number instr there =
    let a = count-instr body.blocks number instr there in
    let b : length (put_instr body.blocks number instr) ≡ length body.blocks = length-set body.blocks number (block_at body.blocks number ++ instr ∷ []) in
    omega (arith, a, b)

pub counts_block : CountsBlock
counts_block body = let a = count-block body.blocks in let b : length (body.blocks ++ [] ∷ []) ≡ length body.blocks + 1 = length-append body.blocks ([] ∷ []) in omega (arith, a, b)

pub counts_label : CountsLabel
counts_label body label = let a : length (body.labels ++ label ∷ []) ≡ length body.labels + 1 = length-append body.labels (label ∷ []) in omega (arith, a)

pub counts_type : CountsType
counts_type body type = let a : length (body.types ++ type ∷ []) ≡ length body.types + 1 = length-append body.types (type ∷ []) in omega (arith, a)

pub counts_locals : CountsLocals
counts_locals body count type = let a : length (body.locals ++ (count, type) ∷ []) ≡ length body.locals + 1 = length-append body.locals ((count, type) ∷ []) in omega (arith, a)

pub short_by_count : ShortByCount
short_by_count body few = record {
  locals = omega arith;
  blocks = omega arith;
  each = λ n. omega (arith, count-le body.blocks n);
  labels = omega arith;
  types = omega arith;
}
