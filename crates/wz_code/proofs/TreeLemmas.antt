-- Blocks as trees, and what more blocks, instructions, labels and types change of them.
use Rattle.std.proofs.Common.{◌≡◌, ◌≢◌, ℕ, zero, suc, ◌+◌, ◌<◌, ◌≤◌, List, [], ◌∷◌, ◌++◌, Option, Some, None, length, set, refl, sym, ap, ◌∙◌, arith, All}
use Rattle.std.proofs.lemmas.List.{get_or-set_same, get_or-set_other}
use Rattle.std.proofs.lemmas.List.Elements.{All-head, All-tail, All-push}
use Rattle.std.proofs.lemmas.Option.{unwrap_or-slice_get}
use Rattle.wz_code.specs.declared.instr.Instr.{Instr}
use Rattle.wz_code.specs.declared.instr.Instr.TheVariants.{Block, Loop, If}
use Rattle.wz_code.specs.BodyParts.{Blocks, block_at, put_instr}
use Rattle.wz_code.specs.Trees.{Leaf, Code, End, Then, InBlock, InLoop, InIf, joined, arm_of, headed, expand, tree_by, tree_in}
use Rattle.wz_code.specs.BlockRule.{arm_named, named, Names, NamesRise, NamesNot}

-- ---- code of some instructions

arm-same : (f g : ℕ → Code) (P : ℕ → Type 0) → ((k : ℕ) → P k → f k ≡ g k) → (arm : Option ℕ) → All P (arm_named arm) → arm_of f arm ≡ arm_of g arm
arm-same f g P same None h = refl
arm-same f g P same (Some body) h = same body (All-head P body [] h)

headed-same : (leaf other : Instr → Leaf) (f g : ℕ → Code) (P : ℕ → Type 0) → ((k : ℕ) → P k → f k ≡ g k) → (instr : Instr) → leaf instr ≡ other instr → All P (named instr)
    → (rest more : Code) → rest ≡ more → headed leaf f instr rest ≡ headed other g instr more
headed-same leaf other f g P same (Block shape body) e h rest more r = cc (same body (All-head P body [] h), r)
headed-same leaf other f g P same (Loop shape body) e h rest more r = cc (same body (All-head P body [] h), r)
headed-same leaf other f g P same (If shape first second) e h rest more r =
    let one = same first (All-head P first (arm_named second) h) in
    let other = arm-same f g P same second (All-tail P first (arm_named second) h) in
    cc (one, other, r)
headed-same leaf other f g P same instr e h rest more r = cc (e, r)

-- two readings agree on instructions whose leaves and named blocks they read alike
pub expand-same : (leaf other : Instr → Leaf) (f g : ℕ → Code) (P : ℕ → Type 0) → ((k : ℕ) → P k → f k ≡ g k)
    → (code : List Instr) → All (λ instr. leaf instr ≡ other instr) code → Names P code
    → expand leaf f code ≡ expand other g code
expand-same leaf other f g P same [] e h = refl
expand-same leaf other f g P same (instr ∷ rest) e h =
    let Same : Instr → Type 0 = λ i. leaf i ≡ other i in
    let Such : Instr → Type 0 = λ i. All P (named i) in
    headed-same leaf other f g P same instr (All-head Same instr rest e) (All-head Such instr rest h) (expand leaf f rest) (expand other g rest)
    (expand-same leaf other f g P same rest (All-tail Same instr rest e) (All-tail Such instr rest h))

headed-joined : (leaf : Instr → Leaf) (f : ℕ → Code) (instr : Instr) (rest more : Code) → headed leaf f instr (joined rest more) ≡ joined (headed leaf f instr rest) more
headed-joined leaf f (Block shape body) rest more = refl
headed-joined leaf f (Loop shape body) rest more = refl
headed-joined leaf f (If shape first second) rest more = refl
headed-joined leaf f instr rest more = refl

pub expand-append : (leaf : Instr → Leaf) (f : ℕ → Code) (xs ys : List Instr) → expand leaf f (xs ++ ys) ≡ joined (expand leaf f xs) (expand leaf f ys)
expand-append leaf f [] ys = refl
expand-append leaf f (instr ∷ rest) ys =
    ap (λ (c : Code). headed leaf f instr c) (expand-append leaf f rest ys) ∙ headed-joined leaf f instr (expand leaf f rest) (expand leaf f ys)

pub joined_end : (code : Code) → joined code End ≡ code
joined_end End = refl
joined_end (Then leaf rest) = ap (λ (c : Code). Then leaf c) (joined_end rest)
joined_end (InBlock shape inner rest) = ap (λ (c : Code). InBlock shape inner c) (joined_end rest)
joined_end (InLoop shape inner rest) = ap (λ (c : Code). InLoop shape inner c) (joined_end rest)
joined_end (InIf shape first second rest) = ap (λ (c : Code). InIf shape first second c) (joined_end rest)

pub joined_assoc : (x y z : Code) → joined (joined x y) z ≡ joined x (joined y z)
joined_assoc End y z = refl
joined_assoc (Then leaf rest) y z = ap (λ (c : Code). Then leaf c) (joined_assoc rest y z)
joined_assoc (InBlock shape inner rest) y z = ap (λ (c : Code). InBlock shape inner c) (joined_assoc rest y z)
joined_assoc (InLoop shape inner rest) y z = ap (λ (c : Code). InLoop shape inner c) (joined_assoc rest y z)
joined_assoc (InIf shape first second rest) y z = ap (λ (c : Code). InIf shape first second c) (joined_assoc rest y z)

-- ---- the tree of a block

pub block_at-past : (blocks : Blocks) (n : ℕ) → length blocks ≤ n → block_at blocks n ≡ []
block_at-past [] n h = refl
block_at-past (b ∷ bs) zero h = absurd (omega arith)
block_at-past (b ∷ bs) (suc n) h = block_at-past bs n (omega arith)

same_leaves : (leaf : Instr → Leaf) (code : List Instr) → All (λ instr. leaf instr ≡ leaf instr) code
same_leaves leaf code = λ k d less. refl

-- from the number of blocks on, more depth changes nothing
tree_by-same : (leaf : Instr → Leaf) (blocks : Blocks) → NamesRise blocks → (f g n : ℕ) → length blocks ≤ f + n
    → length blocks ≤ g + n → tree_by f leaf blocks n ≡ tree_by g leaf blocks n
unfolding tree_by
tree_by-same leaf blocks rise zero zero n hf hg = refl
tree_by-same leaf blocks rise zero (suc g) n hf hg = let e : block_at blocks n ≡ [] = block_at-past blocks n (omega arith) in rw e refl
tree_by-same leaf blocks rise (suc f) zero n hf hg = let e : block_at blocks n ≡ [] = block_at-past blocks n (omega arith) in rw e refl
tree_by-same leaf blocks rise (suc f) (suc g) n hf hg =
    expand-same leaf leaf (λ k. tree_by f leaf blocks k) (λ k. tree_by g leaf blocks k) (λ k. n < k)
    (λ k h. tree_by-same leaf blocks rise f g k (omega arith) (omega arith))
    (block_at blocks n) (same_leaves leaf (block_at blocks n)) (rise.each n)

-- a block's tree is its instructions in order, with each block that they name replaced by its own tree
pub tree_in-block : (leaf : Instr → Leaf) (blocks : Blocks) → NamesRise blocks → (n : ℕ) → tree_in leaf blocks n ≡ expand leaf (λ k. tree_in leaf blocks k) (block_at blocks n)
unfolding tree_by tree_in
tree_in-block leaf blocks rise n =
    let deep = length blocks in
    let one : tree_by deep leaf blocks n ≡ tree_by (suc deep) leaf blocks n = tree_by-same leaf blocks rise deep (suc deep) n (omega arith) (omega arith) in
    one

pub tree_in-past : (leaf : Instr → Leaf) (blocks : Blocks) → NamesRise blocks → (n : ℕ) → length blocks ≤ n → tree_in leaf blocks n ≡ End
tree_in-past leaf blocks rise n h = tree_in-block leaf blocks rise n ∙ ap (λ (code : List Instr). expand leaf (λ k. tree_in leaf blocks k) code) (block_at-past blocks n h)

tree_by-agree : (leaf other : Instr → Leaf) (xs ys : Blocks) (Free : ℕ → Type 0) → ((n : ℕ) → Free n → block_at xs n ≡ block_at ys n)
    → ((n : ℕ) → Free n → All (λ instr. leaf instr ≡ other instr) (block_at xs n))
    → ((n : ℕ) → Free n → Names Free (block_at xs n)) → (depth n : ℕ) → Free n → tree_by depth leaf xs n ≡ tree_by depth other ys n
unfolding tree_by
tree_by-agree leaf other xs ys Free same leaves names zero n h = refl
tree_by-agree leaf other xs ys Free same leaves names (suc depth) n h =
    expand-same leaf other (λ k. tree_by depth leaf xs k) (λ k. tree_by depth other ys k) Free
    (λ k free. tree_by-agree leaf other xs ys Free same leaves names depth k free) (block_at xs n) (leaves n h) (names n h)
    ∙ ap (λ (block : List Instr). expand other (λ k. tree_by depth other ys k) block) (same n h)

-- blocks that are the same, are read alike and name only such blocks, are the same trees
pub tree_in-agree : (leaf other : Instr → Leaf) (xs ys : Blocks) (Free : ℕ → Type 0) → NamesRise xs → NamesRise ys → ((n : ℕ) → Free n → block_at xs n ≡ block_at ys n)
    → ((n : ℕ) → Free n → All (λ instr. leaf instr ≡ other instr) (block_at xs n)) → ((n : ℕ) → Free n → Names Free (block_at xs n))
    → (n : ℕ) → Free n → tree_in leaf xs n ≡ tree_in other ys n
unfolding tree_in
tree_in-agree leaf other xs ys Free rise_xs rise_ys same leaves names n h =
    tree_by-same leaf xs rise_xs (length xs) (length xs + length ys) n (omega arith) (omega arith)
    ∙ tree_by-agree leaf other xs ys Free same leaves names (length xs + length ys) n h
    ∙ tree_by-same other ys rise_ys (length xs + length ys) (length ys) n (omega arith) (omega arith)

-- ---- an instruction more

pub at_same : (blocks : Blocks) (b : ℕ) (x : List Instr) → b < length blocks → block_at (set blocks b x) b ≡ x
at_same blocks b x h = unwrap_or-slice_get (set blocks b x) b [] ∙ get_or-set_same blocks b x [] h

pub at_other : (blocks : Blocks) (b n : ℕ) (x : List Instr) → n ≢ b → block_at (set blocks b x) n ≡ block_at blocks n
at_other blocks b n x h = unwrap_or-slice_get (set blocks b x) n [] ∙ get_or-set_other blocks b n x [] h ∙ sym (unwrap_or-slice_get blocks n [])

pub tree-other : (leaf : Instr → Leaf) (blocks : Blocks) (b : ℕ) (instr : Instr) → NamesRise blocks → NamesRise (put_instr blocks b instr) → NamesNot blocks b
    → (n : ℕ) → n ≢ b → tree_in leaf (put_instr blocks b instr) n ≡ tree_in leaf blocks n
tree-other leaf blocks b instr rise rises not n other =
    sym (tree_in-agree leaf leaf blocks (put_instr blocks b instr) (λ k. k ≢ b) rise rises
    (λ m h. sym (at_other blocks b m (block_at blocks b ++ instr ∷ []) h)) (λ m h. same_leaves leaf (block_at blocks m)) (λ m h. not.each m) n other)

-- the block has the instruction at its end, read by what was there before
pub tree-same : (leaf : Instr → Leaf) (blocks : Blocks) (b : ℕ) (instr : Instr) → NamesRise blocks → NamesRise (put_instr blocks b instr)
    → NamesNot blocks b → b < length blocks → All (λ k. k ≢ b) (named instr)
    → tree_in leaf (put_instr blocks b instr) b ≡ joined (tree_in leaf blocks b) (headed leaf (λ k. tree_in leaf blocks k) instr End)
tree-same leaf blocks b instr rise rises not within others =
    let new = put_instr blocks b instr in
    let grown = block_at blocks b ++ instr ∷ [] in
    let law : tree_in leaf new b ≡ expand leaf (λ k. tree_in leaf new k) (block_at new b) = tree_in-block leaf new rises b in
    let at : expand leaf (λ k. tree_in leaf new k) (block_at new b) ≡ expand leaf (λ k. tree_in leaf new k) grown =
    ap (λ (x : List Instr). expand leaf (λ k. tree_in leaf new k) x) (at_same blocks b grown within) in
    let old : expand leaf (λ k. tree_in leaf new k) grown ≡ expand leaf (λ k. tree_in leaf blocks k) grown =
    expand-same leaf leaf (λ k. tree_in leaf new k) (λ k. tree_in leaf blocks k) (λ k. k ≢ b) (λ k h. tree-other leaf blocks b instr rise rises not k h) grown
    (same_leaves leaf grown) (All-push (λ i. All (λ k. k ≢ b) (named i)) (block_at blocks b) instr (not.each b) others) in
    let last : Code = headed leaf (λ k. tree_in leaf blocks k) instr End in
    let front : Code = expand leaf (λ k. tree_in leaf blocks k) (block_at blocks b) in
    let parts : expand leaf (λ k. tree_in leaf blocks k) grown ≡ joined front last =
    expand-append leaf (λ k. tree_in leaf blocks k) (block_at blocks b) (instr ∷ []) in
    let before : joined front last ≡ joined (tree_in leaf blocks b) last =
    ap (λ (x : Code). joined x last) (sym (tree_in-block leaf blocks rise b)) in
    law ∙ at ∙ old ∙ parts ∙ before

-- ---- a block more

pub at_new : (blocks : Blocks) (n : ℕ) → block_at (blocks ++ [] ∷ []) n ≡ block_at blocks n
at_new [] zero = refl
at_new [] (suc n) = refl
at_new (b ∷ bs) zero = refl
at_new (b ∷ bs) (suc n) = at_new bs n

pub tree-block : (leaf : Instr → Leaf) (blocks : Blocks) → NamesRise blocks → NamesRise (blocks ++ [] ∷ []) → (n : ℕ) → tree_in leaf (blocks ++ [] ∷ []) n ≡ tree_in leaf blocks n
tree-block leaf blocks rise rises n =
    sym (tree_in-agree leaf leaf blocks (blocks ++ [] ∷ []) (λ _. Unit {0}) rise rises (λ m h. sym (at_new blocks m)) (λ m h. same_leaves leaf (block_at blocks m))
    (λ m h k d less j e below. tt) n tt)

-- ---- other pools

-- where each leaf is read as before, so is each tree
pub tree-pools : (leaf other : Instr → Leaf) (blocks : Blocks) → NamesRise blocks → ((n : ℕ) → All (λ instr. leaf instr ≡ other instr) (block_at blocks n))
    → (n : ℕ) → tree_in leaf blocks n ≡ tree_in other blocks n
tree-pools leaf other blocks rise leaves n =
    tree_in-agree leaf other blocks blocks (λ _. Unit {0}) rise rise (λ m h. refl) (λ m h. leaves m)
    (λ m h k d less j e below. tt) n tt
