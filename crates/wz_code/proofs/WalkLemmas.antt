-- A walk goes on from where it is, or stops there.
use Rattle.std.proofs.Common.{◌≡◌, ℕ, zero, suc, ◌+◌, ◌<◌, List, [], ◌∷◌, ◌++◌, length, take, drop, get_or, refl, sym, ap, subst, ◌∙◌, append_assoc, arith}
use Rattle.std.proofs.lemmas.List.{append-nil}
use Rattle.wz_code.specs.declared.instr.Instr.{Instr}
use Rattle.wz_code.specs.BodyParts.{Blocks, block_at}
use Rattle.wz_code.specs.Walking.{in_order, gathered, WalkStopsAt}

gathered-append : {M : Type 0} (after : Instr → M → M) (xs ys : List Instr) (m : M) → gathered after (xs ++ ys) m ≡ gathered after ys (gathered after xs m)
gathered-append after [] ys m = refl
gathered-append after (x ∷ xs) ys m = gathered-append after xs ys (after x m)

-- ---- in a block

taken-next : (xs : List Instr) (i : ℕ) (d : Instr) → i < length xs → take (i + 1) xs ≡ take i xs ++ get_or xs i d ∷ []
taken-next [] i d h = absurd (omega arith)
taken-next (y ∷ ys) zero d h = refl
taken-next (y ∷ ys) (suc i) d h = let more : suc i + 1 ≡ suc (i + 1) = omega arith in rw more (ap (λ (zs : List Instr). y ∷ zs) (taken-next ys i d (omega arith)))

parts-at : (xs : List Instr) (i : ℕ) (d : Instr) → i < length xs → xs ≡ take i xs ++ get_or xs i d ∷ drop (i + 1) xs
parts-at [] i d h = absurd (omega arith)
parts-at (y ∷ ys) zero d h = refl
parts-at (y ∷ ys) (suc i) d h = let more : suc i + 1 ≡ suc (i + 1) = omega arith in rw more (ap (λ (zs : List Instr). y ∷ zs) (parts-at ys i d (omega arith)))

pub shows-next : {M : Type 0} (after : Instr → M → M) (block : List Instr) (i : ℕ) (d : Instr) (before at now : M) → i < length block
    → at ≡ gathered after (take i block) before → now ≡ after (get_or block i d) at
    → now ≡ gathered after (take (i + 1) block) before
shows-next after block i d before at now h so_far seen =
    seen ∙ ap (λ (m : _). after (get_or block i d) m) so_far ∙ sym (gathered-append after (take i block) (get_or block i d ∷ []) before)
    ∙ ap (λ (is : List Instr). gathered after is before) (sym (taken-next block i d h))

pub stops-at : {M E : Type 0} (after : Instr → M → M) (refuses : Instr → M → E → Type 0) (all block : List Instr) (i : ℕ) (d : Instr) (before at now : M) (fault : E)
    → all ≡ block → i < length block
    → at ≡ gathered after (take i block) before → now ≡ at → refuses (get_or block i d) at fault → WalkStopsAt after refuses all before now fault
stops-at after refuses all block i d before at now fault is h so_far kept cause = record {
  shown = take i block;
  refused = get_or block i d;
  rest = drop (i + 1) block;
  parts = is ∙ parts-at block i d h;
  meaning = kept ∙ so_far;
  cause = subst (λ (m : _). refuses (get_or block i d) m fault) (sym kept) cause;
}

-- ---- from block to block

in_order-taken : (blocks : Blocks) (n : ℕ) → n < length blocks → in_order (take (n + 1) blocks) ≡ in_order (take n blocks) ++ block_at blocks n
in_order-taken [] n h = absurd (omega arith)
in_order-taken (b ∷ bs) zero h = append-nil b
in_order-taken (b ∷ bs) (suc n) h =
    let more : suc n + 1 ≡ suc (n + 1) = omega arith in
    rw more (ap (λ (is : List Instr). b ++ is) (in_order-taken bs n (omega arith)) ∙ sym (append_assoc b (in_order (take n bs)) (block_at bs n)))

in_order-parts : (blocks : Blocks) (n : ℕ) → n < length blocks → in_order blocks ≡ in_order (take n blocks) ++ (block_at blocks n ++ in_order (drop (n + 1) blocks))
in_order-parts [] n h = absurd (omega arith)
in_order-parts (b ∷ bs) zero h = refl
in_order-parts (b ∷ bs) (suc n) h =
    let more : suc n + 1 ≡ suc (n + 1) = omega arith in
    rw more (ap (λ (is : List Instr). b ++ is) (in_order-parts bs n (omega arith)) ∙ sym (append_assoc b (in_order (take n bs)) (block_at bs n ++ in_order (drop (n + 1) bs))))

pub shows-block : {M : Type 0} (after : Instr → M → M) (blocks : Blocks) (n : ℕ) (before at now : M) → n < length blocks
    → at ≡ gathered after (in_order (take n blocks)) before → now ≡ gathered after (block_at blocks n) at
    → now ≡ gathered after (in_order (take (n + 1) blocks)) before
shows-block after blocks n before at now h so_far seen =
    seen ∙ ap (λ (m : _). gathered after (block_at blocks n) m) so_far ∙ sym (gathered-append after (in_order (take n blocks)) (block_at blocks n) before)
    ∙ ap (λ (is : List Instr). gathered after is before) (sym (in_order-taken blocks n h))

pub stops-in : {M E : Type 0} (after : Instr → M → M) (refuses : Instr → M → E → Type 0) (blocks : Blocks) (n : ℕ) (before at now : M) (fault : E) → n < length blocks
    → at ≡ gathered after (in_order (take n blocks)) before → WalkStopsAt after refuses (block_at blocks n) at now fault → WalkStopsAt after refuses (in_order blocks) before now fault
stops-in after refuses blocks n before at now fault h so_far stop =
    let front = in_order (take n blocks) in
    let back = in_order (drop (n + 1) blocks) in
    record {
      shown = front ++ stop.shown;
      refused = stop.refused;
      rest = stop.rest ++ back;
      parts = in_order-parts blocks n h ∙ ap (λ (is : List Instr). front ++ (is ++ back)) stop.parts
          ∙ ap (λ (is : List Instr). front ++ is) (append_assoc stop.shown (stop.refused ∷ stop.rest) back)
          ∙ sym (append_assoc front stop.shown (stop.refused ∷ (stop.rest ++ back)));
      meaning = stop.meaning ∙ ap (λ (m : _). gathered after stop.shown m) so_far ∙ sym (gathered-append after front stop.shown before);
      cause = stop.cause;
    }
