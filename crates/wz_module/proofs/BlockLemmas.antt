-- The functions that the blocks of a body add to a set.
use Rattle.std.proofs.Common.{◌≡◌, ℕ, ◌+◌, ◌<◌, ◌≤◌, List, [], ◌∷◌, ◌++◌, length, Bool, refl, sym, ap, subst, ◌∙◌, take}
use Rattle.std.specs.Prelude.{◌||◌}
use Rattle.std.specs.List.{flat_map}
use Rattle.std.proofs.lemmas.List.Concat.{flat_map-append}
use Rattle.std.proofs.lemmas.Option.{unwrap_or-slice_get}
use Rattle.wz_code.specs.declared.instr.Instr.{Instr}
use Rattle.wz_code.specs.BodyParts.{Blocks, BodyParts, block_at}
use Rattle.wz_code.specs.BlockRule.{BlockRule}
use Rattle.wz_code.specs.Trees.{tree_of}
use Rattle.wz_code.specs.Walking.{in_order}
use Rattle.wz_code.specs.References.{has_number, referred_by, referred_in, AddsFunctions}
use Rattle.wz_code.proofs.NumberLemmas.{adds_next, adds_all}
use Rattle.wz_code.proofs.ReferenceLemmas.{tree-refers}

-- blocks one behind the other
flat-order : (blocks : Blocks) → flat_map (λ block. flat_map referred_by block) blocks ≡ flat_map referred_by (in_order blocks)
flat-order [] = refl
flat-order (block ∷ blocks) =
    ap (λ (more : List ℕ). flat_map referred_by block ++ more) (flat-order blocks) ∙ sym (flat_map-append referred_by block (in_order blocks))

-- what all blocks of a body add
pub adds_body : (body : BodyParts) → BlockRule body → (i : ℕ) (before now : List ℕ) → length body.blocks ≤ i
    → AddsFunctions before now (flat_map (λ block. flat_map referred_by block) (take i body.blocks)) → AddsFunctions before now (referred_in (tree_of body 0))
adds_body body rule i before now past adds f =
    adds_all (λ block. flat_map referred_by block) body.blocks i before now past adds f
    ∙ ap (λ (b : Bool). has_number f before || b) (ap (λ (ns : List ℕ). has_number f ns) (flat-order body.blocks) ∙ sym (tree-refers body rule f))

-- the next block of a body
pub adds_block : (blocks : Blocks) (i : ℕ) (before middle now : List ℕ) → i < length blocks
    → AddsFunctions before middle (flat_map (λ block. flat_map referred_by block) (take i blocks)) → AddsFunctions middle now (flat_map referred_by (block_at blocks i))
    → AddsFunctions before now (flat_map (λ block. flat_map referred_by block) (take (i + 1) blocks))
adds_block blocks i before middle now less first second =
    adds_next (λ block. flat_map referred_by block) blocks i [] before middle now less first
    (subst (λ (block : List Instr). AddsFunctions middle now (flat_map referred_by block)) (unwrap_or-slice_get blocks i []) second)
