-- What a store holds after a memory that it lent has grown.
use Rattle.std.proofs.Common.{◌≡◌, ◌*◌, ◌++◌, ℕ, List, Option, Some, replicate, option_map, slice_get, ap, sym, ◌∙◌}
use Rattle.wz_store.specs.State.{Memory, StateOf, page_size}
use Rattle.wz_store.specs.Changes.{GrowMemory, applied, with_more_pages}
use Rattle.wz_store.specs.Lending.{with_contents, with_contents_at}
use Rattle.wz_store.proofs.ChangeLemmas.{altered_alike}
use Rattle.wz_bulk.proofs.OptionLemmas.{found_of}

same_item : {A : Type 0} (o : Option A) (x y : A) → o ≡ Some x → o ≡ Some y → x ≡ y
same_item o x y one other = cc (sym one ∙ other)

-- with so many pages of zeros behind the bytes that it had
pub contents_grown : {F : Type 0} (s : StateOf F) (i by : ℕ) (old new : List ℕ) → Some old ≡ option_map (λ (m : Memory). m.bytes) (slice_get s.memories i)
    → new ≡ old ++ replicate (by * page_size) 0 → with_contents_at s i new ≡ applied (GrowMemory i by) s
contents_grown s i by old new there grown =
    let m = found_of (λ (m : Memory). m.bytes) (slice_get s.memories i) old (sym there) in
    ap (λ (ms : List Memory). record s { memories = ms })
    (altered_alike (λ memory. with_contents new memory) (λ memory. with_more_pages by memory) s.memories i
    (λ x e. ap (λ (after : List ℕ). with_contents after x)
    (grown ∙ ap (λ (bytes : List ℕ). bytes ++ replicate (by * page_size) 0) (sym m.2 ∙ ap (λ (y : Memory). y.bytes) (same_item (slice_get s.memories i) m.0 x m.1 e)))))
