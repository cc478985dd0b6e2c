-- A memory that is scanned page by page.
use Rattle.std.proofs.Common.{◌≡◌, ℕ, ◌+◌, ◌-◌, ◌*◌, ◌/◌, ◌^◌, ◌≤◌, List, [], ◌++◌, length, take, drop, refl, sym, ap, ◌∙◌, arith, take-add, append_assoc, append-nil}
use Rattle.std.proofs.Common.{length-append, length-take-le, length-drop, replicate, Bool, true, false, IsTrue, Result, Ok, Err}
use Rattle.std.specs.Prelude.{OnOk}
use Rattle.std.specs.Bool.{OnTrue}
use Rattle.std.specs.List.{All}
use Rattle.std.proofs.lemmas.List.{ext_get_or, get_or-replicate, length-replicate, replicate-append-replicate, take_all}
use Rattle.wz_linear.specs.Bytes.{part}
use Rattle.wz_plan.specs.Scanned.{Found, found_in, followed_at}
use Rattle.wz_plan.specs.Laws.{ZerosAddNothing}
use Rattle.wz_snapshot.specs.Scanning.{IsScannedTo}

-- bytes that are zero are so many zeros
only-zeros : (bytes : List ℕ) → All (λ byte. byte ≡ 0) bytes → bytes ≡ replicate (length bytes) 0
only-zeros bytes zero =
    ext_get_or 0 bytes (replicate (length bytes) 0) (sym (length-replicate (length bytes) 0))
    (λ i less. zero i 0 less ∙ sym (get_or-replicate (length bytes) i 0 0 less))

-- what stands before the end of a range stands before it and in it
part-behind : (memory : List ℕ) (at count : ℕ) → take (at + count) memory ≡ take at memory ++ part memory at count
unfolding part
part-behind memory at count = take-add at count memory

length-part : (memory : List ℕ) (at count : ℕ) → at + count ≤ length memory → length (part memory at count) ≡ count
unfolding part
length-part memory at count within = length-take-le count (drop at memory) (let e = length-drop at memory in omega (arith, e, within))

-- nothing of a memory was shown yet
pub starts : (memory : List ℕ) → IsScannedTo memory 0 (found_in [])
starts memory = record { shown = []; zeros = 0; before = refl; found_there = refl }

module _ (memory : List ℕ) (at : ℕ) (found : Found) (so_far : IsScannedTo memory at found) where
  shown-length : at ≤ length memory → length so_far.shown + so_far.zeros ≡ at
  shown-length within =
      let e = ap length so_far.before in
      let f = length-take-le at memory within in
      let g = length-append so_far.shown (replicate so_far.zeros 0) in
      let h = length-replicate {A = ℕ} so_far.zeros 0 in
      omega (arith, e, f, g, h)

  -- the scan ends by the place
  pub ends_before : at ≤ length memory → found.end ≤ at
  ends_before within =
      let e = ap (λ (f : Found). f.end) so_far.found_there in
      let g = shown-length within in
      omega (arith, e, g)

  -- zeros that weren't shown
  pub passes_zeros : (count next : ℕ) → at + count ≡ next → next ≤ length memory → All (λ byte. byte ≡ 0) (part memory at count) → IsScannedTo memory next found
  passes_zeros count next sum within zero =
      let size = length-part memory at count (omega (arith, sum, within)) in
      let zeros = only-zeros (part memory at count) zero ∙ ap (λ (n : ℕ). replicate n 0) size in
      record {
        shown = so_far.shown;
        zeros = so_far.zeros + count;
        before =
            ap (λ (n : ℕ). take n memory) (sym sum)
            ∙ part-behind memory at count
            ∙ ap (λ (bytes : List ℕ). bytes ++ part memory at count) so_far.before
            ∙ ap (λ (bytes : List ℕ). (so_far.shown ++ replicate so_far.zeros 0) ++ bytes) zeros
            ∙ append_assoc so_far.shown (replicate so_far.zeros 0) (replicate count 0)
            ∙ ap (λ (bytes : List ℕ). so_far.shown ++ bytes) (replicate-append-replicate so_far.zeros count 0);
        found_there = so_far.found_there;
      }

  -- bytes that were shown
  pub passes_shown : (count next : ℕ) (now : Found) → at + count ≡ next → next ≤ length memory
      → ((shown : List ℕ) → found ≡ found_in shown → now ≡ found_in (followed_at shown at (part memory at count))) → IsScannedTo memory next now
  passes_shown count next now sum within together =
      let size = shown-length (omega (arith, sum, within)) in
      let gap : at - length so_far.shown ≡ so_far.zeros = omega (arith, size) in
      let all =
      ap (λ (n : ℕ). (so_far.shown ++ replicate n 0) ++ part memory at count) gap
      ∙ ap (λ (bytes : List ℕ). bytes ++ part memory at count) (sym so_far.before)
      ∙ sym (part-behind memory at count)
      ∙ ap (λ (n : ℕ). take n memory) sum in
      record {
        shown = take next memory;
        zeros = 0;
        before = sym (append-nil (take next memory));
        found_there = together so_far.shown so_far.found_there ∙ ap found_in all;
      }

  -- the whole memory was scanned
  pub all_found : ZerosAddNothing → length memory ≤ at → found.runs ≡ (found_in memory).runs
  all_found law past =
      ap (λ (f : Found). f.runs) so_far.found_there
      ∙ sym (law so_far.shown so_far.zeros)
      ∙ ap (λ (bytes : List ℕ). (found_in bytes).runs) (sym so_far.before ∙ take_all at memory past)

-- ---- what holds where a call succeeds

pub on_true : {P : Type 0} (b : Bool) → IsTrue b → OnTrue b P → P
on_true true t h = h
on_true false t h = absurd cc

pub on_ok : {X E P Q : Type 0} (r : Result X E) → (P → Q) → OnOk r P → OnOk r Q
on_ok (Ok x) f h = f h
on_ok (Err e) f h = h

-- a memory of whole pages, at most 16,384, has at most 2^30 bytes
pub small_memory : (memory : List ℕ) (pages : ℕ) → length memory ≡ pages * 65536 → length memory / 65536 ≤ 16384 → length memory ≤ 2 ^ 30
small_memory memory pages whole few = omega (arith, whole, few)
