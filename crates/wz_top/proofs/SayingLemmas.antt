-- Bytes that are put one behind the other.
use Rattle.std.proofs.Common.{◌≡◌, ℕ, suc, ◌+◌, ◌<◌, ◌≤◌, ◌-◌, List, [], ◌++◌, length, get_or, take, drop, refl, sym, ap, subst, length-drop, ◌∙◌, arith, append_assoc, append-nil, length-append}
use Rattle.std.specs.Prelude.{Option, None, Some, Result, Ok, Err, OnOk, OnErr}
use Rattle.std.specs.Io.KnownBytes.{append_known}
use Rattle.std.proofs.Math.Seq.{take-append-add, take-add, drop-cons}
use Rattle.std.proofs.lemmas.List.{take-append-le, take-append-drop}
use Rattle.std.proofs.lemmas.Grind.{flat_map-append}
use Rattle.wz_io.specs.World.{Said, Rose}
use Rattle.wz_io.specs.Calls.{Puts}
use Rattle.wz_top.specs.declared.pieces.Piece.{Piece}
use Rattle.wz_top.specs.Pieces.{piece_words, words_of_pieces}
use Rattle.wz_top.specs.Saying.{SaysAll, SaysFirst}

pub append_twice : (x : Option (List ℕ)) (a b : List ℕ) → append_known (append_known x a) b ≡ append_known x (a ++ b)
append_twice None a b = refl
append_twice (Some x) a b = ap (λ (l : List ℕ). Some l) (append_assoc x a b)

pub append_none : (x : Option (List ℕ)) → x ≡ append_known x []
append_none None = refl
append_none (Some x) = ap (λ (l : List ℕ). Some l) (sym (append-nil x))

pub nothing_said : (s : Said) → SaysAll [] s s
nothing_said s = record { later = omega arith; text = append_none s.text }

pub rose_later : (a b c : ℕ) → a ≤ b → Rose b c → Rose a c
rose_later a b c le rose = omega (arith, le, rose)

pub says_both : (a b : List ℕ) (before mid now : Said) → SaysAll a before mid → SaysAll b mid now → SaysAll (a ++ b) before now
says_both a b before mid now one other = record {
  later = omega (arith, one.later, other.later);
  text = other.text ∙ ap (λ (t : Option (List ℕ)). append_known t b) one.text ∙ append_twice before.text a b;
}

pub says_front : (a b : List ℕ) (before mid now : Said) → SaysAll a before mid → SaysFirst b mid now → SaysFirst (a ++ b) before now
says_front a b before mid now one other = record {
  later = omega (arith, one.later, other.later);
  rose = rose_later before.faults mid.faults now.faults one.later other.rose;
  count = length a + other.count;
  within = omega (arith, other.within, length-append a b);
  text = other.text ∙ ap (λ (t : Option (List ℕ)). append_known t (take other.count b)) one.text
      ∙ append_twice before.text a (take other.count b) ∙ ap (append_known before.text) (sym (take-append-add a b other.count));
}

pub says_less : (a b : List ℕ) (before now : Said) → SaysFirst a before now → SaysFirst (a ++ b) before now
says_less a b before now one = record {
  later = one.later;
  rose = one.rose;
  count = one.count;
  within = omega (arith, one.within, length-append a b);
  text = one.text ∙ ap (append_known before.text) (sym (take-append-le one.count a b one.within));
}

pub on_err : {T E P : Type 0} (result : Result T E) → P → OnErr result P
on_err (Ok x) p = tt
on_err (Err e) p = p

pub on_err_as : {T E P Q : Type 0} (result : Result T E) → (P → Q) → OnErr result P → OnErr result Q
on_err_as (Ok x) f p = tt
on_err_as (Err e) f p = f p

pub on_ok_as : {T E P Q : Type 0} (result : Result T E) → (P → Q) → OnOk result P → OnOk result Q
on_ok_as (Ok x) f p = f p
on_ok_as (Err e) f p = tt

-- ---- a loop of puts

-- the first `at` of the bytes were put
pub record HasSaid (bytes : List ℕ) (at : ℕ) (before now : Said) : Type 0 where
  pub within : at ≤ length bytes
  pub said : SaysAll (take at bytes) before now

-- one more put
pub puts_more : (bytes : List ℕ) (at n : ℕ) (before now next : Said) (piece : List ℕ) → HasSaid bytes at before now → piece ≡ drop at bytes
    → Puts now next piece (Ok n) → HasSaid bytes (at + n) before next
puts_more bytes at n before now next piece come is done =
    let small : n ≤ length bytes - at = rw length-drop at (subst (λ (xs : List ℕ). n ≤ length xs) is done.bound) in
    let more : SaysAll (take n piece) now next = record { later = done.later; text = done.text } in
    let whole : take at bytes ++ take n piece ≡ take (at + n) bytes = ap (λ (xs : List ℕ). take at bytes ++ take n xs) is ∙ sym (take-add at n bytes) in
    record {
      within = omega (arith, come.within, small);
      said = subst (λ (xs : List ℕ). SaysAll xs before next) whole (says_both (take at bytes) (take n piece) before now next come.said more);
    }

-- ---- a loop over pieces

pub pieces_split : (pieces : List Piece) (at : ℕ) (other : Piece) → at < length pieces
    → words_of_pieces pieces ≡ words_of_pieces (take at pieces) ++ (piece_words (get_or pieces at other) ++ words_of_pieces (drop (suc at) pieces))
pieces_split pieces at other there =
    ap words_of_pieces (sym (take-append-drop at pieces)) ∙ flat_map-append piece_words (take at pieces) (drop at pieces)
    ∙ ap (λ (ps : List Piece). words_of_pieces (take at pieces) ++ words_of_pieces ps) (drop-cons pieces at other there)

-- the pieces before it were put, and the sink failed at this one
pub says_pieces : (pieces : List Piece) (at : ℕ) (other : Piece) (before mid now : Said) → at < length pieces
    → SaysAll (words_of_pieces (take at pieces)) before mid → SaysFirst (piece_words (get_or pieces at other)) mid now → SaysFirst (words_of_pieces pieces) before now
says_pieces pieces at other before mid now there one other_said =
    let this = piece_words (get_or pieces at other) in
    let rest = words_of_pieces (drop (suc at) pieces) in
    subst (λ (bytes : List ℕ). SaysFirst bytes before now) (sym (pieces_split pieces at other there))
    (says_front (words_of_pieces (take at pieces)) (this ++ rest) before mid now one (says_less this rest mid now other_said))
