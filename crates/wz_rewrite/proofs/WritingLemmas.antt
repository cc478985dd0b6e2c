-- Pieces one behind the other, on their way to the output.
use Rattle.std.proofs.Common.{◌≡◌, ℕ, ◌+◌, ◌≤◌, ◌<◌, List, [], ◌∷◌, ◌++◌, length, take, drop, get_or, map, sym, ap, subst, ◌∙◌, arith, append-nil, refl}
use Rattle.std.specs.Prelude.{Option, None, Some, option_map, slice_get, Result, Ok, Err, OnOk, OnErr, IsSomeAnd}
use Rattle.std.specs.List.{flat_map}
use Rattle.std.proofs.lemmas.List.{map-append, take-append-drop, take_more, drop_more, length-append}
use Rattle.std.proofs.lemmas.Grind.{flat_map-append}
use Rattle.std.proofs.lemmas.List.Sums.{sum_by-append}
use Rattle.std.proofs.lemmas.List.Elements.{All-head}
use Rattle.wz_io.specs.World.{World}
use Rattle.wz_io.specs.Calls.{current_after_transfer}
use Rattle.wz_io.specs.Writing.{WritesAll, WritesSome}
use Rattle.wz_io.specs.World.{Rose}
use Rattle.wz_io.specs.declared.files.Failed.{Failed}
use Rattle.wz_linear.specs.Bytes.{IsWithin}
use Rattle.wz_store.specs.State.{Memory}
use Rattle.wz_snapshot.specs.declared.segment.ChosenSegment.{ChosenSegment}
use Rattle.wz_rewrite.specs.OutputState.{memory_part, HasRange, HasRanges}
use Rattle.wz_rewrite.specs.Pieces.{OutputPiece, KeptPiece, MadePiece, RangePiece, piece_text, pieces_text, piece_length, pieces_length, chosen_with, range_of_piece, piece_ranges}
use Rattle.wz_rewrite.specs.Gathering.{Gathers, FailsAmong}
use Rattle.wz_rewrite.specs.Views.{piece_of}
use Rattle.wz_rewrite.specs.declared.piece.Piece.{Piece}
use Rattle.wz_rewrite.proofs.AllLemmas.{All-front, All-behind}
use Rattle.wz_rewrite.proofs.GatheringLemmas.{gathers_more, gathers_all, fails_more, fails_longer, length-part}

-- ---- one range

within_memory : (memory : Option Memory) (at len : ℕ) (contents : List ℕ) → IsSomeAnd memory (λ m. IsWithin m.bytes at len)
    → Some contents ≡ option_map (λ (m : Memory). m.bytes) memory → IsWithin contents at len
within_memory None at len contents has is = absurd has
within_memory (Some m) at len contents has is = let e : m.bytes ≡ contents = cc in subst (λ (bytes : List ℕ). IsWithin bytes at len) e has

pub within_range : (memories : List Memory) (number at len : ℕ) (contents : List ℕ) → HasRanges memories (chosen_with number at len ∷ [])
    → Some contents ≡ option_map (λ (m : Memory). m.bytes) (slice_get memories number) → IsWithin contents at len
within_range memories number at len contents has is =
    within_memory (slice_get memories number) at len contents (All-head (λ s. HasRange memories s) (chosen_with number at len) [] has) is

pub length_in : (memory : Option Memory) (at len : ℕ) → IsSomeAnd memory (λ m. IsWithin m.bytes at len) → length (memory_part memory at len) ≡ len
length_in None at len has = absurd has
length_in (Some m) at len has = length-part m.bytes at len has

-- ---- how many bytes pieces have

pub length-piece_text : (memories : List Memory) (piece : OutputPiece) → HasRanges memories (range_of_piece piece) → length (piece_text memories piece) ≡ piece_length piece
length-piece_text memories (KeptPiece bytes) has = refl
length-piece_text memories (MadePiece bytes) has = refl
length-piece_text memories (RangePiece number at len) has =
    length_in (slice_get memories number) at len (All-head (λ s. HasRange memories s) (chosen_with number at len) [] has)

pub length-pieces_text : (memories : List Memory) (pieces : List OutputPiece) → HasRanges memories (piece_ranges pieces)
    → length (pieces_text memories pieces) ≡ pieces_length pieces
length-pieces_text memories [] has = refl
length-pieces_text memories (piece ∷ pieces) has =
    let front = All-front (λ s. HasRange memories s) (range_of_piece piece) (piece_ranges pieces) has in
    let behind = All-behind (λ s. HasRange memories s) (range_of_piece piece) (piece_ranges pieces) has in
    let one = length-piece_text memories piece front in
    let more = length-pieces_text memories pieces behind in
    let sum : pieces_length (piece ∷ pieces) ≡ 0 + piece_length piece + pieces_length pieces = sum_by-append piece_length (piece ∷ []) pieces in
    let parts : length (piece_text memories piece) + length (pieces_text memories pieces) ≡ 0 + piece_length piece + pieces_length pieces = omega (arith, one, more) in
    length-append (piece_text memories piece) (pieces_text memories pieces) ∙ parts ∙ sym sum

-- ---- a loop over pieces

pub pieces_step : (memories : List Memory) (pieces : List Piece) (i : ℕ) (piece : Piece) → i < length pieces → piece ≡ get_or pieces i piece
    → pieces_text memories (map piece_of (take i pieces)) ++ piece_text memories (piece_of piece) ≡ pieces_text memories (map piece_of (take (i + 1) pieces))
pieces_step memories pieces i piece h is =
    let f = λ (p : OutputPiece). piece_text memories p in
    let taken : take (i + 1) pieces ≡ take i pieces ++ piece ∷ [] = take_more pieces i piece h ∙ ap (λ (p : Piece). take i pieces ++ p ∷ []) (sym is) in
    let all : flat_map f (map piece_of (take (i + 1) pieces)) ≡ flat_map f (map piece_of (take i pieces)) ++ (piece_text memories (piece_of piece) ++ []) =
    ap (λ (ps : List Piece). flat_map f (map piece_of ps)) taken
    ∙ ap (λ (ps : List OutputPiece). flat_map f ps) (map-append piece_of (take i pieces) (piece ∷ []))
    ∙ flat_map-append f (map piece_of (take i pieces)) (piece_of piece ∷ []) in
    sym (all ∙ ap (λ (t : List ℕ). flat_map f (map piece_of (take i pieces)) ++ t) (append-nil (piece_text memories (piece_of piece))))

-- all pieces are the first ones and those behind them
pub pieces_rest : (memories : List Memory) (pieces : List Piece) (i : ℕ)
    → pieces_text memories (map piece_of (take i pieces)) ++ pieces_text memories (map piece_of (drop i pieces)) ≡ pieces_text memories (map piece_of pieces)
pieces_rest memories pieces i =
    let f = λ (p : OutputPiece). piece_text memories p in
    sym (flat_map-append f (map piece_of (take i pieces)) (map piece_of (drop i pieces)))
    ∙ ap (λ (ps : List OutputPiece). flat_map f ps) (sym (map-append piece_of (take i pieces) (drop i pieces)))
    ∙ ap (λ (ps : List Piece). flat_map f (map piece_of ps)) (take-append-drop i pieces)

-- each piece's range lies in its memory
pub ranges_at : (memories : List Memory) (pieces : List Piece) (i : ℕ) (piece : Piece) → i < length pieces → piece ≡ get_or pieces i piece
    → HasRanges memories (piece_ranges (map piece_of pieces)) → HasRanges memories (range_of_piece (piece_of piece))
ranges_at memories pieces i piece h is has =
    let P = λ (s : ChosenSegment). HasRange memories s in
    let rest = drop (i + 1) pieces in
    let parts : pieces ≡ take i pieces ++ piece ∷ rest =
    sym (take-append-drop i pieces) ∙ ap (λ (ps : List Piece). take i pieces ++ ps) (drop_more pieces i piece h ∙ ap (λ (p : Piece). p ∷ rest) (sym is)) in
    let all : piece_ranges (map piece_of pieces) ≡ piece_ranges (map piece_of (take i pieces)) ++ (range_of_piece (piece_of piece) ++ piece_ranges (map piece_of rest)) =
    ap (λ (ps : List Piece). flat_map range_of_piece (map piece_of ps)) parts
    ∙ ap (λ (ps : List OutputPiece). flat_map range_of_piece ps) (map-append piece_of (take i pieces) (piece ∷ rest))
    ∙ flat_map-append range_of_piece (map piece_of (take i pieces)) (map piece_of (piece ∷ rest)) in
    let here = subst (λ (rs : List ChosenSegment). HasRanges memories rs) all has in
    All-front P (range_of_piece (piece_of piece)) (piece_ranges (map piece_of rest))
    (All-behind P (piece_ranges (map piece_of (take i pieces))) (range_of_piece (piece_of piece) ++ piece_ranges (map piece_of rest)) here)

-- one piece more was gathered
pub gathers_piece : (memories : List Memory) (pieces : List Piece) (i : ℕ) (piece : Piece) (rest left : List ℕ) (before now next : World) → i < length pieces
    → piece ≡ get_or pieces i piece → Gathers (pieces_text memories (map piece_of (take i pieces))) rest before now
    → Gathers (rest ++ piece_text memories (piece_of piece)) left now next → Gathers (pieces_text memories (map piece_of (take (i + 1) pieces))) left before next
gathers_piece memories pieces i piece rest left before now next h is one other =
    let front = pieces_text memories (map piece_of (take i pieces)) in
    subst (λ (t : List ℕ). Gathers t left before next) (pieces_step memories pieces i piece h is)
    (gathers_more front rest (piece_text memories (piece_of piece)) left before now next one other)

-- or a write failed
pub fails_piece : (memories : List Memory) (pieces : List Piece) (i : ℕ) (piece : Piece) (rest : List ℕ) (before now next : World) → i < length pieces
    → piece ≡ get_or pieces i piece → Gathers (pieces_text memories (map piece_of (take i pieces))) rest before now
    → FailsAmong (rest ++ piece_text memories (piece_of piece)) now next → FailsAmong (pieces_text memories (map piece_of pieces)) before next
fails_piece memories pieces i piece rest before now next h is one other =
    let front = pieces_text memories (map piece_of (take i pieces)) in
    let here : FailsAmong (pieces_text memories (map piece_of (take (i + 1) pieces))) before next =
    subst (λ (t : List ℕ). FailsAmong t before next) (pieces_step memories pieces i piece h is)
    (fails_more front rest (piece_text memories (piece_of piece)) before now next one other) in
    let behind = pieces_text memories (map piece_of (drop (i + 1) pieces)) in
    subst (λ (t : List ℕ). FailsAmong t before next) (pieces_rest memories pieces (i + 1))
    (fails_longer (pieces_text memories (map piece_of (take (i + 1) pieces))) behind before next here)

-- ---- the last write

pub written_all : {X : Type 0} (r : Result X Failed) (text rest : List ℕ) (before now next : World) → Gathers text rest before now
    → OnOk r (WritesAll rest now next) → next.current ≡ current_after_transfer now.current r → now.faults ≤ next.faults → next.reads ≡ now.reads
    → OnOk r (Gathers text [] before next)
written_all (Ok x) text rest before now next one all current later reads =
    let last : Gathers (rest ++ []) [] now next =
    subst (λ (t : List ℕ). Gathers t [] now next) (sym (append-nil rest)) (gathers_all rest now next all current later reads) in
    subst (λ (t : List ℕ). Gathers t [] before next) (append-nil text) (gathers_more text rest [] [] before now next one last)
written_all (Err e) text rest before now next one all current later reads = all

pub written_some : {X : Type 0} (r : Result X Failed) (text rest : List ℕ) (before now next : World) → Gathers text rest before now
    → OnErr r (WritesSome rest now next) → OnErr r (Rose now.faults next.faults) → next.current ≡ current_after_transfer now.current r
    → now.faults ≤ next.faults → next.reads ≡ now.reads → OnErr r (FailsAmong text before next)
written_some (Ok x) text rest before now next one some rose current later reads = some
written_some (Err e) text rest before now next one some rose current later reads =
    let last : FailsAmong rest now next = record { some = some; rose = rose; current = current; later = later; reads = reads } in
    let behind = fails_longer rest [] now next last in
    subst (λ (t : List ℕ). FailsAmong t before next) (append-nil text) (fails_more text rest [] before now next one behind)

-- nothing waits any more
pub all_written : (text : List ℕ) (before now : World) → Gathers text [] before now → WritesAll text before now
all_written text before now g = subst (λ (t : List ℕ). WritesAll t before now) (sym (g.parts ∙ append-nil g.written)) g.told
