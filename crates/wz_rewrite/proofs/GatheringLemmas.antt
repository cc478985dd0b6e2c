-- Bytes that were written in part, and more bytes behind them.
use Rattle.std.proofs.Common.{◌≡◌, ℕ, ◌+◌, ◌-◌, ◌≤◌, List, ◌++◌, length, take, sym, ap, subst, ◌∙◌, arith, append_assoc, refl, append-nil}
use Rattle.std.proofs.lemmas.List.{length-append, take-append-le, take_all}
use Rattle.std.proofs.Math.Seq.{take-add}
use Rattle.std.proofs.lemmas.List.{drop-drop, drop_at, take_at, drop-take, take-take, take-append-drop, length-take, length-drop}
use Rattle.std.specs.Prelude.{Option, drop, [], Result, Ok, Err, OnErr}
use Rattle.std.specs.Option.{option_map}
use Rattle.wz_io.specs.World.{World, Current, Told, IsOpen, IsOpenOn}
use Rattle.wz_io.specs.Calls.{current_name, with_failure}
use Rattle.wz_io.specs.Writing.{told_after_writes, WritesAll}
use Rattle.wz_io.proofs.ToldLemmas.{writes-joined}
use Rattle.wz_io.specs.declared.files.Side.TheVariants.{Output}
use Rattle.wz_linear.specs.Bytes.{part}
use Rattle.wz_rewrite.specs.Gathering.{Gathers, FailsAmong}

-- two writes to one output
pub writes_more : (one other : List ℕ) (before now next : World) → WritesAll one before now → now.current ≡ before.current → WritesAll other now next
    → WritesAll (one ++ other) before next
writes_more one other before now next first same second =
    second
    ∙ ap (λ (c : Option Current). told_after_writes now.told (current_name c) other) same
    ∙ ap (λ (t : Told). told_after_writes t (current_name before.current) other) first
    ∙ writes-joined before.told (current_name before.current) one other

-- nothing was written yet
pub gathers_none : (bytes : List ℕ) (w : World) → Gathers bytes bytes w w
gathers_none bytes w = record { written = []; parts = refl; told = refl; current = refl; later = omega arith; reads = refl }

-- more bytes come behind those that waited
pub gathers_more : (bytes rest more left : List ℕ) (before now next : World) → Gathers bytes rest before now → Gathers (rest ++ more) left now next
    → Gathers (bytes ++ more) left before next
gathers_more bytes rest more left before now next one other = record {
  written = one.written ++ other.written;
  parts = ap (λ (t : List ℕ). t ++ more) one.parts
      ∙ append_assoc one.written rest more
      ∙ ap (λ (t : List ℕ). one.written ++ t) other.parts
      ∙ sym (append_assoc one.written other.written left);
  told = writes_more one.written other.written before now next one.told one.current other.told;
  current = other.current ∙ one.current;
  later = omega (arith, one.later, other.later);
  reads = other.reads ∙ one.reads;
}

-- all of them were written
pub gathers_all : (bytes : List ℕ) (before now : World) → WritesAll bytes before now → now.current ≡ before.current → before.faults ≤ now.faults
    → now.reads ≡ before.reads → Gathers bytes [] before now
gathers_all bytes before now told current later reads =
    record { written = bytes; parts = sym (append-nil bytes); told = told; current = current; later = later; reads = reads }

-- a write failed among the bytes that waited and more behind them
pub fails_more : (bytes rest more : List ℕ) (before now next : World) → Gathers bytes rest before now → FailsAmong (rest ++ more) now next
    → FailsAmong (bytes ++ more) before next
fails_more bytes rest more before now next one other =
    let n = other.some.0 in
    let front = one.written in
    let parts : bytes ++ more ≡ front ++ (rest ++ more) = ap (λ (t : List ℕ). t ++ more) one.parts ∙ append_assoc front rest more in
    let size : length (bytes ++ more) ≡ length front + length (rest ++ more) = ap (λ (t : List ℕ). length t) parts ∙ length-append front (rest ++ more) in
    let taken : take (length front + n) (bytes ++ more) ≡ front ++ take n (rest ++ more) =
    ap (λ (t : List ℕ). take (length front + n) t) parts
    ∙ take-add (length front) n (front ++ (rest ++ more))
    ∙ ap (λ (t : List ℕ). t ++ take n (drop (length front) (front ++ (rest ++ more)))) (take_at front (rest ++ more) (length front) refl)
    ∙ ap (λ (t : List ℕ). front ++ take n t) (drop_at front (rest ++ more) (length front) refl) in
    let all : WritesAll (front ++ take n (rest ++ more)) before next = writes_more front (take n (rest ++ more)) before now next one.told one.current other.some.2 in
    record {
      some = (length front + n, omega (arith, size, other.some.1), subst (λ (t : List ℕ). WritesAll t before next) (sym taken) all);
      rose = omega (arith, one.later, other.rose);
      current = other.current ∙ ap (λ (c : Option Current). option_map with_failure c) one.current;
      later = omega (arith, one.later, other.later);
      reads = other.reads ∙ one.reads;
    }

-- and more bytes would have come
pub fails_longer : (bytes more : List ℕ) (before now : World) → FailsAmong bytes before now → FailsAmong (bytes ++ more) before now
fails_longer bytes more before now f =
    let n = f.some.0 in
    let few : n ≤ length bytes = omega (arith, f.some.1) in
    let taken : take n (bytes ++ more) ≡ take n bytes = take-append-le n bytes more few in
    let size = length-append bytes more in
    record {
      some = (n, omega (arith, size, f.some.1), subst (λ (t : List ℕ). WritesAll t before now) (sym taken) f.some.2);
      rose = f.rose;
      current = f.current;
      later = f.later;
      reads = f.reads;
    }

-- ---- one piece more, behind bytes that came in front

take_more : (front bytes : List ℕ) (done count : ℕ) → (front ++ take done bytes) ++ take count (drop done bytes) ≡ front ++ take (done + count) bytes
take_more front bytes done count =
    append_assoc front (take done bytes) (take count (drop done bytes)) ∙ ap (λ (t : List ℕ). front ++ t) (sym (take-add done count bytes))

-- the piece came into the buffer behind what waited there
filled_with : (front bytes rest piece filled : List ℕ) (done count : ℕ) (w : World) (Holds : List ℕ → World → Type 0)
    → filled ≡ rest ++ piece → piece ≡ take count (drop done bytes) → Holds filled w → Holds (rest ++ take count (drop done bytes)) w
filled_with front bytes rest piece filled done count w Holds is piece_is h =
    subst (λ (t : List ℕ). Holds t w) (is ∙ ap (λ (t : List ℕ). rest ++ t) piece_is) h

pub gathers_step : (front bytes rest piece filled left : List ℕ) (done count : ℕ) (before now next : World)
    → Gathers (front ++ take done bytes) rest before now → filled ≡ rest ++ piece → piece ≡ take count (drop done bytes) → Gathers filled left now next
    → Gathers (front ++ take (done + count) bytes) left before next
gathers_step front bytes rest piece filled left done count before now next one is piece_is other =
    let more = take count (drop done bytes) in
    let second : Gathers (rest ++ more) left now next = filled_with front bytes rest piece filled done count next (λ t w. Gathers t left now w) is piece_is other in
    subst (λ (t : List ℕ). Gathers t left before next) (take_more front bytes done count) (gathers_more (front ++ take done bytes) rest more left before now next one second)

pub fails_step : (front bytes rest piece filled : List ℕ) (done count : ℕ) (before now next : World)
    → Gathers (front ++ take done bytes) rest before now → filled ≡ rest ++ piece → piece ≡ take count (drop done bytes) → FailsAmong filled now next
    → FailsAmong (front ++ bytes) before next
fails_step front bytes rest piece filled done count before now next one is piece_is other =
    let more = take count (drop done bytes) in
    let second : FailsAmong (rest ++ more) now next = filled_with front bytes rest piece filled done count next (λ t w. FailsAmong t now w) is piece_is other in
    let some : FailsAmong (front ++ take (done + count) bytes) before next =
    subst (λ (t : List ℕ). FailsAmong t before next) (take_more front bytes done count) (fails_more (front ++ take done bytes) rest more before now next one second) in
    let all : (front ++ take (done + count) bytes) ++ drop (done + count) bytes ≡ front ++ bytes =
    append_assoc front (take (done + count) bytes) (drop (done + count) bytes) ∙ ap (λ (t : List ℕ). front ++ t) (take-append-drop (done + count) bytes) in
    subst (λ (t : List ℕ). FailsAmong t before next) all (fails_longer (front ++ take (done + count) bytes) (drop (done + count) bytes) before next some)

-- the output is still open
pub still_open : (bytes rest : List ℕ) (before now : World) → IsOpen Output before → Gathers bytes rest before now → IsOpen Output now
still_open bytes rest before now open_before g = subst (λ (c : Option Current). IsOpenOn Output c) (sym g.current) open_before

-- before the first piece, and behind the last one
pub gathers_first : (front bytes : List ℕ) (w : World) → Gathers (front ++ take 0 bytes) front w w
gathers_first front bytes w = subst (λ (t : List ℕ). Gathers t front w w) (sym (append-nil front)) (gathers_none front w)

pub gathers_last : (front bytes rest : List ℕ) (done : ℕ) (before now : World) → length bytes ≤ done → Gathers (front ++ take done bytes) rest before now
    → Gathers (front ++ bytes) rest before now
gathers_last front bytes rest done before now all g = subst (λ (t : List ℕ). Gathers (front ++ t) rest before now) (take_all done bytes all) g

-- ---- parts of ranges

pub part_piece : (memory : List ℕ) (from len done n : ℕ) → done + n ≤ len → part memory (from + done) n ≡ take n (drop done (part memory from len))
unfolding part
part_piece memory from len done n h =
    let e : len ≡ done + (len - done) = omega arith in
    rw (e, drop-take done (len - done) (drop from memory), take-take n (len - done) (drop done (drop from memory)) (omega arith), drop-drop done from memory) refl

pub length-part : (memory : List ℕ) (at count : ℕ) → at + count ≤ length memory → length (part memory at count) ≡ count
unfolding part
length-part memory at count h = omega (arith, length-take count (drop at memory), length-drop at memory)

-- ---- for answers

pub on_err : {X E P : Type 0} (r : Result X E) → P → OnErr r P
on_err (Ok x) h = tt
on_err (Err e) h = h

-- a piece of so many bytes, behind those that waited
pub copied : (waiting count : ℕ) (now rest piece : List ℕ) → take (waiting + length piece) now ≡ rest ++ piece → length piece ≡ count
    → take (waiting + count) now ≡ rest ++ piece
copied waiting count now rest piece is long = ap (λ (n : ℕ). take (waiting + n) now) (sym long) ∙ is

pub piece_is : (bytes : List ℕ) (done count : ℕ) → take (done + count - done) (drop done bytes) ≡ take count (drop done bytes)
piece_is bytes done count = let e : done + count - done ≡ count = omega arith in ap (λ (n : ℕ). take n (drop done bytes)) e

pub piece_length : (bytes : List ℕ) (done count : ℕ) → done + count ≤ length bytes → length (take (done + count - done) (drop done bytes)) ≡ count
piece_length bytes done count h = omega (arith, length-take (done + count - done) (drop done bytes), length-drop done bytes)
