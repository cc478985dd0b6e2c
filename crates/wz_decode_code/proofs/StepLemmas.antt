-- What each token does to an expression that is being read.
use Rattle.std.proofs.Common.{◌≡◌, ◌≢◌, ℕ, ◌+◌, ◌<◌, ◌≤◌, List, [], ◌∷◌, ◌++◌, length, refl, sym, ap, subst, ◌∙◌, arith, All}
use Rattle.std.specs.Prelude.{reverse}
use Rattle.std.proofs.lemmas.List.{reverse-append}
use Rattle.std.proofs.lemmas.List.Elements.{All-nil, All-cons, All-head, All-tail}
use Rattle.wz_code.specs.declared.instr.Shape.{Shape}
use Rattle.wz_code.specs.declared.instr.Instr.{Instr}
use Rattle.wz_code.specs.declared.instr.Instr.TheVariants.{Block, Loop, If}
use Rattle.wz_code.specs.BodyParts.{BodyParts, with_instr, with_block, item_count}
use Rattle.wz_code.specs.Trees.{Code, End, Then, joined, tree_of, leaf_in, headed_in}
use Rattle.wz_code.specs.BlockRule.{named, times, InPools}
use Rattle.wz_code.specs.Laws.{InstrTaken, BlockTaken}
use Rattle.wz_code.proofs.LawLemmas.{times-append, times-here, not-times, held_is_there, taking_instr, taking_block, counts_instr, counts_block}
use Rattle.wz_decode_code.specs.declared.token.Token.{Token}
use Rattle.wz_decode_code.specs.declared.token.Token.TheVariants as token
use Rattle.wz_decode_code.specs.declared.blocks.Kind.{Kind}
use Rattle.wz_decode_code.specs.declared.blocks.Kind.TheVariants as kind
use Rattle.wz_decode_code.specs.declared.blocks.Open.{Open}
use Rattle.wz_decode_code.specs.Reading.{BlockPart, OfSecond, Around, node, On, after_symbol}
use Rattle.wz_decode_code.specs.Opened.{part_of, around_of, arounds, first_arm_of, unnamed_around, unnamed_blocks, ParentsRise, IsReading, node_of, seen_in, NamesNone, TokenFits}

-- ---- what is around stays

part_same : (A B : BodyParts) (b : ℕ) → ((n : ℕ) → n ≢ b → tree_of A n ≡ tree_of B n) → (k : Kind) (rest : List ℕ) → All (λ n. n ≢ b) (first_arm_of k ++ rest)
    → (part_of A k ≡ part_of B k) × All (λ n. n ≢ b) rest
part_same A B b agree kind.Block rest h = (refl, h)
part_same A B b agree kind.Loop rest h = (refl, h)
part_same A B b agree kind.First rest h = (refl, h)
part_same A B b agree (kind.Second first) rest h =
    let Other : ℕ → Type 0 = λ n. n ≢ b in
    (ap (λ (c : Code). OfSecond c) (agree first (All-head Other first rest h)), All-tail Other first rest h)

around_is : (p q : BlockPart) (s : Shape) (c d : Code) → p ≡ q → c ≡ d
    → (let x : Around = record { part = p; shape = s; before = c } in x) ≡ record { part = q; shape = s; before = d }
around_is p q s c d e f = rw (e, f) refl

arounds_same : (A B : BodyParts) (b : ℕ) → ((n : ℕ) → n ≢ b → tree_of A n ≡ tree_of B n) → (opens : List Open) → All (λ n. n ≢ b) (unnamed_around opens)
    → arounds A opens ≡ arounds B opens
arounds_same A B b agree [] h = refl
arounds_same A B b agree (o ∷ opens) h =
    let Other : ℕ → Type 0 = λ n. n ≢ b in
    let p = part_same A B b agree o.kind (o.parent ∷ unnamed_around opens) h in
    let before = agree o.parent (All-head Other o.parent (unnamed_around opens) p.1) in
    let first : around_of A o ≡ around_of B o = around_is (part_of A o.kind) (part_of B o.kind) o.shape (tree_of A o.parent) (tree_of B o.parent) p.0 before in
    cc (first, arounds_same A B b agree opens (All-tail Other o.parent (unnamed_around opens) p.1))

part_all : (A B : BodyParts) → ((n : ℕ) → tree_of A n ≡ tree_of B n) → (k : Kind) → part_of A k ≡ part_of B k
part_all A B agree kind.Block = refl
part_all A B agree kind.Loop = refl
part_all A B agree kind.First = refl
part_all A B agree (kind.Second first) = ap (λ (c : Code). OfSecond c) (agree first)

pub arounds_all : (A B : BodyParts) → ((n : ℕ) → tree_of A n ≡ tree_of B n) → (opens : List Open) → arounds A opens ≡ arounds B opens
arounds_all A B agree [] = refl
arounds_all A B agree (o ∷ opens) =
    let first : around_of A o ≡ around_of B o = around_is (part_of A o.kind) (part_of B o.kind) o.shape (tree_of A o.parent) (tree_of B o.parent) (part_all A B agree o.kind)
    (agree o.parent) in
    cc (first, arounds_all A B agree opens)

-- ---- a plain instruction

here_held : (here : ℕ) (opens : List Open) → 1 ≤ times here (unnamed_blocks here opens)
here_held here opens = omega (arith, times-here here (unnamed_around opens))

pub here_within : (body : BodyParts) (here : ℕ) (opens : List Open) → IsReading body here opens → here < length body.blocks
here_within body here opens reading = (held_is_there body (unnamed_blocks here opens) here reading.building (here_held here opens)).0

none_named : (instr : Instr) → NamesNone instr → named instr ≡ []
none_named (Block shape body) h = absurd h
none_named (Loop shape body) h = absurd h
none_named (If shape first second) h = absurd h
none_named instr h = refl

none_headed : (body : BodyParts) (instr : Instr) → NamesNone instr → headed_in body instr End ≡ Then (leaf_in body instr) End
none_headed body (Block shape b) h = absurd h
none_headed body (Loop shape b) h = absurd h
none_headed body (If shape first second) h = absurd h
none_headed body instr h = refl

-- what holds after a step: an expression is still being read, its innermost block is this code, and this stands around it
pub record Holds (body : BodyParts) (here : ℕ) (opens : List Open) (c : Code) (outside : List Around) : Type 0 where
  pub reading : IsReading body here opens
  pub code : tree_of body here ≡ c
  pub around : arounds body opens ≡ outside

plain_holds : (body : BodyParts) (here : ℕ) (opens : List Open) (instr : Instr) → IsReading body here opens → NamesNone instr → InPools body.labels body.types instr
    → Holds (with_instr body here instr) here opens (joined (tree_of body here) (Then (leaf_in body instr) End)) (arounds body opens)
plain_holds body here opens instr reading none pools =
    let e = none_named instr none in
    let there = held_is_there body (unnamed_blocks here opens) here reading.building (here_held here opens) in
    let away : All (λ n. n ≢ here) (unnamed_around opens) = not-times here (unnamed_around opens) (omega (arith, times-here here (unnamed_around opens), there.1)) in
    let taken : InstrTaken body here instr (unnamed_blocks here opens) = taking_instr body (unnamed_blocks here opens) here instr (unnamed_blocks here opens) reading.building
    (record { held = here_held here opens; rises = rw e (All-nil (λ k. here < k)); pools = pools; moved = λ k. rw e (omega arith) }) in
    record {
      reading = record { building = taken.building; rises = reading.rises };
      code = taken.here ∙ ap (λ (c : Code). joined (tree_of body here) c) (none_headed body instr none);
      around = arounds_same (with_instr body here instr) body here (λ n h. taken.elsewhere n h) opens away;
    }

-- ---- a block begins

opened_holds : (body : BodyParts) (here : ℕ) (opens : List Open) (o : Open) → IsReading body here opens → o.parent ≡ here → first_arm_of o.kind ≡ []
    → Holds (with_block body) (length body.blocks) (o ∷ opens) End (record { part = part_of body o.kind; shape = o.shape; before = tree_of body here } ∷ arounds body opens)
opened_holds body here opens o reading parent none =
    let within = here_within body here opens reading in
    let below : o.parent < length body.blocks = rw parent within in
    let rising : ParentsRise o.parent opens = rw parent reading.rises in
    let taken : BlockTaken body (unnamed_blocks (length body.blocks) (o ∷ opens)) = taking_block body (unnamed_blocks here opens)
    (unnamed_blocks (length body.blocks) (o ∷ opens)) reading.building (λ k. rw (none, parent) refl) in
    record {
      reading = record { building = taken.building; rises = (below, rw none (All-nil (λ k. o.parent < k)), rising) };
      code = taken.here;
      around = arounds_all (with_block body) body (λ n. taken.elsewhere n) (o ∷ opens)
          ∙ ap (λ (n : ℕ). record { part = part_of body o.kind; shape = o.shape; before = tree_of body n } ∷ arounds body opens) parent;
    }

-- the second arm of an if begins
second_holds : (body : BodyParts) (here : ℕ) (opens : List Open) (o now : Open) → IsReading body here (o ∷ opens) → o.kind ≡ kind.First → now.kind ≡ kind.Second here
    → now.shape ≡ o.shape → now.parent ≡ o.parent
    → Holds (with_block body) (length body.blocks) (now ∷ opens) End
    (record { part = OfSecond (tree_of body here); shape = o.shape; before = tree_of body o.parent } ∷ arounds body opens)
second_holds body here opens o now reading was is shape parent =
    let within = here_within body here (o ∷ opens) reading in
    let behind = All-cons (λ k. o.parent < k) here [] reading.rises.0 (All-nil (λ k. o.parent < k)) in
    let below : now.parent < length body.blocks = rw parent (omega arith) in
    let rising : ParentsRise now.parent opens = rw parent reading.rises.2 in
    let before : unnamed_blocks here (o ∷ opens) ≡ here ∷ o.parent ∷ unnamed_around opens = rw was refl in
    let now_held : unnamed_blocks (length body.blocks) (now ∷ opens) ≡ length body.blocks ∷ here ∷ o.parent ∷ unnamed_around opens = rw (is, parent) refl in
    let taken : BlockTaken body (unnamed_blocks (length body.blocks) (now ∷ opens)) = taking_block body (unnamed_blocks here (o ∷ opens))
    (unnamed_blocks (length body.blocks) (now ∷ opens)) reading.building
    (λ k. ap (λ (h : List ℕ). times k h) now_held ∙ ap (λ (h : List ℕ). times k (length body.blocks ∷ h)) (sym before)) in
    record {
      reading = record { building = taken.building; rises = (below, rw (is, parent) behind, rising) };
      code = taken.here;
      around = arounds_all (with_block body) body (λ n. taken.elsewhere n) (now ∷ opens) ∙ rw (is, shape, parent) refl;
    }

-- ---- a block ends

node_headed : (body : BodyParts) (k : Kind) (shape : Shape) (here : ℕ) → headed_in body (node_of k shape here) End ≡ node (part_of body k) shape (tree_of body here)
node_headed body kind.Block shape here = refl
node_headed body kind.Loop shape here = refl
node_headed body kind.First shape here = refl
node_headed body (kind.Second first) shape here = refl

node_names : (P : ℕ → Type 0) (k : Kind) (shape : Shape) (here : ℕ) → P here → All P (first_arm_of k) → All P (named (node_of k shape here))
node_names P kind.Block shape here h ps = All-cons P here [] h (All-nil P)
node_names P kind.Loop shape here h ps = All-cons P here [] h (All-nil P)
node_names P kind.First shape here h ps = All-cons P here [] h (All-nil P)
node_names P (kind.Second first) shape here h ps = All-cons P first (here ∷ []) (All-head P first [] ps) (All-cons P here [] h (All-nil P))

node_moves : (k : Kind) (shape : Shape) (here n : ℕ) (rest : List ℕ) → times n (named (node_of k shape here)) + times n rest ≡ times n (here ∷ (first_arm_of k ++ rest))
node_moves kind.Block shape here n rest = omega arith
node_moves kind.Loop shape here n rest = omega arith
node_moves kind.First shape here n rest = omega arith
node_moves (kind.Second first) shape here n rest = omega arith

node_pools : (labels : List ℕ) (types : List _) (k : Kind) (shape : Shape) (here : ℕ) → InPools labels types (node_of k shape here)
node_pools labels types kind.Block shape here = tt
node_pools labels types kind.Loop shape here = tt
node_pools labels types kind.First shape here = tt
node_pools labels types (kind.Second first) shape here = tt

parent_held : (here : ℕ) (opens : List Open) (o : Open) → 1 ≤ times o.parent (unnamed_blocks here (o ∷ opens))
parent_held here opens o = omega (arith, times-append o.parent (first_arm_of o.kind) (o.parent ∷ unnamed_around opens), times-here o.parent (unnamed_around opens))

parent_within : (body : BodyParts) (here : ℕ) (opens : List Open) (o : Open) → IsReading body here (o ∷ opens) → o.parent < length body.blocks
parent_within body here opens o reading = (held_is_there body (unnamed_blocks here (o ∷ opens)) o.parent reading.building (parent_held here opens o)).0

closed_holds : (body : BodyParts) (here : ℕ) (opens : List Open) (o : Open) → IsReading body here (o ∷ opens)
    → Holds (with_instr body o.parent (node_of o.kind o.shape here)) o.parent opens (joined (tree_of body o.parent) (node (part_of body o.kind) o.shape (tree_of body here)))
    (arounds body opens)
closed_holds body here opens o reading =
    let b = o.parent in
    let instr = node_of o.kind o.shape here in
    let there = held_is_there body (unnamed_blocks here (o ∷ opens)) b reading.building (parent_held here opens o) in
    let away : All (λ n. n ≢ b) (unnamed_around opens) = not-times b (unnamed_around opens)
    (omega (arith, times-append b (first_arm_of o.kind) (b ∷ unnamed_around opens), times-here b (unnamed_around opens), there.1)) in
    let taken : InstrTaken body b instr (unnamed_blocks b opens) = taking_instr body (unnamed_blocks here (o ∷ opens)) b instr (unnamed_blocks b opens) reading.building (record {
      held = parent_held here opens o;
      rises = node_names (λ k. b < k) o.kind o.shape here reading.rises.0 reading.rises.1;
      pools = node_pools body.labels body.types o.kind o.shape here;
      moved = λ k. node_moves o.kind o.shape here k (b ∷ unnamed_around opens);
    }) in
    record {
      reading = record { building = taken.building; rises = reading.rises.2 };
      code = taken.here ∙ ap (λ (c : Code). joined (tree_of body b) c) (node_headed body o.kind o.shape here);
      around = arounds_same (with_instr body b instr) body b (λ n h. taken.elsewhere n h) opens away;
    }

-- the expression as a whole
pub whole : (body : BodyParts) (here : ℕ) → IsReading body here [] → (here ≡ 0) × IsReading body 0 []
whole body here reading = (reading.rises, subst (λ (n : ℕ). IsReading body n []) reading.rises reading)

-- ---- the steps as the code makes them: open blocks stand in a vector, the innermost last

reverse_push : (xs : List Open) (o : Open) → reverse (xs ++ o ∷ []) ≡ o ∷ reverse xs
reverse_push xs o = reverse-append xs (o ∷ [])

abbrev Goal : Token → BodyParts → ℕ → List Open → BodyParts → ℕ → List Open → Type 0
Goal t old was before new here opens = IsReading new here opens × (after_symbol (seen_in old t) (tree_of old was) (arounds old before) ≡ On (tree_of new here) (arounds new opens))

follow : (t : Token) (old : BodyParts) (was : ℕ) (before : List Open) (new : BodyParts) (here : ℕ) (opens : List Open) (c : Code) (outside : List Around)
    → Holds new here opens c outside → after_symbol (seen_in old t) (tree_of old was) (arounds old before) ≡ On c outside → Goal t old was before new here opens
follow t old was before new here opens c outside holds e = (holds.reading, e ∙ rw (holds.code, holds.around) refl)

pub plain_follows : (old new : BodyParts) (here : ℕ) (opens : List Open) (t : Token) (instr : Instr) → IsReading old here opens → TokenFits old t → t ≡ token.Plain instr
    → new ≡ with_instr old here instr
    → Goal t old here opens new here opens
plain_follows old new here opens t instr reading fits is grown =
    let fit = rw is at fits in
    let holds = plain_holds old here opens instr reading fit.0 fit.1 in
    subst (λ (n : BodyParts). Goal t old here opens n here opens) (sym grown)
    (follow t old here opens (with_instr old here instr) here opens (joined (tree_of old here) (Then (leaf_in old instr) End)) (arounds old opens) holds (rw is refl))

pub begin_follows : (old new : BodyParts) (here inner : ℕ) (xs ys : List Open) (o : Open) (t : Token) → IsReading old here (reverse xs) → o.parent ≡ here → first_arm_of o.kind ≡ []
    → inner ≡ length old.blocks → new ≡ with_block old → ys ≡ xs ++ o ∷ []
    → after_symbol (seen_in old t) (tree_of old here) (arounds old (reverse xs)) ≡ On End
    (record { part = part_of old o.kind; shape = o.shape; before = tree_of old here } ∷ arounds old (reverse xs))
    → Goal t old here (reverse xs) new inner (reverse ys)
begin_follows old new here inner xs ys o t reading parent none number grown pushed e =
    let holds = opened_holds old here (reverse xs) o reading parent none in
    rw (number, grown, pushed, reverse_push xs o)
    (follow t old here (reverse xs) (with_block old) (length old.blocks) (o ∷ reverse xs) End
    (record { part = part_of old o.kind; shape = o.shape; before = tree_of old here } ∷ arounds old (reverse xs)) holds e)

pub second_follows : (old new : BodyParts) (here inner : ℕ) (xs mid ys : List Open) (o now : Open) (t : Token) → IsReading old here (reverse xs) → xs ≡ mid ++ o ∷ []
    → o.kind ≡ kind.First
    → now.kind ≡ kind.Second here → now.shape ≡ o.shape → now.parent ≡ o.parent → t ≡ token.Else
    → inner ≡ length old.blocks → new ≡ with_block old → ys ≡ mid ++ now ∷ [] → Goal t old here (reverse xs) new inner (reverse ys)
second_follows old new here inner xs mid ys o now t reading popped was is shape parent else_is number grown pushed =
    let before : reverse xs ≡ o ∷ reverse mid = ap (λ (l : List Open). reverse l) popped ∙ reverse_push mid o in
    let reading_o = rw before at reading in
    let holds = second_holds old here (reverse mid) o now reading_o was is shape parent in
    rw (number, grown, pushed, before, reverse_push mid now)
    (follow t old here (o ∷ reverse mid) (with_block old) (length old.blocks) (now ∷ reverse mid) End
    (record { part = OfSecond (tree_of old here); shape = o.shape; before = tree_of old o.parent } ∷ arounds old (reverse mid)) holds (rw (else_is, was) refl))

pub end_follows : (old new : BodyParts) (here : ℕ) (xs mid : List Open) (o : Open) (t : Token) → IsReading old here (reverse xs) → xs ≡ mid ++ o ∷ [] → t ≡ token.End
    → new ≡ with_instr old o.parent (node_of o.kind o.shape here) → Goal t old here (reverse xs) new o.parent (reverse mid)
end_follows old new here xs mid o t reading popped end_is grown =
    let before : reverse xs ≡ o ∷ reverse mid = ap (λ (l : List Open). reverse l) popped ∙ reverse_push mid o in
    let reading_o = rw before at reading in
    let holds = closed_holds old here (reverse mid) o reading_o in
    rw (grown, before)
    (follow t old here (o ∷ reverse mid) (with_instr old o.parent (node_of o.kind o.shape here)) o.parent (reverse mid)
    (joined (tree_of old o.parent) (node (part_of old o.kind) o.shape (tree_of old here))) (arounds old (reverse mid)) holds (rw end_is refl))

pub end_within : (old : BodyParts) (here : ℕ) (xs mid : List Open) (o : Open) → IsReading old here (reverse xs) → xs ≡ mid ++ o ∷ [] → o.parent < length old.blocks
end_within old here xs mid o reading popped =
    let before : reverse xs ≡ o ∷ reverse mid = ap (λ (l : List Open). reverse l) popped ∙ reverse_push mid o in
    parent_within old here (reverse mid) o (rw before at reading)

-- ---- each step adds one item at most

pub room_instr : (old new : BodyParts) (b : ℕ) (instr : Instr) → b < length old.blocks → new ≡ with_instr old b instr → item_count new ≤ item_count old + 1
room_instr old new b instr within is = omega (arith, ap (λ (body : BodyParts). item_count body) is, counts_instr old b instr within)

pub room_block : (old new : BodyParts) → new ≡ with_block old → item_count new ≤ item_count old + 1
room_block old new is = omega (arith, ap (λ (body : BodyParts). item_count body) is, counts_block old)
