-- The stack that the checker keeps stands for the stacks of the relation: what a rule makes of it, in both directions.
use Rattle.std.proofs.Common.{◌≡◌, ◌≤◌, ℕ, List, [], ◌∷◌, Option, Some, None, Bool, true, false, IsTrue, reverse, length, refl, ap, sym, subst, ◌∙◌, arith, if◌then◌else◌, ◌==◌}
use Rattle.std.specs.Prelude.{is_some}
use Rattle.std.proofs.lemmas.Bool.{eqb-true, eq-eqb}
use Rattle.std.proofs.lemmas.List.{length-reverse}
use Rattle.wz_types.specs.declared.types.ValType.{ValType}
use Rattle.wz_types.specs.declared.types.ValType.TheVariants.{I32}
use Rattle.wz_types.specs.SameType.{same_type}
use Rattle.wz_types.proofs.SameTypeLemmas.{same_type-itself, same_type-true}
use Rattle.wz_valid_code.specs.Operands.{Operand, Operands, fits, is_numeric, is_reference, Takes, pushed, Becomes}
use Rattle.wz_valid_code.specs.Rules.{TakesEach, AllLong, OneLength, Rule, Exchange, Stop, Choose, DropOne, SelectOne, TestReference, NoRule, Leads}
use Rattle.wz_valid_code.specs.Checking.{Known, after_taking, Popped, Got, Gone, after_popping, after_rule, left_with, then_give, then_stop, then_choose, each_taken, then_drop, then_test, common_type, if_number, then_common, then_second, then_select}

-- what may stand at a place of the relation's stack: where `least`, `any` alone stands for an unknown type
abbrev pub Place : Operand → Bool → Operand → Type 0
Place (Some t) least q = q ≡ Some t
Place None true q = q ≡ None
Place None false q = Unit {0}

-- THE fact of refinement: the relation's stack is the checker's, and goes on where that is used up and dead
abbrev pub Stands : Bool → Operands → Bool → Operands → Type 0
Stands least [] true s = Unit {0}
Stands least [] false s = s ≡ []
Stands least (k ∷ ks) dead [] = ⊥
Stands least (k ∷ ks) dead (q ∷ s) = Place k least q × Stands least ks dead s

pub place-any : (least : Bool) → Place None least None
place-any true = refl
place-any false = tt

if-true : {X : Type 0} (b : Bool) (x y : X) → IsTrue b → (if b then x else y) ≡ x
if-true true x y h = refl
if-true false x y h = absurd (cc)

-- a type that a known operand fits, fits the asked one
pub after_taking-complete : (least : Bool) (ts : List ValType) (ks : Operands) (dead : Bool) (s below : Operands) → Stands least ks dead s → Takes ts s below
    → (left : Operands) × (after_taking ts ks dead ≡ Some left) × Stands least left dead below
after_taking-complete least [] ks dead s below h t = (ks, refl, let P : Operands → Type 0 = λ x. Stands least ks dead x in subst P t h)
after_taking-complete least (a ∷ ts) [] true s below h t = ([], refl, tt)
after_taking-complete least (a ∷ ts) [] false [] below h t = absurd t
after_taking-complete least (a ∷ ts) [] false (q ∷ s) below h t = cc
after_taking-complete least (a ∷ ts) (k ∷ ks) dead [] below h t = absurd h
after_taking-complete least (a ∷ ts) (None ∷ ks) dead (q ∷ s) below h t = after_taking-complete least ts ks dead s below h.1 t.1
after_taking-complete least (a ∷ ts) (Some b ∷ ks) dead (q ∷ s) below h t =
    let r = after_taking-complete least ts ks dead s below h.1 t.1 in
    let ok : IsTrue (same_type b a) = (let P : Operand → Type 0 = λ x. IsTrue (fits x a) in subst P h.0 t.0) in
    (r.0, if-true (same_type b a) (after_taking ts ks dead) None ok ∙ r.1, r.2)

if-some : {X : Type 0} (b : Bool) (x : Option X) (y : X) → (if b then x else None) ≡ Some y → IsTrue b × (x ≡ Some y)
if-some true x y e = (refl, e)
if-some false x y e = absurd (cc)

-- as many operands of any type
abbrev pub anys : List ValType → Operands → Operands
anys [] below = below
anys (t ∷ ts) below = None ∷ anys ts below

anys-after_taking : (ts : List ValType) (below : Operands) → Takes ts (anys ts below) below
anys-after_taking [] below = refl
anys-after_taking (t ∷ ts) below = (refl, anys-after_taking ts below)

pub after_taking-sound : (least : Bool) (ts : List ValType) (ks left : Operands) (dead : Bool) (below : Operands) → after_taking ts ks dead ≡ Some left
    → Stands least left dead below → (s : Operands) × Stands least ks dead s × Takes ts s below
after_taking-sound least [] ks left dead below e h =
    let same_list : ks ≡ left = cc in
    let P : Operands → Type 0 = λ x. Stands least x dead below in
    (below, subst P (sym same_list) h, refl)
after_taking-sound least (a ∷ ts) [] left true below e h = (anys (a ∷ ts) below, tt, anys-after_taking (a ∷ ts) below)
after_taking-sound least (a ∷ ts) [] left false below e h = absurd (cc)
after_taking-sound least (a ∷ ts) (None ∷ ks) left dead below e h =
    let r = after_taking-sound least ts ks left dead below e h in
    (None ∷ r.0, (place-any least, r.1), (refl, r.2))
after_taking-sound least (a ∷ ts) (Some b ∷ ks) left dead below e h =
    let p = if-some (same_type b a) (after_taking ts ks dead) left e in
    let r = after_taking-sound least ts ks left dead below p.1 h in
    (Some b ∷ r.0, (refl, r.1), (p.0, r.2))

-- what is pushed is the same on both
pub pushed-stands : (least : Bool) (ts : List ValType) (ks : Operands) (dead : Bool) (s : Operands) → Stands least ks dead s → Stands least (pushed ts ks) dead (pushed ts s)
pushed-stands least [] ks dead s h = h
pushed-stands least (t ∷ ts) ks dead s h = pushed-stands least ts (Some t ∷ ks) dead (Some t ∷ s) (refl, h)

pub pushed-under : (least : Bool) (ts : List ValType) (ks : Operands) (dead : Bool) (m : Operands) → Stands least (pushed ts ks) dead m → (s : Operands) × (m ≡ pushed ts s)
    × Stands least ks dead s
pushed-under least [] ks dead m h = (m, refl, h)
pushed-under least (t ∷ ts) ks dead m h = under least t ts ks dead m (pushed-under least ts (Some t ∷ ks) dead m h)
  where
    under : (least : Bool) (t : ValType) (ts : List ValType) (ks : Operands) (dead : Bool) (m : Operands)
        → ((s : Operands) × (m ≡ pushed ts s) × Stands least (Some t ∷ ks) dead s) → (s : Operands) × (m ≡ pushed (t ∷ ts) s) × Stands least ks dead s
    under least t ts ks dead m ([], e, h) = absurd h
    under least t ts ks dead m ((q ∷ s), e, h) = (s, e ∙ ap (λ x. pushed ts (x ∷ s)) h.0, h.1)

-- the known operands, and then as many of any type
abbrev pub fill : Operands → Bool → List ValType → Operands
fill [] true ts = anys ts []
fill [] false ts = []
fill (k ∷ ks) dead ts = k ∷ fill ks dead ts

pub fill-stands : (least : Bool) (ks : Operands) (dead : Bool) (ts : List ValType) → Stands least ks dead (fill ks dead ts)
fill-stands least [] true ts = tt
fill-stands least [] false ts = refl
fill-stands least (None ∷ ks) dead ts = (place-any least, fill-stands least ks dead ts)
fill-stands least (Some t ∷ ks) dead ts = (refl, fill-stands least ks dead ts)

anys-more : (ts more : List ValType) → length ts ≤ length more → (below : Operands) × Takes ts (anys more []) below
anys-more [] more h = (anys more [], refl)
anys-more (t ∷ ts) [] h = absurd (omega arith)
anys-more (t ∷ ts) (m ∷ more) h = let r = anys-more ts more (omega arith) in (r.0, (refl, r.1))

pub fill-after_taking : (ts : List ValType) (ks left : Operands) (dead : Bool) (more : List ValType) → after_taking ts ks dead ≡ Some left → length ts ≤ length more
    → (below : Operands) × Takes ts (fill ks dead more) below
fill-after_taking [] ks left dead more e h = (fill ks dead more, refl)
fill-after_taking (t ∷ ts) [] left true more e h = anys-more (t ∷ ts) more h
fill-after_taking (t ∷ ts) [] left false more e h = absurd (cc)
fill-after_taking (t ∷ ts) (None ∷ ks) left dead more e h = let r = fill-after_taking ts ks left dead more e (omega arith) in (r.0, (refl, r.1))
fill-after_taking (t ∷ ts) (Some b ∷ ks) left dead more e h =
    let p = if-some (same_type b t) (after_taking ts ks dead) left e in
    let r = fill-after_taking ts ks left dead more p.1 (omega arith) in
    (r.0, (p.0, r.1))

-- one operand of any type
pub after_popping-complete : (least : Bool) (ks : Operands) (dead : Bool) (q : Operand) (s : Operands) → Stands least ks dead (q ∷ s) → (k : Operand) × (left : Operands)
    × (after_popping ks dead ≡ Got k left) × Place k false q × Stands least left dead s
after_popping-complete least [] true q s h = (None, [], refl, tt, tt)
after_popping-complete least [] false q s h = absurd (cc)
after_popping-complete least (None ∷ ks) dead q s h = (None, ks, refl, tt, h.1)
after_popping-complete least (Some t ∷ ks) dead q s h = (Some t, ks, refl, h.0, h.1)

place-itself : (least : Bool) (k : Operand) → Place k least k
place-itself least None = place-any least
place-itself least (Some t) = refl

pub after_popping-sound : (least : Bool) (ks : Operands) (dead : Bool) (k : Operand) (left s : Operands) → after_popping ks dead ≡ Got k left → Stands least left dead s
    → Stands least ks dead (k ∷ s)
after_popping-sound least [] true k left s e h = tt
after_popping-sound least [] false k left s e h = absurd (cc)
after_popping-sound least (a ∷ ks) dead k left s e h =
    let k_is : a ≡ k = cc in
    let left_is : left ≡ ks = cc in
    let P : Operand → Type 0 = λ x. Place a least x in
    let Q : Operands → Type 0 = λ x. Stands least x dead s in
    (subst P k_is (place-itself least a), subst Q left_is h)

both-true : (a b c : Bool) → IsTrue a → IsTrue b → IsTrue c → IsTrue (if a then (if b then c else false) else false)
both-true true true c ha hb hc = hc
both-true true false c ha hb hc = absurd (cc)
both-true false b c ha hb hc = absurd (cc)

both-parts : (a b c : Bool) → IsTrue (if a then (if b then c else false) else false) → IsTrue a × IsTrue b × IsTrue c
both-parts true true c h = (refl, refl, h)
both-parts true false c h = absurd (cc)
both-parts false b c h = absurd (cc)

-- the labels of a br_table
each-complete : (n : ℕ) (ls : List (List ValType)) (ks : Operands) (dead : Bool) (s : Operands) → Stands false ks dead s → TakesEach ls s → AllLong n ls
    → IsTrue (each_taken n ls ks dead)
each-complete n [] ks dead s h t long = refl
each-complete n (l ∷ ls) ks dead s h t long =
    let r = after_taking-complete false (reverse l) ks dead s t.0.0 h t.0.1 in
    both-true (length l == n) (is_some (after_taking (reverse l) ks dead)) (each_taken n ls ks dead)
    (eq-eqb (length l) n long.0) (ap is_some r.1) (each-complete n ls ks dead s h t.1 long.1)

after_taking-some : (o : Option Operands) → IsTrue (is_some o) → (left : Operands) × (o ≡ Some left)
after_taking-some None h = absurd (cc)
after_taking-some (Some left) h = (left, refl)

each-sound : (n : ℕ) (ls : List (List ValType)) (ks : Operands) (dead : Bool) (more : List ValType) → n ≡ length more → IsTrue (each_taken n ls ks dead)
    → TakesEach ls (fill ks dead more) × AllLong n ls
each-sound n [] ks dead more e h = (tt, tt)
each-sound n (l ∷ ls) ks dead more e h =
    let p = both-parts (length l == n) (is_some (after_taking (reverse l) ks dead)) (each_taken n ls ks dead) h in
    let long : length l ≡ n = eqb-true (length l) n p.0 in
    let left = after_taking-some (after_taking (reverse l) ks dead) p.1 in
    let fit : length (reverse l) ≤ length more = simp length-reverse (omega arith) in
    let rest = each-sound n ls ks dead more e p.2 in
    ((fill-after_taking (reverse l) ks left.0 dead more left.1 fit, rest.0), (long, rest.1))

-- select
becomes-itself : (q : Operand) → Becomes q q
becomes-itself None = tt
becomes-itself (Some t) = refl

common_type-complete : (k l q r t : Operand) → Place k false q → Place l false r → Becomes q t → Becomes r t → IsTrue (is_numeric t) → (j : Operand)
    × (common_type k l ≡ Some j) × Place j false t × IsTrue (is_numeric j)
common_type-complete None None q r t hk hl gq gr ok = (None, refl, tt, refl)
common_type-complete None (Some b) q r t hk hl gq gr ok =
    let P : Operand → Type 0 = λ x. Becomes x t in
    let is : t ≡ Some b = subst P hl gr in
    let Q : Operand → Type 0 = λ x. IsTrue (is_numeric x) in
    (Some b, refl, is, subst Q is ok)
common_type-complete (Some a) None q r t hk hl gq gr ok =
    let P : Operand → Type 0 = λ x. Becomes x t in
    let is : t ≡ Some a = subst P hk gq in
    let Q : Operand → Type 0 = λ x. IsTrue (is_numeric x) in
    (Some a, refl, is, subst Q is ok)
common_type-complete (Some a) (Some b) q r t hk hl gq gr ok =
    let P : Operand → Type 0 = λ x. Becomes x t in
    let is : t ≡ Some a = subst P hk gq in
    let also : t ≡ Some b = subst P hl gr in
    let Q : Operand → Type 0 = λ x. IsTrue (is_numeric x) in
    let one : a ≡ b = cc in
    let eq : IsTrue (same_type a b) = (let R : ValType → Type 0 = λ x. IsTrue (same_type a x) in subst R one (same_type-itself a)) in
    (Some a, if-true (same_type a b) (Some (Some a)) None eq, is, subst Q is ok)

common_type-sound : (k l j : Operand) → common_type k l ≡ Some j → Becomes k j × Becomes l j
common_type-sound None l j e =
    let P : Operand → Type 0 = λ x. Becomes l x in
    let is : l ≡ j = cc in
    (tt, subst P is (becomes-itself l))
common_type-sound (Some a) None j e = let is : j ≡ Some a = cc in (is, tt)
common_type-sound (Some a) (Some b) j e =
    let p = if-some (same_type a b) (Some (Some a)) j e in
    let one : a ≡ b = same_type-true a b p.0 in
    let is : j ≡ Some a = cc in
    let also : j ≡ Some b = cc in
    (is, also)

place-least : (j q : Operand) → Place j true q → q ≡ j
place-least None q h = h
place-least (Some t) q h = h

-- what an answer other than None was made of
give-back : (gives : List ValType) (dead : Bool) (o : Option Operands) (new : Known) → then_give gives dead o ≡ Some new → (left : Operands) × (o ≡ Some left)
    × (new ≡ record { items = pushed gives left; dead = dead })
give-back gives dead None new e = absurd (cc)
give-back gives dead (Some left) new e = (left, refl, cc)

stop-back : (o : Option Operands) (new : Known) → then_stop o ≡ Some new → (left : Operands) × (o ≡ Some left)
stop-back None new e = absurd (cc)
stop-back (Some left) new e = (left, refl)

choose-back : (ls : List (List ValType)) (dead : Bool) (o : Option Operands) (new : Known) → then_choose ls dead o ≡ Some new → (left : Operands) × (o ≡ Some left)
    × ((more : List ValType) × (TakesEach ls (fill left dead more)) × OneLength ls)
choose-back ls dead None new e = absurd (cc)
choose-back [] dead (Some left) new e = (left, refl, ([], tt, tt))
choose-back (l ∷ ls) dead (Some left) new e =
    let p = if-some (each_taken (length l) (l ∷ ls) left dead) (left_with [] true) new e in
    let r = each-sound (length l) (l ∷ ls) left dead l refl p.0 in
    (left, refl, (l, r.0, r.1.1))

drop-back : (dead : Bool) (o : Popped) (new : Known) → then_drop dead o ≡ Some new → (k : Operand) × (left : Operands) × (o ≡ Got k left)
    × (new ≡ record { items = left; dead = dead })
drop-back dead Gone new e = absurd (cc)
drop-back dead (Got k left) new e = (k, left, refl, cc)

test-back : (dead : Bool) (o : Popped) (new : Known) → then_test dead o ≡ Some new → (k : Operand) × (left : Operands) × (o ≡ Got k left) × IsTrue (is_reference k)
    × (new ≡ record { items = Some I32 ∷ left; dead = dead })
test-back dead Gone new e = absurd (cc)
test-back dead (Got k left) new e =
    let p = if-some (is_reference k) (left_with (Some I32 ∷ left) dead) new e in
    (k, left, refl, p.0, cc)

number-back : (s : Operands) (dead : Bool) (o : Option Operand) (new : Known) → if_number s dead o ≡ Some new → (j : Operand) × (o ≡ Some j) × IsTrue (is_numeric j)
    × (new ≡ record { items = j ∷ s; dead = dead })
number-back s dead None new e = absurd (cc)
number-back s dead (Some j) new e =
    let p = if-some (is_numeric j) (left_with (j ∷ s) dead) new e in
    (j, refl, p.0, cc)

-- a rule: the checker finds each stack that it leads to ..
pub after_rule-complete : (rule : Rule) (ks : Operands) (dead : Bool) (s m : Operands) → Stands false ks dead s → Leads rule s m → (new : Known)
    × (after_rule rule ks dead ≡ Some new) × Stands false new.items new.dead m
after_rule-complete (Exchange takes gives) ks dead s m h l =
    let r = after_taking-complete false (reverse takes) ks dead s l.0 h l.1 in
    let P : Operands → Type 0 = λ x. Stands false (pushed gives r.0) dead x in
    (record { items = pushed gives r.0; dead = dead }, ap (then_give gives dead) r.1, subst P (sym l.2) (pushed-stands false gives r.0 dead l.0 r.2))
after_rule-complete (Stop takes) ks dead s m h l =
    let r = after_taking-complete false (reverse takes) ks dead s l.0 h l.1 in
    (record { items = []; dead = true }, ap then_stop r.1, tt)
after_rule-complete (Choose ls) ks dead s m h l =
    let r = after_taking-complete false (I32 ∷ []) ks dead s l.0 h l.1 in
    (record { items = []; dead = true }, ap (then_choose ls dead) r.1 ∙ picked ls r.0 dead l.0 r.2 l.2 l.3, tt)
  where
    picked : (ls : List (List ValType)) (ks : Operands) (dead : Bool) (s : Operands) → Stands false ks dead s → TakesEach ls s → OneLength ls → then_choose ls dead (Some ks)
        ≡ Some (record { items = []; dead = true })
    picked [] ks dead s h t even = refl
    picked (l ∷ ls) ks dead s h t even = if-true (each_taken (length l) (l ∷ ls) ks dead) (Some (record { items = []; dead = true })) None
        (each-complete (length l) (l ∷ ls) ks dead s h t (refl, even))
after_rule-complete DropOne ks dead s m h l =
    let P : Operands → Type 0 = λ x. Stands false ks dead x in
    let r = after_popping-complete false ks dead l.0 m (subst P l.1 h) in
    (record { items = r.1; dead = dead }, ap (then_drop dead) r.2, r.4)
after_rule-complete SelectOne ks dead s m h (c, q, r, t, below, s_is, fit, gq, gr, ok, m_is) =
    let P : Operands → Type 0 = λ x. Stands false ks dead x in
    let one = after_taking-complete false (I32 ∷ []) ks dead (c ∷ q ∷ r ∷ below) (q ∷ r ∷ below) (subst P s_is h) (fit, refl) in
    let two = after_popping-complete false one.0 dead q (r ∷ below) one.2 in
    let three = after_popping-complete false two.1 dead r below two.4 in
    let j = common_type-complete two.0 three.0 q r t two.3 three.3 gq gr ok in
    let Q : Operands → Type 0 = λ x. Stands false (j.0 ∷ three.1) dead x in (
      record { items = j.0 ∷ three.1; dead = dead },
      ap (then_select dead) one.1 ∙ ap (then_second dead) two.2 ∙ ap (then_common dead two.0) three.2 ∙ ap (if_number three.1 dead) j.1
          ∙ if-true (is_numeric j.0) (left_with (j.0 ∷ three.1) dead) None j.3,
      subst Q (sym m_is) (j.2, three.4),
    )
after_rule-complete TestReference ks dead s m h (q, below, s_is, ok, m_is) =
    let P : Operands → Type 0 = λ x. Stands false ks dead x in
    let r = after_popping-complete false ks dead q below (subst P s_is h) in
    let Q : Operands → Type 0 = λ x. Stands false (Some I32 ∷ r.1) dead x in (
      record { items = Some I32 ∷ r.1; dead = dead },
      ap (then_test dead) r.2 ∙ if-true (is_reference r.0) (left_with (Some I32 ∷ r.1) dead) None (place-reference r.0 q r.3 ok),
      subst Q (sym m_is) (refl, r.4),
    )
  where
    place-reference : (k q : Operand) → Place k false q → IsTrue (is_reference q) → IsTrue (is_reference k)
    place-reference None q h ok = refl
    place-reference (Some t) q h ok = let R : Operand → Type 0 = λ x. IsTrue (is_reference x) in subst R h ok
after_rule-complete NoRule ks dead s m h l = absurd l

-- .. and each stack that it gives is led to
pub after_rule-sound : (rule : Rule) (ks : Operands) (dead : Bool) (new : Known) (m : Operands) → after_rule rule ks dead ≡ Some new → Stands true new.items new.dead m
    → (s : Operands) × Stands true ks dead s × Leads rule s m
after_rule-sound (Exchange takes gives) ks dead new m e h =
    let b = give-back gives dead (after_taking (reverse takes) ks dead) new e in
    let P : Known → Type 0 = λ x. Stands true x.items x.dead m in
    let under = pushed-under true gives b.0 dead m (subst P b.2 h) in
    let r = after_taking-sound true (reverse takes) ks b.0 dead under.0 b.1 under.2 in
    (r.0, r.1, (under.0, r.2, under.1))
after_rule-sound (Stop takes) ks dead new m e h =
    let b = stop-back (after_taking (reverse takes) ks dead) new e in
    let r = after_taking-sound true (reverse takes) ks b.0 dead (fill b.0 dead []) b.1 (fill-stands true b.0 dead []) in
    (r.0, r.1, (fill b.0 dead [], r.2))
after_rule-sound (Choose ls) ks dead new m e h =
    let b = choose-back ls dead (after_taking (I32 ∷ []) ks dead) new e in
    let below : Operands = fill b.0 dead b.2.0 in
    let r = after_taking-sound true (I32 ∷ []) ks b.0 dead below b.1 (fill-stands true b.0 dead b.2.0) in
    (r.0, r.1, (below, r.2, b.2.1, b.2.2))
after_rule-sound DropOne ks dead new m e h =
    let b = drop-back dead (after_popping ks dead) new e in
    let P : Known → Type 0 = λ x. Stands true x.items x.dead m in
    (b.0 ∷ m, after_popping-sound true ks dead b.0 b.1 m b.2 (subst P b.3 h), (b.0, refl))
after_rule-sound SelectOne ks dead new m e h = selected (after_taking (I32 ∷ []) ks dead) refl e
  where
    third : (q : Operand) (o : Popped) → then_common dead q o ≡ Some new → (k : Operand) × (left : Operands) × (o ≡ Got k left) × (if_number left dead (common_type q k) ≡ Some new)
    third q Gone e = absurd (cc)
    third q (Got k left) e = (k, left, refl, e)

    second : (o : Popped) → then_second dead o ≡ Some new → (k : Operand) × (left : Operands) × (o ≡ Got k left) × (then_common dead k (after_popping left dead) ≡ Some new)
    second Gone e = absurd (cc)
    second (Got k left) e = (k, left, refl, e)

    ends : (j : Operand) (ks : Operands) (m : Operands) → Stands true (j ∷ ks) dead m → (below : Operands) × (m ≡ j ∷ below) × Stands true ks dead below
    ends j ks [] h = absurd h
    ends j ks (q ∷ below) h = (below, ap (λ x. x ∷ below) (place-least j q h.0), h.1)

    selected : (o : Option Operands) → after_taking (I32 ∷ []) ks dead ≡ o → then_select dead o ≡ Some new → (s : Operands) × Stands true ks dead s × Leads SelectOne s m
    selected None is e = absurd (cc)
    selected (Some one) is e =
        let two = second (after_popping one dead) e in
        let three = third two.0 (after_popping two.1 dead) two.3 in
        let j = number-back three.1 dead (common_type two.0 three.0) new three.3 in
        let P : Known → Type 0 = λ x. Stands true x.items x.dead m in
        let end = ends j.0 three.1 m (subst P j.3 h) in
        let r = after_popping-sound true two.1 dead three.0 three.1 end.0 three.2 end.2 in
        let q = after_popping-sound true one dead two.0 two.1 (three.0 ∷ end.0) two.2 r in
        let c = after_taking-sound true (I32 ∷ []) ks one dead (two.0 ∷ three.0 ∷ end.0) is q in
        shown c.0 (two.0) (three.0) (j.0) end.0 c.1 c.2 (common_type-sound two.0 three.0 j.0 j.1) j.2 end.1
      where
        shown : (s : Operands) (q r t : Operand) (below : Operands) → Stands true ks dead s → Takes (I32 ∷ []) s (q ∷ r ∷ below) → Becomes q t × Becomes r t
            → IsTrue (is_numeric t) → m ≡ t ∷ below → (s : Operands) × Stands true ks dead s × Leads SelectOne s m
        shown [] q r t below h f g ok e = absurd f
        shown (c ∷ s) q r t below h f g ok e = (c ∷ s, h, (c, q, r, t, below, ap (λ x. c ∷ x) f.1, f.0, g.0, g.1, ok, e))
after_rule-sound TestReference ks dead new m e h =
    let b = test-back dead (after_popping ks dead) new e in
    let P : Known → Type 0 = λ x. Stands true x.items x.dead m in
    let end = tested b.1 m (subst P b.4 h) in
    (b.0 ∷ end.0, after_popping-sound true ks dead b.0 b.1 end.0 b.2 end.2, (b.0, end.0, refl, b.3, end.1))
  where
    tested : (left m : Operands) → Stands true (Some I32 ∷ left) dead m → (below : Operands) × (m ≡ Some I32 ∷ below) × Stands true left dead below
    tested left [] h = absurd h
    tested left (q ∷ below) h = (below, ap (λ x. x ∷ below) h.0, h.1)
after_rule-sound NoRule ks dead new m e h = absurd (cc)
