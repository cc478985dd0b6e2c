-- The loop over symbols.
use Rattle.std.proofs.Common.{◌≡◌, ℕ, ◌+◌, ◌-◌, ◌<◌, ◌≤◌, List, [], ◌∷◌, Option, Some, None, length, drop, refl, sym, ap, ◌∙◌, arith}
use Rattle.std.specs.Prelude.{IfSome, IsNone}
use Rattle.std.proofs.lemmas.List.{drop_at, length-append}
use Rattle.wz_bytes.specs.Reading.{NoFront}
use Rattle.wz_bytes.specs.Forms.{IsPiece}
use Rattle.wz_bytes.specs.Place.{Place, Passes}
use Rattle.wz_bytes.proofs.ReadingLemmas.{none_stands, rest_no_longer}
use Rattle.wz_code.specs.BodyParts.{BodyParts, no_parts}
use Rattle.wz_code.specs.Trees.{Code, End, tree_by, tree_in, tree_of}
use Rattle.wz_code.specs.BlockRule.{IsBuilding}
use Rattle.wz_decode_code.specs.declared.token.Token.{Token}
use Rattle.wz_decode_code.specs.declared.blocks.Open.{Open}
use Rattle.wz_decode_code.specs.Tokens.{symbol_at}
use Rattle.wz_decode_code.specs.Reading.{Around, AfterSymbol, On, Complete, Misplaced, after_symbol, go_on, reads, expression_at}
use Rattle.wz_decode_code.specs.Opened.{arounds, unnamed_blocks, IsReading, seen_in}
use Rattle.wz_decode_code.specs.Pools.{SymbolRead}
use Rattle.wz_decode_code.specs.Code.{IsExpression}
use Rattle.wz_decode_code.proofs.CodeLaws.{expression_exact}
use Rattle.wz_decode_code.proofs.ReadsLemmas.{reads_step, reads_none}
use Rattle.wz_decode_code.proofs.PoolLemmas.{grown_stays, grown_locals}
use Rattle.wz_decode_code.proofs.StepLemmas.{arounds_all}

pub start_tree : tree_of no_parts 0 ≡ End
unfolding tree_in tree_by
start_tree = refl

pub start_reading : (body : BodyParts) → IsBuilding body (0 ∷ []) → IsReading body 0 []
start_reading body building = record { building = building; rises = refl }

-- the symbol is read, and its step is to be done
pub record Stepping (body : BodyParts) (here : ℕ) (opens : List Open) (token : Token) (rest : List ℕ) (whole : Option (Code × List ℕ)) : Type 0 where
  pub reading : IsReading body here opens
  pub next : go_on (λ h a. reads rest h a) rest (after_symbol (seen_in body token) (tree_of body here) (arounds body opens)) ≡ whole

pub stepping : (bytes rest : List ℕ) (old new : BodyParts) (token : Token) (here : ℕ) (opens : List Open) (whole : Option (Code × List ℕ)) → SymbolRead bytes old new token rest
    → IsReading old here opens
    → reads bytes (tree_of old here) (arounds old opens) ≡ whole → Stepping new here opens token rest whole
stepping bytes rest old new token here opens whole s reading so_far =
    let stays = grown_stays old new (unnamed_blocks here opens) reading.building s.grown in
    let code : tree_of new here ≡ tree_of old here = stays.trees here in
    let around : arounds new opens ≡ arounds old opens = arounds_all new old (λ n. stays.trees n) opens in
    record {
      reading = record { building = stays.building; rises = reading.rises };
      next = rw (code, around) (sym (reads_step bytes (seen_in new token) rest (tree_of old here) (arounds old opens) s.read) ∙ so_far);
    }

pub goes_on : (body : BodyParts) (here : ℕ) (opens : List Open) (token : Token) (rest : List ℕ) (whole : Option (Code × List ℕ)) (now : Code) (outside : List Around)
    → Stepping body here opens token rest whole
    → after_symbol (seen_in body token) (tree_of body here) (arounds body opens) ≡ On now outside → reads rest now outside ≡ whole
goes_on body here opens token rest whole now outside s e = ap (λ (n : AfterSymbol). go_on (λ h a. reads rest h a) rest n) (sym e) ∙ s.next

pub is_done : (body : BodyParts) (here : ℕ) (opens : List Open) (token : Token) (rest : List ℕ) (whole : Option (Code × List ℕ)) (code : Code)
    → Stepping body here opens token rest whole
    → after_symbol (seen_in body token) (tree_of body here) (arounds body opens) ≡ Complete code → whole ≡ Some (code, rest)
is_done body here opens token rest whole code s e = sym s.next ∙ ap (λ (n : AfterSymbol). go_on (λ h a. reads rest h a) rest n) e

pub is_refused : (body : BodyParts) (here : ℕ) (opens : List Open) (token : Token) (rest : List ℕ) (whole : Option (Code × List ℕ)) → Stepping body here opens token rest whole
    → after_symbol (seen_in body token) (tree_of body here) (arounds body opens) ≡ Misplaced → whole ≡ None
is_refused body here opens token rest whole s e = sym s.next ∙ ap (λ (n : AfterSymbol). go_on (λ h a. reads rest h a) rest n) e

pub no_symbol : (bytes : List ℕ) (here : Code) (around : List Around) (whole : Option (Code × List ℕ)) → symbol_at bytes ≡ None → reads bytes here around ≡ whole → whole ≡ None
no_symbol bytes here around whole none so_far = sym so_far ∙ reads_none bytes here around none

pub symbol_locals : (bytes rest : List ℕ) (old new : BodyParts) (token : Token) → SymbolRead bytes old new token rest → new.locals ≡ old.locals
symbol_locals bytes rest old new token s = grown_locals old new s.grown

-- ---- from a cursor

taken_off : {Y : Type 0} (view : Y → List ℕ) (o : Option Y) (old new : Place) (n : ℕ) → IfSome o (λ y. Passes (λ t p. IsPiece n t p) (view y) old new)
    → (IsNone o → length old.left < n)
    → n ≤ length old.left → (new.left ≡ drop n old.left) × (new.total ≡ old.total)
taken_off view None old new n found none within = let less : length old.left < n = none refl in absurd (omega (arith, less, within))
taken_off view (Some y) old new n found none within =
    let size : length found.0.text ≡ n = ap (λ (l : List ℕ). length l) found.0.spelled.0 ∙ found.0.spelled.1 in
    (sym (ap (λ (l : List ℕ). drop n l) found.0.parts ∙ drop_at found.0.text new.left n size), found.1)

pub no_longer : (left rest : List ℕ) (code : Code) → expression_at left ≡ Some (code, rest) → length rest ≤ length left
no_longer left rest code e = rest_no_longer IsExpression left code rest (expression_exact.found left code rest e)

-- the cursor stands behind the expression that was read of its bytes
pub taken : {Y : Type 0} (view : Y → List ℕ) (o : Option Y) (old new : Place) (left rest : List ℕ) (code : Code) → left ≡ old.left → expression_at left ≡ Some (code, rest)
    → IfSome o (λ y. Passes (λ t p. IsPiece (length left - length rest) t p) (view y) old new) → (IsNone o → length old.left < length left - length rest)
    → (expression_at old.left ≡ Some (code, new.left)) × (new.total ≡ old.total)
taken view o old new left rest code is e found none =
    let f = expression_exact.found left code rest e in
    let size : length left ≡ length f.text + length rest = ap (λ (l : List ℕ). length l) f.parts ∙ length-append f.text rest in
    let off = taken_off view o old new (length left - length rest) found none (omega (arith, ap (λ (l : List ℕ). length l) is)) in
    let behind : drop (length left - length rest) old.left ≡ rest = ap (λ (l : List ℕ). drop (length left - length rest) l) (sym is ∙ f.parts)
    ∙ drop_at f.text rest (length left - length rest) (omega (arith, size)) in
    (ap (λ (l : List ℕ). expression_at l) (sym is) ∙ e ∙ ap (λ (l : List ℕ). let x : Option (Code × List ℕ) = Some (code, l) in x) (sym (off.0 ∙ behind)), off.1)

pub passed : (old new : Place) (code : Code) → (expression_at old.left ≡ Some (code, new.left)) × (new.total ≡ old.total) → Passes IsExpression code old new
passed old new code h = (expression_exact.found old.left code new.left h.0, h.1)

pub none_stands_there : (old : Place) (left : List ℕ) → left ≡ old.left → expression_at left ≡ None → NoFront IsExpression old.left
none_stands_there old left is e = none_stands IsExpression (λ b. expression_at b) expression_exact old.left (ap (λ (l : List ℕ). expression_at l) (sym is) ∙ e)
