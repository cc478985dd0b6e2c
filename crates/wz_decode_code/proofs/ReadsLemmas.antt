-- Reading symbol by symbol, with no fuel to speak of.
use Rattle.std.proofs.Common.{◌≡◌, ℕ, zero, suc, ◌≤◌, List, [], ◌∷◌, Option, Some, None, length, refl, ◌∙◌, arith}
use Rattle.wz_bytes.specs.Reading.{◌>>=◌}
use Rattle.wz_code.specs.Trees.{Code}
use Rattle.wz_decode_code.specs.Tokens.{Symbol, symbol_at}
use Rattle.wz_decode_code.specs.Reading.{Around, AfterSymbol, On, Complete, Misplaced, after_symbol, go_on, rest_at, reads}
use Rattle.wz_decode_code.proofs.SymbolLaws.{symbol_shorter}

go_same : (m n : Code → List Around → Option (Code × List ℕ)) (bytes : List ℕ) (next : AfterSymbol) → ((here : Code) (around : List Around) → m here around ≡ n here around)
    → go_on m bytes next ≡ go_on n bytes next
go_same m n bytes (On here around) h = h here around
go_same m n bytes (Complete code) h = refl
go_same m n bytes Misplaced h = refl

bind_same : {A B : Type 0} (r : Option A) (f g : A → Option B) → ((x : A) → r ≡ Some x → f x ≡ g x) → (r >>= f) ≡ (r >>= g)
bind_same None f g h = refl
bind_same (Some x) f g h = h x refl

rest_at_same : (f g : ℕ) (bytes : List ℕ) (here : Code) (around : List Around) → length bytes ≤ f → length bytes ≤ g → rest_at f bytes here around ≡ rest_at g bytes here around
unfolding rest_at symbol_at
rest_at_same zero zero bytes here around hf hg = refl
rest_at_same zero (suc g) [] here around hf hg = refl
rest_at_same zero (suc g) (b ∷ bytes) here around hf hg = absurd (omega arith)
rest_at_same (suc f) zero [] here around hf hg = refl
rest_at_same (suc f) zero (b ∷ bytes) here around hf hg = absurd (omega arith)
rest_at_same (suc f) (suc g) bytes here around hf hg =
    bind_same (symbol_at bytes) _ _ (λ t e. let s = symbol_shorter bytes t.0 t.1 e in
    go_same _ _ t.1 (after_symbol t.0 here around) (λ h a. rest_at_same f g t.1 h a (omega arith) (omega arith)))

pub reads_step : (bytes : List ℕ) (s : Symbol) (rest : List ℕ) (here : Code) (around : List Around) → symbol_at bytes ≡ Some (s, rest)
    → reads bytes here around ≡ go_on (λ h a. reads rest h a) rest (after_symbol s here around)
unfolding reads rest_at
reads_step bytes s rest here around e =
    let shorter = symbol_shorter bytes s rest e in
    let one : rest_at (length bytes) bytes here around ≡ rest_at (suc (length bytes)) bytes here around = rest_at_same (length bytes) (suc (length bytes)) bytes here around
    (omega arith) (omega arith) in
    let two : rest_at (suc (length bytes)) bytes here around ≡ go_on (λ h a. rest_at (length bytes) rest h a) rest (after_symbol s here around) = rw e refl in
    one ∙ two ∙ go_same (λ h a. rest_at (length bytes) rest h a) (λ h a. rest_at (length rest) rest h a) rest (after_symbol s here around)
    (λ h a. rest_at_same (length bytes) (length rest) rest h a (omega arith) (omega arith))

pub reads_none : (bytes : List ℕ) (here : Code) (around : List Around) → symbol_at bytes ≡ None → reads bytes here around ≡ None
unfolding reads rest_at
reads_none bytes here around e =
    let one : rest_at (length bytes) bytes here around ≡ rest_at (suc (length bytes)) bytes here around = rest_at_same (length bytes) (suc (length bytes)) bytes here around
    (omega arith) (omega arith) in
    let two : rest_at (suc (length bytes)) bytes here around ≡ None = rw e refl in
    one ∙ two
