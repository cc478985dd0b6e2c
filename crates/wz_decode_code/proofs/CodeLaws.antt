-- What is read is spelled so, and what is spelled so is read.
use Rattle.std.proofs.Common.{◌≡◌, ℕ, zero, suc, List, [], ◌∷◌, ◌++◌, Some, length, refl, sym, ap, subst, ◌∙◌, append_assoc, inl, inr}
use Rattle.std.proofs.lemmas.List.{append-nil}
use Rattle.wz_bytes.specs.Reading.{Front, IsExact}
use Rattle.wz_bytes.proofs.ReadingLemmas.{bind_some, some_is}
use Rattle.wz_code.specs.declared.instr.Shape.{Shape}
use Rattle.wz_code.specs.Trees.{Code, End, Then, InBlock, InLoop, InIf, joined}
use Rattle.wz_code.proofs.TreeLemmas.{joined_end, joined_assoc}
use Rattle.wz_decode_code.specs.Types.{IsShape}
use Rattle.wz_decode_code.specs.Code.{Behind, IsSecond, IsCode, IsExpression}
use Rattle.wz_decode_code.specs.Tokens.{Symbol, Single, BeginsBlock, BeginsLoop, BeginsIf, Else, Ends, IsSymbol, symbol_at}
use Rattle.wz_decode_code.specs.Reading.{BlockPart, OfBlock, OfLoop, OfFirst, OfSecond, Around, node, AfterSymbol, On, after_symbol, go_on, rest_at, reads, expression_at}
use Rattle.wz_decode_code.proofs.SymbolLaws.{symbol_exact}
use Rattle.wz_decode_code.proofs.ReadsLemmas.{reads_step}

-- ---- what is spelled so is read

-- one token: what is read from here is what is read behind it
symbol_on : (text rest : List ℕ) (t : Symbol) (here now : Code) (around outside : List Around) → IsSymbol text t → after_symbol t here around ≡ On now outside
    → reads (text ++ rest) here around ≡ reads rest now outside
symbol_on text rest t here now around outside h e =
    reads_step (text ++ rest) t rest here around (symbol_exact.again text t rest h)
    ∙ ap (λ (n : AfterSymbol). go_on (λ h a. reads rest h a) rest n) e

-- a block whose opcode and shape have been read: its instructions, its end, and what follows it
held_again : (part : BlockPart) (shape : Shape) (inner more : Code) (text behind rest : List ℕ) (here : Code) (outside : List Around) → IsCode text inner → IsCode behind more
    → ((t rest : List ℕ) (here : Code) (outside : List Around) → IsCode t inner → reads (t ++ rest) here outside ≡ reads rest (joined here inner) outside)
    → ((t rest : List ℕ) (here : Code) (outside : List Around) → IsCode t more → reads (t ++ rest) here outside ≡ reads rest (joined here more) outside)
    → reads (text ++ (0x0B ∷ (behind ++ rest))) End (record { part = part; shape = shape; before = here } ∷ outside) ≡ reads rest
    (joined here (joined (node part shape inner) more)) outside
held_again part shape inner more text behind rest here outside is_inner is_more inner_again more_again =
    inner_again text (0x0B ∷ (behind ++ rest)) End (record { part = part; shape = shape; before = here } ∷ outside) is_inner
    ∙ symbol_on (0x0B ∷ []) (behind ++ rest) Ends inner (joined here (node part shape inner)) (record { part = part; shape = shape; before = here } ∷ outside) outside refl refl
    ∙ more_again behind rest (joined here (node part shape inner)) outside is_more
    ∙ ap (λ (c : Code). reads rest c outside) (joined_assoc here (node part shape inner) more)

held_parts : (kind inner behind rest : List ℕ) → (kind ++ (inner ++ 0x0B ∷ behind)) ++ rest ≡ kind ++ (inner ++ (0x0B ∷ (behind ++ rest)))
held_parts kind inner behind rest = append_assoc kind (inner ++ 0x0B ∷ behind) rest ∙ ap (λ (t : List ℕ). kind ++ t) (append_assoc inner (0x0B ∷ behind) rest)

second_again : (shape : Shape) (one two more : Code) (text behind rest : List ℕ) (here : Code) (outside : List Around) → IsSecond two (λ u. IsCode u two) text → IsCode behind more
    → ((t rest : List ℕ) (here : Code) (outside : List Around) → IsCode t two → reads (t ++ rest) here outside ≡ reads rest (joined here two) outside)
    → ((t rest : List ℕ) (here : Code) (outside : List Around) → IsCode t more → reads (t ++ rest) here outside ≡ reads rest (joined here more) outside)
    → reads (text ++ (0x0B ∷ (behind ++ rest))) one (record { part = OfFirst; shape = shape; before = here } ∷ outside) ≡ reads rest (joined here (InIf shape one two more)) outside
second_again shape one two more text behind rest here outside (inl none) is_more two_again more_again =
    rw (none.0, none.1)
    (symbol_on (0x0B ∷ []) (behind ++ rest) Ends one (joined here (InIf shape one End End)) (record { part = OfFirst; shape = shape; before = here } ∷ outside) outside refl refl
    ∙ more_again behind rest (joined here (InIf shape one End End)) outside is_more
    ∙ ap (λ (c : Code). reads rest c outside) (joined_assoc here (InIf shape one End End) more))
second_again shape one two more text behind rest here outside (inr some) is_more two_again more_again =
    rw some.1
    (symbol_on (0x05 ∷ []) (some.0 ++ (0x0B ∷ (behind ++ rest))) Else one End (record { part = OfFirst; shape = shape; before = here } ∷ outside)
    (record { part = OfSecond one; shape = shape; before = here } ∷ outside) refl refl
    ∙ held_again (OfSecond one) shape two more some.0 behind rest here outside some.2 is_more two_again more_again)

code_again : (code : Code) (text rest : List ℕ) (here : Code) (outside : List Around) → IsCode text code → reads (text ++ rest) here outside ≡ reads rest (joined here code) outside
code_again End text rest here outside h = rw (h, joined_end here) refl
code_again (Then i more) text rest here outside h =
    let first = h.0 in
    let others = h.1 in
    let parts : text ++ rest ≡ first ++ (others ++ rest) = ap (λ (t : List ℕ). t ++ rest) h.2 ∙ append_assoc first others rest in
    ap (λ (t : List ℕ). reads t here outside) parts
    ∙ symbol_on first (others ++ rest) (Single i) here (joined here (Then i End)) outside outside h.3 refl
    ∙ code_again more others rest (joined here (Then i End)) outside h.4
    ∙ ap (λ (c : Code). reads rest c outside) (joined_assoc here (Then i End) more)
code_again (InBlock s inner more) text rest here outside h =
    let k = h.2.0 in
    let i = h.2.1 in
    let b = h.2.2 in
    let after_shape = i ++ (0x0B ∷ (b ++ rest)) in
    let parts : text ++ rest ≡ (0x02 ∷ k) ++ after_shape = ap (λ (t : List ℕ). t ++ rest) h.1 ∙ ap (λ (t : List ℕ). 0x02 ∷ (t ++ rest)) h.2.3
    ∙ ap (λ (t : List ℕ). 0x02 ∷ t) (held_parts k i b rest) in
    ap (λ (t : List ℕ). reads t here outside) parts
    ∙ symbol_on (0x02 ∷ k) after_shape (BeginsBlock s) here End outside (record { part = OfBlock; shape = s; before = here } ∷ outside) (k, refl, h.2.4) refl
    ∙ held_again OfBlock s inner more i b rest here outside h.2.5 h.2.6 (code_again inner) (code_again more)
code_again (InLoop s inner more) text rest here outside h =
    let k = h.2.0 in
    let i = h.2.1 in
    let b = h.2.2 in
    let after_shape = i ++ (0x0B ∷ (b ++ rest)) in
    let parts : text ++ rest ≡ (0x03 ∷ k) ++ after_shape = ap (λ (t : List ℕ). t ++ rest) h.1 ∙ ap (λ (t : List ℕ). 0x03 ∷ (t ++ rest)) h.2.3
    ∙ ap (λ (t : List ℕ). 0x03 ∷ t) (held_parts k i b rest) in
    ap (λ (t : List ℕ). reads t here outside) parts
    ∙ symbol_on (0x03 ∷ k) after_shape (BeginsLoop s) here End outside (record { part = OfLoop; shape = s; before = here } ∷ outside) (k, refl, h.2.4) refl
    ∙ held_again OfLoop s inner more i b rest here outside h.2.5 h.2.6 (code_again inner) (code_again more)
code_again (InIf s one two more) text rest here outside h =
    let k = h.2.0 in
    let b = h.2.2 in
    let first = h.2.5.0 in
    let second = h.2.5.1 in
    let end = 0x0B ∷ (b ++ rest) in
    let arms : h.2.1 ++ end ≡ first ++ (second ++ end) = ap (λ (t : List ℕ). t ++ end) h.2.5.2 ∙ append_assoc first second end in
    let parts : text ++ rest ≡ (0x04 ∷ k) ++ (first ++ (second ++ end)) =
    ap (λ (t : List ℕ). t ++ rest) h.1 ∙ ap (λ (t : List ℕ). 0x04 ∷ (t ++ rest)) h.2.3 ∙ ap (λ (t : List ℕ). 0x04 ∷ t) (held_parts k h.2.1 b rest)
    ∙ ap (λ (t : List ℕ). 0x04 ∷ (k ++ t)) arms in
    ap (λ (t : List ℕ). reads t here outside) parts
    ∙ symbol_on (0x04 ∷ k) (first ++ (second ++ end)) (BeginsIf s) here End outside (record { part = OfFirst; shape = s; before = here } ∷ outside) (k, refl, h.2.4) refl
    ∙ code_again one first (second ++ end) End (record { part = OfFirst; shape = s; before = here } ∷ outside) h.2.5.3
    ∙ second_again s one two more second b rest here outside h.2.5.4 h.2.6 (code_again two) (code_again more)

-- an expression that is spelled is read
pub expression_again : (text : List ℕ) (code : Code) (rest : List ℕ) → IsExpression text code → expression_at (text ++ rest) ≡ Some (code, rest)
expression_again text code rest h =
    let parts : text ++ rest ≡ h.0 ++ (0x0B ∷ rest) = ap (λ (t : List ℕ). t ++ rest) h.1 ∙ append_assoc h.0 (0x0B ∷ []) rest in
    ap (λ (t : List ℕ). expression_at t) parts
    ∙ code_again code h.0 (0x0B ∷ rest) End [] h.2
    ∙ reads_step (0x0B ∷ rest) Ends rest code [] (symbol_exact.again (0x0B ∷ []) Ends rest refl)

-- ---- what is read is spelled so

code_append : (x y : Code) (a b : List ℕ) → IsCode a x → IsCode b y → IsCode (a ++ b) (joined x y)
code_append End y a b h k = rw h k
code_append (Then i more) y a b h k = (h.0, h.1 ++ b, ap (λ (t : List ℕ). t ++ b) h.2 ∙ append_assoc h.0 h.1 b, h.3, code_append more y h.1 b h.4 k)
code_append (InBlock s inner more) y a b h k = (
  h.2.0 ++ (h.2.1 ++ 0x0B ∷ (h.2.2 ++ b)),
  ap (λ (t : List ℕ). t ++ b) h.1 ∙ ap (λ (t : List ℕ). 0x02 ∷ (t ++ b)) h.2.3 ∙ ap (λ (t : List ℕ). 0x02 ∷ t) (held_parts h.2.0 h.2.1 h.2.2 b),
  (h.2.0, h.2.1, h.2.2 ++ b, refl, h.2.4, h.2.5, code_append more y h.2.2 b h.2.6 k),
)
code_append (InLoop s inner more) y a b h k = (
  h.2.0 ++ (h.2.1 ++ 0x0B ∷ (h.2.2 ++ b)),
  ap (λ (t : List ℕ). t ++ b) h.1 ∙ ap (λ (t : List ℕ). 0x03 ∷ (t ++ b)) h.2.3 ∙ ap (λ (t : List ℕ). 0x03 ∷ t) (held_parts h.2.0 h.2.1 h.2.2 b),
  (h.2.0, h.2.1, h.2.2 ++ b, refl, h.2.4, h.2.5, code_append more y h.2.2 b h.2.6 k),
)
code_append (InIf s one two more) y a b h k = (
  h.2.0 ++ (h.2.1 ++ 0x0B ∷ (h.2.2 ++ b)),
  ap (λ (t : List ℕ). t ++ b) h.1 ∙ ap (λ (t : List ℕ). 0x04 ∷ (t ++ b)) h.2.3 ∙ ap (λ (t : List ℕ). 0x04 ∷ t) (held_parts h.2.0 h.2.1 h.2.2 b),
  (h.2.0, h.2.1, h.2.2 ++ b, refl, h.2.4, h.2.5, code_append more y h.2.2 b h.2.6 k),
)

-- the bytes from a block's opcode up to its instructions
abbrev IsHead : BlockPart → Shape → List ℕ → Type 0
IsHead OfBlock shape head = Behind 0x02 (λ t. IsShape t shape) head
IsHead OfLoop shape head = Behind 0x03 (λ t. IsShape t shape) head
IsHead OfFirst shape head = Behind 0x04 (λ t. IsShape t shape) head
IsHead (OfSecond one) shape head = (kind first : List ℕ) × (head ≡ 0x04 ∷ (kind ++ (first ++ 0x05 ∷ []))) × IsShape kind shape × IsCode first one

-- what was read so far is spelled: the bytes are spellings of what stands around and of the code so far, and what is left
abbrev Spelled : List ℕ → List Around → Code → List ℕ → Type 0
Spelled bytes [] here left = (text : List ℕ) × (bytes ≡ text ++ left) × IsCode text here
Spelled bytes (o ∷ outside) here left = (head text : List ℕ) × IsHead o.part o.shape head × IsCode text here × Spelled bytes outside o.before (head ++ (text ++ left))

-- more code in front of what is left
extend : (bytes : List ℕ) (outside : List Around) (here code : Code) (text left : List ℕ) → Spelled bytes outside here (text ++ left) → IsCode text code
    → Spelled bytes outside (joined here code) left
extend bytes [] here code text left h k = (h.0 ++ text, h.1 ∙ sym (append_assoc h.0 text left), code_append here code h.0 text h.2 k)
extend bytes (o ∷ outside) here code text left h k =
    let parts : h.0 ++ (h.1 ++ (text ++ left)) ≡ h.0 ++ ((h.1 ++ text) ++ left) = ap (λ (t : List ℕ). h.0 ++ t) (sym (append_assoc h.1 text left)) in
    (h.0, h.1 ++ text, h.2, code_append here code h.1 text h.3 k, subst (λ (t : List ℕ). Spelled bytes outside o.before t) parts h.4)

-- a block that ends is spelled
node_spelled : (part : BlockPart) (shape : Shape) (inner : Code) (head text : List ℕ) → IsHead part shape head → IsCode text inner
    → IsCode (head ++ (text ++ 0x0B ∷ [])) (node part shape inner)
node_spelled OfBlock shape inner head text h k = (h.0 ++ (text ++ 0x0B ∷ []), ap (λ (t : List ℕ). t ++ (text ++ 0x0B ∷ [])) h.1, (h.0, text, [], refl, h.2, k, refl))
node_spelled OfLoop shape inner head text h k = (h.0 ++ (text ++ 0x0B ∷ []), ap (λ (t : List ℕ). t ++ (text ++ 0x0B ∷ [])) h.1, (h.0, text, [], refl, h.2, k, refl))
node_spelled OfFirst shape inner head text h k =
    (h.0 ++ (text ++ 0x0B ∷ []), ap (λ (t : List ℕ). t ++ (text ++ 0x0B ∷ [])) h.1, (h.0, text, [], refl, h.2, (text, [], sym (append-nil text), k, inl (refl, refl)), refl))
node_spelled (OfSecond one) shape inner head text h k =
    let arms = h.1 ++ 0x05 ∷ text in
    let one : (h.1 ++ 0x05 ∷ []) ++ (text ++ 0x0B ∷ []) ≡ arms ++ 0x0B ∷ [] =
    append_assoc h.1 (0x05 ∷ []) (text ++ 0x0B ∷ []) ∙ sym (append_assoc h.1 (0x05 ∷ text) (0x0B ∷ [])) in
    let two : (h.0 ++ (h.1 ++ 0x05 ∷ [])) ++ (text ++ 0x0B ∷ []) ≡ h.0 ++ (arms ++ 0x0B ∷ []) =
    append_assoc h.0 (h.1 ++ 0x05 ∷ []) (text ++ 0x0B ∷ []) ∙ ap (λ (t : List ℕ). h.0 ++ t) one in (
      h.0 ++ (arms ++ 0x0B ∷ []),
      ap (λ (t : List ℕ). t ++ (text ++ 0x0B ∷ [])) h.2 ∙ ap (λ (t : List ℕ). 0x04 ∷ t) two,
      (h.0, arms, [], refl, h.3, (h.1, 0x05 ∷ text, refl, h.4, inr (text, refl, k)), refl),
    )

begun : (bytes : List ℕ) (outside : List Around) (here : Code) (part : BlockPart) (shape : Shape) (head left rest : List ℕ) → left ≡ head ++ rest → IsHead part shape head
    → Spelled bytes outside here left
    → Spelled bytes (record { part = part; shape = shape; before = here } ∷ outside) End rest
begun bytes outside here part shape head left rest parts is h = (head, [], is, refl, subst (λ (t : List ℕ). Spelled bytes outside here t) parts h)

-- an induction over the tokens that are left
abbrev Sound : ℕ → Type 0
Sound fuel = (bytes left : List ℕ) (here : Code) (outside : List Around) (c : Code) (r : List ℕ) → rest_at fuel left here outside ≡ Some (c, r) → Spelled bytes outside here left
    → Front IsExpression bytes c r

on_else : (fuel : ℕ) → Sound fuel → (bytes left rest : List ℕ) (here : Code) (part : BlockPart) (shape : Shape) (before : Code) (outside : List Around) (c : Code) (r : List ℕ)
    → left ≡ 0x05 ∷ rest
    → Spelled bytes (record { part = part; shape = shape; before = before } ∷ outside) here left
    → go_on (λ h a. rest_at fuel rest h a) rest (after_symbol Else here (record { part = part; shape = shape; before = before } ∷ outside)) ≡ Some (c, r)
    → Front IsExpression bytes c r
on_else fuel sound bytes left rest here OfBlock shape before outside c r parts h e = absurd cc
on_else fuel sound bytes left rest here OfLoop shape before outside c r parts h e = absurd cc
on_else fuel sound bytes left rest here (OfSecond one) shape before outside c r parts h e = absurd cc
on_else fuel sound bytes left rest here OfFirst shape before outside c r parts h e =
    let head : List ℕ = h.0 in
    let text : List ℕ = h.1 in
    let kind = h.2.0 in
    let whole : head ++ (text ++ left) ≡ (head ++ (text ++ 0x05 ∷ [])) ++ rest =
    ap (λ (t : List ℕ). head ++ (text ++ t)) parts ∙ ap (λ (t : List ℕ). head ++ t) (sym (append_assoc text (0x05 ∷ []) rest)) ∙ sym (append_assoc head (text ++ 0x05 ∷ []) rest) in
    let is : head ++ (text ++ 0x05 ∷ []) ≡ 0x04 ∷ (kind ++ (text ++ 0x05 ∷ [])) = ap (λ (t : List ℕ). t ++ (text ++ 0x05 ∷ [])) h.2.1 in
    sound bytes rest End (record { part = OfSecond here; shape = shape; before = before } ∷ outside) c r e
    (head ++ (text ++ 0x05 ∷ []), [], (kind, text, is, h.2.2, h.3), refl, subst (λ (t : List ℕ). Spelled bytes outside before t) whole h.4)

on_symbol : (fuel : ℕ) → Sound fuel → (bytes left text rest : List ℕ) (t : Symbol) (here : Code) (outside : List Around) (c : Code) (r : List ℕ) → left ≡ text ++ rest
    → IsSymbol text t → Spelled bytes outside here left
    → go_on (λ h a. rest_at fuel rest h a) rest (after_symbol t here outside) ≡ Some (c, r) → Front IsExpression bytes c r
on_symbol fuel sound bytes left text rest (Single i) here outside c r parts is h e =
    sound bytes rest (joined here (Then i End)) outside c r e
    (extend bytes outside here (Then i End) text rest (subst (λ (t : List ℕ). Spelled bytes outside here t) parts h) (text, [], sym (append-nil text), is, refl))
on_symbol fuel sound bytes left text rest (BeginsBlock s) here outside c r parts is h e =
    sound bytes rest End (record { part = OfBlock; shape = s; before = here } ∷ outside) c r e (begun bytes outside here OfBlock s text left rest parts is h)
on_symbol fuel sound bytes left text rest (BeginsLoop s) here outside c r parts is h e =
    sound bytes rest End (record { part = OfLoop; shape = s; before = here } ∷ outside) c r e (begun bytes outside here OfLoop s text left rest parts is h)
on_symbol fuel sound bytes left text rest (BeginsIf s) here outside c r parts is h e =
    sound bytes rest End (record { part = OfFirst; shape = s; before = here } ∷ outside) c r e (begun bytes outside here OfFirst s text left rest parts is h)
on_symbol fuel sound bytes left text rest Else here [] c r parts is h e = absurd cc
on_symbol fuel sound bytes left text rest Else here (o ∷ outside) c r parts is h e =
    on_else fuel sound bytes left rest here o.part o.shape o.before outside c r (parts ∙ ap (λ (t : List ℕ). t ++ rest) is) h e
on_symbol fuel sound bytes left text rest Ends here [] c r parts is h e =
    let pair = some_is _ _ e in
    let left_is : left ≡ 0x0B ∷ rest = parts ∙ ap (λ (t : List ℕ). t ++ rest) is in
    let whole : bytes ≡ (h.0 ++ 0x0B ∷ []) ++ rest = h.1 ∙ ap (λ (t : List ℕ). h.0 ++ t) left_is ∙ sym (append_assoc h.0 (0x0B ∷ []) rest) in
    subst (λ (p : Code × List ℕ). Front IsExpression bytes p.0 p.1) pair (record { text = h.0 ++ 0x0B ∷ []; parts = whole; spelled = (h.0, refl, h.2) })
on_symbol fuel sound bytes left text rest Ends here (o ∷ outside) c r parts is h e =
    let head : List ℕ = h.0 in
    let inner : List ℕ = h.1 in
    let whole : head ++ (inner ++ left) ≡ (head ++ (inner ++ 0x0B ∷ [])) ++ rest =
    ap (λ (t : List ℕ). head ++ (inner ++ t)) (parts ∙ ap (λ (t : List ℕ). t ++ rest) is) ∙ ap (λ (t : List ℕ). head ++ t) (sym (append_assoc inner (0x0B ∷ []) rest))
    ∙ sym (append_assoc head (inner ++ 0x0B ∷ []) rest) in
    sound bytes rest (joined o.before (node o.part o.shape here)) outside c r e
    (extend bytes outside o.before (node o.part o.shape here) (head ++ (inner ++ 0x0B ∷ [])) rest
    (subst (λ (t : List ℕ). Spelled bytes outside o.before t) whole h.4) (node_spelled o.part o.shape here head inner h.2 h.3))

sound_for : (fuel : ℕ) → Sound fuel
unfolding rest_at
sound_for zero bytes left here outside c r e h = absurd cc
sound_for (suc fuel) bytes left here outside c r e h =
    let t = bind_some (symbol_at left) _ _ e in
    let f = symbol_exact.found left t.0.0 t.0.1 t.1 in
    on_symbol fuel (sound_for fuel) bytes left f.text t.0.1 t.0.0 here outside c r f.parts f.spelled h t.2

expression_found : (bytes : List ℕ) (code : Code) (rest : List ℕ) → expression_at bytes ≡ Some (code, rest) → Front IsExpression bytes code rest
unfolding reads
expression_found bytes code rest e = sound_for (length bytes) bytes bytes End [] code rest e ([], refl, refl)

pub expression_exact : IsExact IsExpression (λ bytes. expression_at bytes)
expression_exact = record { found = expression_found; again = expression_again }
