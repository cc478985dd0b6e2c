-- What a run of plain instructions keeps from one to the next.
use Rattle.std.proofs.Common.{◌≡◌, ◌≤◌, ◌⊎◌, ◌+◌, ◌-◌, ℕ, zero, suc, List, [], ◌∷◌, ◌++◌, IsFalse, take, drop, length, refl, ap, sym, subst, ◌∙◌, arith}
use Rattle.std.proofs.lemmas.List.{take-append-drop}
use Rattle.wz_code.specs.declared.instr.Instr.{Instr}
use Rattle.wz_code.specs.BodyParts.{BodyParts}
use Rattle.wz_machine.specs.declared.plain.Plain.TheVariants.{Went}
use Rattle.wz_machine.specs.PlainSteps.{Site, PlainReply}
use Rattle.wz_machine.specs.Straight.{changes_table, point, GoesOn, RunsTo}

-- So many instructions of a run are begun, and these are left of them; it has come to a point of the code.
pub record IsRunning (body : BodyParts) (code rest : List Instr) (limit started have now room : ℕ) (old new : Site) : Type 0 where
  pub begun : started ≤ length code
  pub limited : started ≤ limit
  pub cut : (started ≡ limit) ⊎ (started ≡ length code)
  pub short : length rest ≤ started
  pub left : drop (started - length rest) code ≡ rest ++ drop started code
  pub ran : RunsTo body (started - length rest) (point code have old) (point (drop (started - length rest) code) now new)
  pub fits : now + length code ≤ room + (started - length rest)

drop-next : {A : Type 0} (xs ys : List A) (n : ℕ) (x : A) → drop n xs ≡ x ∷ ys → drop (suc n) xs ≡ ys
drop-next [] ys zero x e = absurd (cc e)
drop-next [] ys (suc n) x e = absurd (cc e)
drop-next (a ∷ xs) ys zero x e = cc e
drop-next (a ∷ xs) ys (suc n) x e = drop-next xs ys n x e

-- the run begins
pub begins : (body : BodyParts) (code : List Instr) (limit started have room : ℕ) (at : Site) → started ≤ length code → started ≤ limit
    → (started ≡ limit) ⊎ (started ≡ length code) → length (take started code) ≡ started → have + length code ≤ room
    → IsRunning body code (take started code) limit started have have room at at
begins body code limit started have room at begun limited cut size fits =
    let none : started - length (take started code) ≡ 0 = omega (arith, size) in
    let P : ℕ → Type 0 = λ n. RunsTo body n (point code have at) (point (drop n code) have at) in
    record {
      begun = begun;
      limited = limited;
      cut = cut;
      short = omega (arith, size);
      left = ap (λ n. drop n code) none ∙ sym (take-append-drop started code);
      ran = subst P (sym none) refl;
      fits = omega (arith, fits, none);
    }

-- one instruction more
pub goes_on : (body : BodyParts) (code rest tail : List Instr) (instr : Instr) (limit started have now next room : ℕ) (old middle new : Site)
    → IsRunning body code rest limit started have now room old middle → rest ≡ instr ∷ tail → IsFalse (changes_table instr) → next ≤ now + 1
    → PlainReply (Went next) body instr now middle new → IsRunning body code tail limit started have next room old new
goes_on body code rest tail instr limit started have now next room old middle new r is spares fits went =
    let size : length rest ≡ suc (length tail) = ap length is in
    let more : started - length tail ≡ suc (started - length rest) = omega (arith, size, r.short) in
    let here : drop (started - length rest) code ≡ instr ∷ (tail ++ drop started code) = r.left ∙ ap (λ (l : List Instr). l ++ drop started code) is in
    let there : drop (suc (started - length rest)) code ≡ tail ++ drop started code = drop-next code (tail ++ drop started code) (started - length rest) instr here in
    let P : ℕ → Type 0 = λ n. RunsTo body n (point code have old) (point (drop n code) next new) in
    let step : GoesOn body (point (drop (started - length rest) code) now middle) (point (drop (suc (started - length rest)) code) next new) =
    record { instr = instr; first = here ∙ ap (λ (l : List Instr). instr ∷ l) (sym there); spares = spares; went = went } in
    record {
      begun = r.begun;
      limited = r.limited;
      cut = r.cut;
      short = omega (arith, size, r.short);
      left = ap (λ n. drop n code) more ∙ there;
      ran = subst P (sym more) (point (drop (started - length rest) code) now middle, r.ran, step);
      fits = omega (arith, r.fits, more, fits);
    }

-- nothing is changed any more
pub ran_to : (body : BodyParts) (code rest : List Instr) (limit started have now room : ℕ) (old middle new : Site)
    → IsRunning body code rest limit started have now room old middle → new ≡ middle
    → RunsTo body (started - length rest) (point code have old) (point (drop (started - length rest) code) now new)
ran_to body code rest limit started have now room old middle new r same =
    let P : Site → Type 0 = λ at. RunsTo body (started - length rest) (point code have old) (point (drop (started - length rest) code) now at) in
    subst P (sym same) r.ran
