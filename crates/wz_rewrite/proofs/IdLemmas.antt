-- Cases on the id of a section: those that the output writes anew, and the others.
use Rattle.std.proofs.Common.{◌≡◌, ℕ, false, List, [], ◌++◌, ◌∷◌, sym, ap, subst, ◌∙◌, inl, inr, append-nil, refl}
use Rattle.std.specs.Prelude.{◌==◌}
use Rattle.std.specs.List.{flat_map}
use Rattle.std.proofs.lemmas.Bool.{cases_Bool, eqb-true}
use Rattle.std.proofs.lemmas.Grind.{flat_map-append}

-- the section isn't written anew for its id
pub record IsOther (id : ℕ) : Type 0 where
  pub memories : (id == 5) ≡ false
  pub globals : (id == 6) ≡ false
  pub exports : (id == 7) ≡ false
  pub start : (id == 8) ≡ false
  pub elements : (id == 9) ≡ false
  pub datas : (id == 11) ≡ false
  pub count : (id == 12) ≡ false

pub by_id : (P : ℕ → Type 0) → P 5 → P 6 → P 7 → P 8 → P 9 → P 11 → P 12 → ((id : ℕ) → IsOther id → P id) → (id : ℕ) → P id
by_id P memories globals exports start elements datas count others id = elim (cases_Bool (id == 5)) [
  | inl e ↦ subst P (sym (eqb-true id 5 e)) memories
  | inr e5 ↦ elim (cases_Bool (id == 6)) [
    | inl e ↦ subst P (sym (eqb-true id 6 e)) globals
    | inr e6 ↦ elim (cases_Bool (id == 7)) [
      | inl e ↦ subst P (sym (eqb-true id 7 e)) exports
      | inr e7 ↦ elim (cases_Bool (id == 8)) [
        | inl e ↦ subst P (sym (eqb-true id 8 e)) start
        | inr e8 ↦ elim (cases_Bool (id == 9)) [
          | inl e ↦ subst P (sym (eqb-true id 9 e)) elements
          | inr e9 ↦ elim (cases_Bool (id == 11)) [
            | inl e ↦ subst P (sym (eqb-true id 11 e)) datas
            | inr e11 ↦ elim (cases_Bool (id == 12)) [
              | inl e ↦ subst P (sym (eqb-true id 12 e)) count
              | inr e12 ↦
                  others id (record { memories = e5; globals = e6; exports = e7; start = e8; elements = e9; datas = e11; count = e12 })
            ]
          ]
        ]
      ]
    ]
  ]
]

-- ---- lists of lists

pub flat_map_each : {X Y Z : Type 0} (g : Y → List Z) (f : X → List Y) (h : X → List Z) → ((x : X) → flat_map g (f x) ≡ h x) → (xs : List X)
    → flat_map g (flat_map f xs) ≡ flat_map h xs
flat_map_each g f h each [] = refl
flat_map_each {Z = Z} g f h each (x ∷ xs) =
    flat_map-append g (f x) (flat_map f xs)
    ∙ ap (λ (t : List Z). t ++ flat_map g (flat_map f xs)) (each x)
    ∙ ap (λ (t : List Z). h x ++ t) (flat_map_each g f h each xs)

-- of three parts
pub flat_map_parts : {Y Z : Type 0} (g : Y → List Z) (a b c : List Y) (one two three : List Z) → flat_map g a ≡ one → flat_map g b ≡ two → flat_map g c ≡ three
    → flat_map g (a ++ (b ++ c)) ≡ one ++ (two ++ three)
flat_map_parts {Z = Z} g a b c one two three ea eb ec =
    flat_map-append g a (b ++ c)
    ∙ ap (λ (t : List Z). t ++ flat_map g (b ++ c)) ea
    ∙ ap (λ (t : List Z). one ++ t) (flat_map-append g b c ∙ ap (λ (t : List Z). t ++ flat_map g c) eb ∙ ap (λ (t : List Z). two ++ t) ec)

pub flat_map_nil : {X Y : Type 0} (f : X → List Y) → ((x : X) → f x ≡ []) → (xs : List X) → flat_map f xs ≡ []
flat_map_nil f h [] = refl
flat_map_nil {Y = Y} f h (x ∷ xs) = ap (λ (t : List Y). t ++ flat_map f xs) (h x) ∙ flat_map_nil f h xs

pub flat_map_same : {X Y : Type 0} (f g : X → List Y) → ((x : X) → f x ≡ g x) → (xs : List X) → flat_map f xs ≡ flat_map g xs
flat_map_same f g h [] = refl
flat_map_same {Y = Y} f g h (x ∷ xs) = ap (λ (t : List Y). t ++ flat_map f xs) (h x) ∙ ap (λ (t : List Y). g x ++ t) (flat_map_same f g h xs)

nil_front : {Y : Type 0} (xs ys : List Y) → xs ++ ys ≡ [] → xs ≡ []
nil_front [] ys e = refl
nil_front (x ∷ xs) ys e = absurd cc

nil_behind : {Y : Type 0} (xs ys : List Y) → xs ++ ys ≡ [] → ys ≡ []
nil_behind [] ys e = e
nil_behind (x ∷ xs) ys e = absurd cc

-- where one of two gives nothing, both together give what the other gives
pub flat_map_left : {X Y : Type 0} (f g : X → List Y) (xs : List X) → flat_map f xs ≡ [] → flat_map (λ x. f x ++ g x) xs ≡ flat_map g xs
flat_map_left f g [] h = refl
flat_map_left {Y = Y} f g (x ∷ xs) h =
    let here = nil_front (f x) (flat_map f xs) h in
    let behind = nil_behind (f x) (flat_map f xs) h in
    ap (λ (t : List Y). (t ++ g x) ++ flat_map (λ x. f x ++ g x) xs) here ∙ ap (λ (t : List Y). g x ++ t) (flat_map_left f g xs behind)

pub flat_map_right : {X Y : Type 0} (f g : X → List Y) (xs : List X) → flat_map g xs ≡ [] → flat_map (λ x. f x ++ g x) xs ≡ flat_map f xs
flat_map_right f g [] h = refl
flat_map_right {Y = Y} f g (x ∷ xs) h =
    let here = nil_front (g x) (flat_map g xs) h in
    let behind = nil_behind (g x) (flat_map g xs) h in
    ap (λ (t : List Y). (f x ++ t) ++ flat_map (λ x. f x ++ g x) xs) here
    ∙ ap (λ (t : List Y). t ++ flat_map (λ x. f x ++ g x) xs) (append-nil (f x))
    ∙ ap (λ (t : List Y). f x ++ t) (flat_map_right f g xs behind)
