-- What the output's element segments leave: what the run left of the input's.
use Rattle.std.proofs.Common.{◌≡◌, ◌≢◌, ℕ, zero, suc, ◌+◌, ◌<◌, ◌≤◌, ◌⊎◌, inl, inr, List, [], ◌∷◌, ◌++◌, length, map, Option, Some, None, Bool, true, false, ◌&&◌, ◌==◌, if◌then◌else◌, not, slice_get, option_map, option_and_then, refl, sym, ap, subst, ◌∙◌, arith}
use Rattle.std.specs.List.{All}
use Rattle.std.proofs.lemmas.Bool.{cases_Bool, eqb-true, eq-eqb}
use Rattle.std.proofs.lemmas.List.{append_assoc}
use Rattle.std.proofs.lemmas.List.Elements.{All-nil, All-cons, All-head, All-tail, All-append, All-weaker}
use Rattle.std.proofs.Math.ListN.{length-map}
use Rattle.wz_types.specs.declared.types.RefKind.{RefKind}
use Rattle.wz_types.specs.declared.value.Reference.{Reference}
use Rattle.wz_module.specs.Elements.{ElemMode, PassiveElem, ActiveElem, DeclarativeElem, Elem}
use Rattle.wz_module.specs.Module.{Module}
use Rattle.wz_store.specs.State.{Element}
use Rattle.wz_store.specs.Made.{new_element}
use Rattle.wz_encode.specs.Elements.{is_dropped, as_declarative, kept_elements}
use Rattle.wz_snapshot.specs.Recorded.{has_no_items}
use Rattle.wz_rewrite.specs.Dropped.{is_passive, was_emptied, was_dropped, is_empty_at, dropped_from}
use Rattle.wz_rewrite.proofs.SegmentLemmas.{dropped_above}
use Rattle.wz_init.specs.Constants.{constant_reference}
use Rattle.wz_init.specs.Allocation.{each_of, first_element, first_elements}
use Rattle.wz_top.proofs.FreshElementLemmas.{left_of, lefts}

-- ---- the dropped segments, by the marks of those that are empty

abbrev pub kept_by : List Bool → ℕ → List Elem → List Elem
kept_by marks n [] = []
kept_by marks n (e ∷ es) = (if was_dropped e (is_empty_at marks n) then as_declarative e else e) ∷ kept_by marks (n + 1) es

never_among : (n : ℕ) (ns : List ℕ) → All (λ other. other ≢ n) ns → is_dropped ns n ≡ false
never_among n [] h = refl
never_among n (x ∷ ns) h = elim (cases_Bool (x == n)) [
  | inl e ↦ absurd (All-head (λ other. other ≢ n) x ns h (eqb-true x n e))
  | inr e ↦ rw e (never_among n ns (All-tail (λ other. other ≢ n) x ns h))
]

is_among : (n : ℕ) (front rest : List ℕ) → is_dropped (front ++ n ∷ rest) n ≡ true
is_among n [] rest = let e : (n == n) ≡ true = eq-eqb n n refl in rw e refl
is_among n (x ∷ front) rest = elim (cases_Bool (x == n)) [
  | inl e ↦ rw e refl
  | inr e ↦ rw e (is_among n front rest)
]

pub by_marks : (marks : List Bool) (front : List ℕ) (n : ℕ) (es : List Elem) → All (λ other. other < n) front
    → kept_elements (front ++ dropped_from marks n es) n es ≡ kept_by marks n es
by_marks marks front n [] below = refl
by_marks marks front n (e ∷ es) below =
    let rest = dropped_from marks (n + 1) es in
    let longer = All-weaker (λ other. other < n) (λ other. other < n + 1) (λ other h. omega (arith, h)) front below in
    elim (cases_Bool (was_dropped e (is_empty_at marks n))) [
      | inl here ↦
          let more : All (λ other. other < n + 1) (front ++ n ∷ []) =
          All-append (λ other. other < n + 1) front (n ∷ []) longer (All-cons (λ other. other < n + 1) n [] (omega arith) (All-nil (λ other. other < n + 1))) in
          let step : dropped_from marks n (e ∷ es) ≡ n ∷ rest = rw here refl in
          let named = is_among n front rest in
          ap (λ (ds : List ℕ). kept_elements (front ++ ds) n (e ∷ es)) step
          ∙ ap (λ (b : Bool). (if b then as_declarative e else e) ∷ kept_elements (front ++ n ∷ rest) (n + 1) es) (named ∙ sym here)
          ∙ ap (λ (xs : List Elem). (if was_dropped e (is_empty_at marks n) then as_declarative e else e) ∷ xs)
          (ap (λ (ds : List ℕ). kept_elements ds (n + 1) es) (sym (append_assoc front (n ∷ []) rest)) ∙ by_marks marks (front ++ n ∷ []) (n + 1) es more)
      | inr other ↦
          let lower : All (λ k. k ≢ n) front = All-weaker (λ k. k < n) (λ k. k ≢ n) (λ k h e. omega (arith, h, e)) front below in
          let upper : All (λ k. k ≢ n) rest = All-weaker (λ k. n + 1 ≤ k) (λ k. k ≢ n) (λ k h e. omega (arith, h, e)) rest (dropped_above marks (n + 1) es) in
          let never = never_among n (front ++ rest) (All-append (λ k. k ≢ n) front rest lower upper) in
          let step : dropped_from marks n (e ∷ es) ≡ rest = rw other refl in
          ap (λ (ds : List ℕ). kept_elements (front ++ ds) n (e ∷ es)) step
          ∙ ap (λ (b : Bool). (if b then as_declarative e else e) ∷ kept_elements (front ++ rest) (n + 1) es) (never ∙ sym other)
          ∙ ap (λ (xs : List Elem). (if was_dropped e (is_empty_at marks n) then as_declarative e else e) ∷ xs) (by_marks marks front (n + 1) es longer)
    ]

-- ---- one segment

element_same : (one other : Element) → one.kind ≡ other.kind → one.items ≡ other.items → one ≡ other
element_same one other kinds items = ap (λ (k : RefKind). new_element k one.items) kinds ∙ ap (λ (is : List Reference). new_element other.kind is) items

pub no_items : {X : Type 0} (xs : List X) → has_no_items xs ≡ true → xs ≡ []
no_items [] h = refl
no_items (x ∷ xs) h = let none = eqb-true (length (x ∷ xs)) 0 h in absurd (omega (arith, none))

no_length : {X : Type 0} (xs : List X) → length xs ≡ 0 → xs ≡ []
no_length [] h = refl
no_length (x ∷ xs) h = absurd (omega (arith, h))

pub has_none : {X : Type 0} (xs : List X) → xs ≡ [] → has_no_items xs ≡ true
has_none xs e = ap (λ ys. has_no_items ys) e

emptied : (w now : Element) → w.kind ≡ now.kind → (Some (record w { items = [] }) ≡ Some now) ⊎ (now.items ≡ []) → record w { items = [] } ≡ now
emptied w now kinds (inl same) = cc same
emptied w now kinds (inr none) = element_same (record w { items = [] }) now kinds (sym none)

passive_left : {X : Type 0} (init : List X) (w now : Element) (one other : Bool) → has_no_items init ≡ one → has_no_items now.items ≡ other → w.kind ≡ now.kind
    → length w.items ≡ length init → (Some w ≡ Some now) ⊎ (now.items ≡ []) → left_of (if not one && other then DeclarativeElem else PassiveElem) w ≡ now
passive_left init w now true other e e' kinds size (inl same) = cc same
passive_left init w now true other e e' kinds size (inr none) =
    let empty = no_length w.items (size ∙ ap (λ xs. length xs) (no_items init e)) in element_same w now kinds (empty ∙ sym none)
passive_left init w now false true e e' kinds size h = element_same (record w { items = [] }) now kinds (sym (no_items now.items e'))
passive_left init w now false false e e' kinds size (inl same) = cc same
passive_left init w now false false e e' kinds size (inr none) = absurd (cc (has_none now.items none, e'))

by_mode : {X : Type 0} (mode : ElemMode) (init : List X) (w now : Element) → w.kind ≡ now.kind → length w.items ≡ length init
    → (Some (left_of mode w) ≡ Some now) ⊎ (now.items ≡ [])
    → left_of (if is_passive mode && was_emptied init (has_no_items now.items) then DeclarativeElem else mode) w ≡ now
by_mode PassiveElem init w now kinds size h = passive_left init w now (has_no_items init) (has_no_items now.items) refl refl kinds size h
by_mode (ActiveElem table offset) init w now kinds size h = emptied w now kinds h
by_mode DeclarativeElem init w now kinds size h = emptied w now kinds h

mode_kept : (b : Bool) (e : Elem) → (if b then as_declarative e else e).mode ≡ (if b then DeclarativeElem else e.mode)
mode_kept true e = refl
mode_kept false e = refl

one_left : (e : Elem) (w now : Element) (mark : Bool) → mark ≡ has_no_items now.items → w.kind ≡ now.kind → length w.items ≡ length e.init
    → (Some (left_of e.mode w) ≡ Some now) ⊎ (now.items ≡ []) → left_of (if was_dropped e mark then as_declarative e else e).mode w ≡ now
one_left e w now mark marked kinds size h =
    ap (λ (mode : ElemMode). left_of mode w) (mode_kept (was_dropped e mark) e)
    ∙ ap (λ (b : Bool). left_of (if is_passive e.mode && was_emptied e.init b then DeclarativeElem else e.mode) w) marked
    ∙ by_mode e.mode e.init w now kinds size h

-- ---- all of them

pub lefts_are : (marks : List Bool) (n : ℕ) (es : List Elem) (ws nows : List Element) → length nows ≡ length es
    → map (λ (w : Element). w.kind) ws ≡ map (λ (w : Element). w.kind) nows → map (λ (w : Element). length w.items) ws ≡ map (λ (e : Elem). length e.init) es
    → ((i : ℕ) (now : Element) → slice_get nows i ≡ Some now → is_empty_at marks (n + i) ≡ has_no_items now.items)
    → ((i : ℕ) (now : Element) → slice_get nows i ≡ Some now → (slice_get (lefts es ws) i ≡ Some now) ⊎ (now.items ≡ []))
    → lefts (kept_by marks n es) ws ≡ nows
lefts_are marks n [] [] [] many kinds sizes marked h = refl
lefts_are marks n [] [] (now ∷ nows) many kinds sizes marked h = absurd (omega (arith, many))
lefts_are marks n [] (w ∷ ws) nows many kinds sizes marked h = absurd (cc sizes)
lefts_are marks n (e ∷ es) [] nows many kinds sizes marked h = absurd (cc sizes)
lefts_are marks n (e ∷ es) (w ∷ ws) [] many kinds sizes marked h = absurd (omega (arith, many))
lefts_are marks n (e ∷ es) (w ∷ ws) (now ∷ nows) many kinds sizes marked h =
    let kind : w.kind ≡ now.kind = cc kinds in
    let other_kinds : map (λ (x : Element). x.kind) ws ≡ map (λ (x : Element). x.kind) nows = cc kinds in
    let size : length w.items ≡ length e.init = cc sizes in
    let other_sizes : map (λ (x : Element). length x.items) ws ≡ map (λ (x : Elem). length x.init) es = cc sizes in
    ap (λ (x : Element). x ∷ lefts (kept_by marks (n + 1) es) ws)
    (one_left e w now (is_empty_at marks n) (subst (λ (k : ℕ). is_empty_at marks k ≡ has_no_items now.items) (omega arith) (marked 0 now refl)) kind size (h 0 now refl))
    ∙ ap (λ (xs : List Element). now ∷ xs)
    (lefts_are marks (n + 1) es ws nows (omega (arith, many)) other_kinds other_sizes
    (λ i x here. subst (λ (k : ℕ). is_empty_at marks k ≡ has_no_items x.items) (omega arith) (marked (suc i) x here))
    (λ i x here. h (suc i) x here))

-- ---- the references of a segment are as many as its expressions

each_map : {X Y Z : Type 0} (f : X → Option Y) (h : Y → Z) (k : X → Z) → ((x : X) (y : Y) → f x ≡ Some y → h y ≡ k x) → (xs : List X) (ys : List Y)
    → each_of f xs ≡ Some ys → map h ys ≡ map k xs
each_map {Y = Y} {Z = Z} f h k one [] ys e = let same : [] ≡ ys = cc e in ap (λ (l : List Y). map h l) (sym same)
each_map {X = X} {Y = Y} {Z = Z} f h k one (x ∷ xs) ys e = by (f x) refl (each_of f xs) refl e (λ zs e. each_map f h k one xs zs e)
  where
    by : (o : Option Y) → f x ≡ o → (os : Option (List Y)) → each_of f xs ≡ os → option_and_then (λ y. option_map (λ ys. y ∷ ys) os) o ≡ Some ys
        → ((zs : List Y) → each_of f xs ≡ Some zs → map h zs ≡ map k xs) → map h ys ≡ k x ∷ map k xs
    by None a os b e rest = absurd (cc e)
    by (Some z) a None b e rest = absurd (cc e)
    by (Some z) a (Some zs) b e rest =
        let same : z ∷ zs ≡ ys = cc e in
        ap (λ (l : List Y). map h l) (sym same) ∙ ap (λ (t : Z). t ∷ map h zs) (one x z a) ∙ ap (λ (ts : List Z). k x ∷ ts) (rest zs b)

each_length : {X Y : Type 0} (f : X → Option Y) (xs : List X) (ys : List Y) → each_of f xs ≡ Some ys → length ys ≡ length xs
each_length {X = X} {Y = Y} f xs ys e =
    let same = each_map f (λ (y : Y). zero) (λ (x : X). zero) (λ x y is. refl) xs ys e in
    omega (arith, ap (λ (ns : List ℕ). length ns) same, length-map ys (λ (y : Y). zero), length-map xs (λ (x : X). zero))

pub sizes_of : (m : Module) (ws : List Element) → first_elements m ≡ Some ws → map (λ (w : Element). length w.items) ws ≡ map (λ (e : Elem). length e.init) m.elements
sizes_of m ws h =
    each_map (λ e. first_element m e) (λ (w : Element). length w.items) (λ (e : Elem). length e.init)
    (λ e w is. by e w (each_of (λ init. constant_reference m init) e.init) refl is) m.elements ws h
  where
    by : (e : Elem) (w : Element) (o : Option (List Reference)) → each_of (λ init. constant_reference m init) e.init ≡ o
        → option_map (λ items. new_element e.kind items) o ≡ Some w → length w.items ≡ length e.init
    by e w None is h = absurd (cc h)
    by e w (Some items) is h =
        let same : new_element e.kind items ≡ w = cc h in
        ap (λ (x : Element). length x.items) (sym same) ∙ each_length (λ init. constant_reference m init) e.init items is

pub kinds_of : (m : Module) (ws : List Element) → first_elements m ≡ Some ws → map (λ (w : Element). w.kind) ws ≡ map (λ (e : Elem). e.kind) m.elements
kinds_of m ws h =
    each_map (λ e. first_element m e) (λ (w : Element). w.kind) (λ (e : Elem). e.kind)
    (λ e w is. by e w (each_of (λ init. constant_reference m init) e.init) is) m.elements ws h
  where
    by : (e : Elem) (w : Element) (o : Option (List Reference)) → option_map (λ items. new_element e.kind items) o ≡ Some w → w.kind ≡ e.kind
    by e w None h = absurd (cc h)
    by e w (Some items) h = let same : new_element e.kind items ≡ w = cc h in ap (λ (x : Element). x.kind) (sym same)

pub many_elements : (m : Module) (ws : List Element) → first_elements m ≡ Some ws → length m.elements ≡ length ws
many_elements m ws h = sym (each_length (λ e. first_element m e) m.elements ws h)
