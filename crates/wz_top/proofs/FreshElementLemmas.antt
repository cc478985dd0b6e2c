-- The output's element segments are copied as the input's were: into the same tables, in the same order, with the same references.
use Rattle.std.proofs.Common.{◌≡◌, ℕ, ◌+◌, List, [], ◌∷◌, ◌++◌, length, Option, Some, None, Bool, true, false, ◌&&◌, if◌then◌else◌, slice_get, refl, sym, ap, subst, ◌∙◌, arith, length-append}
use Rattle.std.proofs.lemmas.List.{append_assoc}
use Rattle.wz_types.specs.declared.value.Reference.{Reference}
use Rattle.wz_types.specs.declared.trap.TrapKind.TheVariants.{TableBounds}
use Rattle.wz_types.specs.SameType.{same_kind}
use Rattle.wz_code.specs.Trees.{Code}
use Rattle.wz_module.specs.Elements.{ElemMode, PassiveElem, ActiveElem, DeclarativeElem, Elem}
use Rattle.wz_module.specs.Module.{Module}
use Rattle.wz_store.specs.State.{Table, Element}
use Rattle.wz_store.specs.Changes.{Change, WriteTable, EmptyElement, altered, range_of, with_entries, without_items}
use Rattle.wz_bulk.specs.Effects.{BulkEffect, Makes, Aborts, Misfits, within}
use Rattle.wz_bulk.specs.TableEffects.{table_init_effect}
use Rattle.wz_machine.specs.State.{State}
use Rattle.wz_encode.specs.Laws.{DroppedArePassive}
use Rattle.wz_encode.specs.Elements.{is_dropped, as_declarative, kept_elements}
use Rattle.wz_init.specs.Constants.{constant_number}
use Rattle.wz_init.specs.Instances.{Instance, ElementUnfit, DataUnfit, NoInstance, Fresh, instance_then}
use Rattle.wz_init.specs.Instantiation.{copied, element_copied, element_run, elements_run}
use Rattle.wz_init.proofs.FreshLemmas.{same_state}

-- the state with these tables and element segments
abbrev pub put : State → List Table → List Element → State
put b tables elements = record b { tables = tables; elements = elements }

-- what is left of a segment that was run through
abbrev pub left_of : ElemMode → Element → Element
left_of PassiveElem w = w
left_of (ActiveElem table offset) w = without_items w
left_of DeclarativeElem w = without_items w

abbrev pub lefts : List Elem → List Element → List Element
lefts [] ws = ws
lefts (e ∷ es) [] = []
lefts (e ∷ es) (w ∷ ws) = left_of e.mode w ∷ lefts es ws

-- ---- the item behind so many others

pub altered_there : {A : Type 0} (alter : A → A) (done : List A) (x : A) (more : List A) → altered alter (done ++ x ∷ more) (length done) ≡ done ++ alter x ∷ more
altered_there alter [] x more = refl
altered_there alter (y ∷ done) x more = ap (λ ys. y ∷ ys) (altered_there alter done x more)

pub found_there : {A : Type 0} (done : List A) (x : A) (more : List A) → slice_get (done ++ x ∷ more) (length done) ≡ Some x
found_there [] x more = refl
found_there (y ∷ done) x more = found_there done x more

pub one_longer : {A : Type 0} (done : List A) (x : A) (index : ℕ) → length done ≡ index → length (done ++ x ∷ []) ≡ index + 1
one_longer done x index e = omega (arith, length-append done (x ∷ []), e)

-- ---- one segment

abbrev overwrote : ℕ → ℕ → List Reference → List Table → List Table
overwrote table at entries ts = altered (λ (t : Table). with_entries at entries t) ts table

-- the copy of a segment writes entries, if it does anything
writes : (table at count : ℕ) (t : Option Table) (e : Option Element) (change : Change) → table_init_effect table t e at 0 count ≡ Makes change
    → (entries : List Reference) × (change ≡ WriteTable table at entries)
writes table at count None e change h = absurd (cc h)
writes table at count (Some t) None change h = absurd (cc h)
writes table at count (Some t) (Some e) change h =
    by (same_kind e.kind t.kind) (within at count (length t.entries) && within 0 count (length e.items)) h
  where
    by : (b c : Bool) → (if b then (if c then Makes (WriteTable table at (range_of e.items 0 count)) else Aborts TableBounds) else Misfits) ≡ Makes change
        → (entries : List Reference) × (change ≡ WriteTable table at entries)
    by true true h = let same : WriteTable table at (range_of e.items 0 count) ≡ change = cc h in (range_of e.items 0 count, sym same)
    by true false h = absurd (cc h)
    by false c h = absurd (cc h)

abbrev effect_of : ℕ → ℕ → ℕ → List Table → Element → BulkEffect
effect_of table at count ts w = table_init_effect table (slice_get ts table) (Some w) at 0 count

copies : (table at count : ℕ) (b : State) (ts : List Table) (done : List Element) (w : Element) (more : List Element) (entries : List Reference)
    → effect_of table at count ts w ≡ Makes (WriteTable table at entries)
    → element_copied (length done) table count (Some at) (put b ts (done ++ w ∷ more)) ≡ Instance (put b (overwrote table at entries ts) (done ++ without_items w ∷ more))
copies table at count b ts done w more entries h =
    let i = length done in
    let s = put b ts (done ++ w ∷ more) in
    ap (λ (o : Option Element). copied (ElementUnfit i) (EmptyElement i) s (table_init_effect table (slice_get ts table) o at 0 count)) (found_there done w more)
    ∙ ap (λ (effect : BulkEffect). copied (ElementUnfit i) (EmptyElement i) s effect) h
    ∙ ap (λ (es : List Element). Instance (put b (overwrote table at entries ts) es)) (altered_there (λ (element : Element). without_items element) done w more)

-- in which tables a segment is run through, and which there are then, whatever else there is
pub record StepTo (m : Module) (count : ℕ) (mode : ElemMode) (w : Element) (ts after : List Table) : Type 0 where
  pub goes : (b : State) (done more : List Element) → element_run m (length done) count mode (put b ts (done ++ w ∷ more)) ≡ Instance (put b after (done ++ left_of mode w ∷ more))

pub declares_alone : (m : Module) (count : ℕ) (w : Element) (ts : List Table) → StepTo m count DeclarativeElem w ts ts
declares_alone m count w ts = record {
  goes = λ b done more. ap (λ (es : List Element). Instance (put b ts es)) (altered_there (λ (element : Element). without_items element) done w more);
}

module _ (m out : Module) (constants : (code : Code) → constant_number out code ≡ constant_number m code) where
  record Stepped (count : ℕ) (mode : ElemMode) (w : Element) (b : State) (ts : List Table) (done more : List Element) (mid : State) : Type 0 where
    tables : List Table
    is : mid ≡ put b tables (done ++ left_of mode w ∷ more)
    goes : StepTo out count mode w ts tables
    stays : mode ≡ PassiveElem → tables ≡ ts

  active : (table count : ℕ) (offset : Code) (w : Element) (b : State) (ts : List Table) (done more : List Element) (mid : State)
      → element_run m (length done) count (ActiveElem table offset) (put b ts (done ++ w ∷ more)) ≡ Instance mid
      → Stepped count (ActiveElem table offset) w b ts done more mid
  active table count offset w b ts done more mid h = by (constant_number m offset) refl h
    where
      by : (o : Option ℕ) → constant_number m offset ≡ o → element_copied (length done) table count o (put b ts (done ++ w ∷ more)) ≡ Instance mid
          → Stepped count (ActiveElem table offset) w b ts done more mid
      by None known h = absurd (cc h)
      by (Some at) known h = made (effect_of table at count ts w) refl known
          (sym (ap (λ (o : Option Element). copied (ElementUnfit (length done)) (EmptyElement (length done)) (put b ts (done ++ w ∷ more))
          (table_init_effect table (slice_get ts table) o at 0 count)) (found_there done w more)) ∙ h)
        where
          made : (effect : BulkEffect) → effect_of table at count ts w ≡ effect → constant_number m offset ≡ Some at
              → copied (ElementUnfit (length done)) (EmptyElement (length done)) (put b ts (done ++ w ∷ more)) effect ≡ Instance mid
              → Stepped count (ActiveElem table offset) w b ts done more mid
          made (Makes change) e known k =
              let wrote = writes table at count (slice_get ts table) (Some w) change e in
              let effect = e ∙ ap (λ (c : Change). Makes c) wrote.1 in
              record {
                tables = overwrote table at wrote.0 ts;
                is = same_state mid (put b (overwrote table at wrote.0 ts) (done ++ without_items w ∷ more)) (sym h ∙ copies table at count b ts done w more wrote.0 effect);
                goes = record {
                  goes = λ c front behind.
                      ap (λ (o : Option ℕ). element_copied (length front) table count o (put c ts (front ++ w ∷ behind))) (constants offset ∙ known)
                      ∙ copies table at count c ts front w behind wrote.0 effect;
                };
                stays = λ passive. absurd (cc passive);
              }
          made (Aborts kind) e known k = absurd (cc k)
          made Misfits e known k = absurd (cc k)

  one : (count : ℕ) (mode : ElemMode) (w : Element) (b : State) (ts : List Table) (done more : List Element) (mid : State)
      → element_run m (length done) count mode (put b ts (done ++ w ∷ more)) ≡ Instance mid → Stepped count mode w b ts done more mid
  one count PassiveElem w b ts done more mid h = record {
    tables = ts;
    is = sym (same_state (put b ts (done ++ w ∷ more)) mid h);
    goes = record { goes = λ c front behind. refl };
    stays = λ passive. refl;
  }
  one count (ActiveElem table offset) w b ts done more mid h = active table count offset w b ts done more mid h
  one count DeclarativeElem w b ts done more mid h = record {
    tables = ts;
    is = same_state mid (put b ts (done ++ without_items w ∷ more)) (sym h ∙ (declares_alone m count w ts).goes b done more);
    goes = declares_alone out count w ts;
    stays = λ passive. refl;
  }

  -- a dropped passive segment is run through as a declarative one
  kept_step : (dropped : Bool) (e : Elem) (w : Element) (ts after : List Table) → (dropped ≡ true → e.mode ≡ PassiveElem) → (e.mode ≡ PassiveElem → after ≡ ts)
      → StepTo out (length e.init) e.mode w ts after
      → StepTo out (length (if dropped then as_declarative e else e).init) (if dropped then as_declarative e else e).mode w ts after
  kept_step true e w ts after passive stays h =
      subst (λ (now : List Table). StepTo out (length e.init) DeclarativeElem w ts now) (sym (stays (passive refl))) (declares_alone out (length e.init) w ts)
  kept_step false e w ts after passive stays h = h

  -- ---- all of them

  -- the tables that there are then, in the input and in the output
  pub record Ran (dropped : List ℕ) (index : ℕ) (es : List Elem) (ws : List Element) (b : State) (done : List Element) (ts : List Table) (now : State) : Type 0 where
    pub tables : List Table
    pub is : now ≡ put b tables (done ++ lefts es ws)
    pub goes : (c : State) (front more : List Element) → length front ≡ index
        → elements_run out index (kept_elements dropped index es) (put c ts (front ++ (ws ++ more)))
        ≡ Instance (put c tables (front ++ (lefts (kept_elements dropped index es) ws ++ more)))

  one_more : (dropped : List ℕ) (index : ℕ) (e : Elem) (es : List Elem) (w : Element) (ws : List Element) (b : State) (done : List Element) (ts : List Table) (now : State)
      → length done ≡ index → (is_dropped dropped index ≡ true → e.mode ≡ PassiveElem)
      → ((more : List Element) (after : List Table) → length more ≡ index + 1 → elements_run m (index + 1) es (put b after (more ++ ws)) ≡ Instance now
      → Ran dropped (index + 1) es ws b more after now)
      → (made : Fresh) → element_run m index (length e.init) e.mode (put b ts (done ++ w ∷ ws)) ≡ made
      → instance_then (λ next. elements_run m (index + 1) es next) made ≡ Instance now → Ran dropped index (e ∷ es) (w ∷ ws) b done ts now
  one_more dropped index e es w ws b done ts now at passive rest (Instance mid) h k =
      let step = one (length e.init) e.mode w b ts done ws mid
      (subst (λ (n : ℕ). element_run m n (length e.init) e.mode (put b ts (done ++ w ∷ ws)) ≡ Instance mid) (sym at) h) in
      let left = left_of e.mode w in
      let ran = rest (done ++ left ∷ []) step.tables (one_longer done left index at)
      (ap (λ (els : List Element). elements_run m (index + 1) es (put b step.tables els)) (append_assoc done (left ∷ []) ws)
      ∙ ap (λ (s : State). elements_run m (index + 1) es s) (sym step.is) ∙ k) in
      let first = kept_step (is_dropped dropped index) e w ts step.tables passive step.stays step.goes in
      let kept = if is_dropped dropped index then as_declarative e else e in
      let others = kept_elements dropped (index + 1) es in
      record {
        tables = ran.tables;
        is = ran.is ∙ ap (λ (els : List Element). put b ran.tables els) (append_assoc done (left ∷ []) (lefts es ws));
        goes = λ c front more same.
            let new = left_of kept.mode w in
            ap (λ (made : Fresh). instance_then (λ next. elements_run out (index + 1) others next) made)
            (subst (λ (n : ℕ). element_run out n (length kept.init) kept.mode (put c ts (front ++ w ∷ (ws ++ more))) ≡ Instance (put c step.tables (front ++ new ∷ (ws ++ more))))
            same (first.goes c front (ws ++ more)))
            ∙ ap (λ (els : List Element). elements_run out (index + 1) others (put c step.tables els)) (sym (append_assoc front (new ∷ []) (ws ++ more)))
            ∙ ran.goes c (front ++ new ∷ []) more (one_longer front new index same)
            ∙ ap (λ (els : List Element). Instance (put c ran.tables els)) (append_assoc front (new ∷ []) (lefts others ws ++ more));
      }
  one_more dropped index e es w ws b done ts now at passive rest (ElementUnfit i) h k = absurd (cc k)
  one_more dropped index e es w ws b done ts now at passive rest (DataUnfit i) h k = absurd (cc k)
  one_more dropped index e es w ws b done ts now at passive rest NoInstance h k = absurd (cc k)

  pub runs : (dropped : List ℕ) (index : ℕ) (es : List Elem) (ws : List Element) (b : State) (done : List Element) (ts : List Table) (now : State)
      → length es ≡ length ws → length done ≡ index → DroppedArePassive dropped index es
      → elements_run m index es (put b ts (done ++ ws)) ≡ Instance now → Ran dropped index es ws b done ts now
  runs dropped index [] [] b done ts now many at passive h = record {
    tables = ts;
    is = sym (same_state (put b ts (done ++ [])) now h);
    goes = λ c front more same. refl;
  }
  runs dropped index [] (w ∷ ws) b done ts now many at passive h = absurd (omega (arith, many))
  runs dropped index (e ∷ es) [] b done ts now many at passive h = absurd (omega (arith, many))
  runs dropped index (e ∷ es) (w ∷ ws) b done ts now many at passive h =
      one_more dropped index e es w ws b done ts now at (λ is. passive.0 (cc is))
      (λ more after long k. runs dropped (index + 1) es ws b more after now (omega (arith, many)) long passive.1 k)
      (element_run m index (length e.init) e.mode (put b ts (done ++ w ∷ ws))) refl h
