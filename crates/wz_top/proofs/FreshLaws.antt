-- The output's fresh instance is the state that the run reached.
use Rattle.std.proofs.Common.{◌≡◌, ℕ, zero, suc, ◌+◌, ◌*◌, ◌<◌, ◌⊎◌, inl, List, [], ◌∷◌, ◌++◌, length, map, Option, Some, Bool, slice_get, refl, sym, ap, subst, ◌∙◌, arith, All}
use Rattle.std.proofs.Math.ListN.{length-map, length-replicate}
use Rattle.std.proofs.lemmas.List.Elements.{All-nil, All-cons}
use Rattle.wz_types.specs.FunctionType.{FunctionType}
use Rattle.wz_types.specs.declared.types.RefKind.{RefKind}
use Rattle.wz_types.specs.declared.types.RefKind.TheVariants as kind
use Rattle.wz_types.specs.declared.types.MemType.{MemType}
use Rattle.wz_types.specs.declared.value.Reference.TheVariants.{Fn}
use Rattle.wz_types.specs.Fits.{Fits}
use Rattle.wz_code.specs.Trees.{Code}
use Rattle.wz_module.specs.Elements.{Elem}
use Rattle.wz_module.specs.Module.{Module}
use Rattle.wz_valid.specs.Indices.{all_functions}
use Rattle.wz_valid.specs.Validity.{IsValid}
use Rattle.wz_valid.specs.Profile.{IsInProfile}
use Rattle.wz_valid.specs.Laws.{GlobalsAreOk, ElementsAreOk}
use Rattle.wz_plan.specs.Laws.{PlanCovers}
use Rattle.wz_store.specs.State.{Global, Table, Memory, Element, page_size}
use Rattle.wz_store.specs.Changes.{without_items}
use Rattle.wz_store.specs.Made.{new_table, new_memory, new_element}
use Rattle.wz_machine.specs.State.{State, FunctionInstance, LastingParts, lasting_parts}
use Rattle.wz_encode.specs.Datas.{Slot}
use Rattle.wz_encode.specs.Elements.{kept_elements, declaring, declarations}
use Rattle.wz_snapshot.specs.declared.segment.ChosenSegment.{ChosenSegment}
use Rattle.wz_snapshot.specs.Recorded.{chosen_segments, has_no_items, recorded}
use Rattle.wz_snapshot.specs.Laws.{ChosenAreRanges, IsRangeOf}
use Rattle.wz_exports.specs.Kept.{KeptExports}
use Rattle.wz_rewrite.specs.OutputState.{OutputState, reached_state}
use Rattle.wz_rewrite.specs.Dropped.{dropped_elements, is_empty_at}
use Rattle.wz_rewrite.specs.Slots.{output_slots}
use Rattle.wz_rewrite.specs.Output.{output_module, rewritten_module}
use Rattle.wz_rewrite.proofs.ContentLemmas.{dropped_passive}
use Rattle.wz_init.specs.Functions.{functions_in}
use Rattle.wz_init.specs.Constants.{constant_number}
use Rattle.wz_init.specs.Allocation.{first_globals, first_elements, allocated_of, allocated}
use Rattle.wz_init.specs.Instances.{Instance, ElementUnfit, DataUnfit, NoInstance, Fresh, instance_then}
use Rattle.wz_init.specs.Instantiation.{element_run, elements_run, datas_run, segments_run, from_allocated, instantiated, fresh}
use Rattle.wz_init.specs.declared.order.RunOrder.{RunOrder}
use Rattle.wz_init.specs.Ready.{Reached, phases, ready_from, ready}
use Rattle.wz_init.specs.Reached.{IsLeftOf, IsReachedOf, lasting_of}
use Rattle.wz_init.proofs.AllocationLemmas.{allocated_by}
use Rattle.wz_init.proofs.ConstantLemmas.{as_many_functions}
use Rattle.wz_init.proofs.FreshLemmas.{was_allocated}
use Rattle.wz_init.proofs.LeftLemmas.{phases_left}
use Rattle.wz_init.proofs.LawLemmas.{fresh_is_reached}
use Rattle.wz_top.specs.FreshOutput.{StartsAs, OutputStartsAsReached}
use Rattle.wz_top.proofs.FreshRunLemmas.{AreWhole, phases_kept}
use Rattle.wz_top.proofs.FreshPartsLemmas.{FitsIn, same_number, globals_given, elements_given, declared_elements, undeclared_there}
use Rattle.wz_top.proofs.FreshElementLemmas as element_lemmas
use Rattle.wz_top.proofs.FreshElementLemmas.{put, lefts, left_of, declares_alone}
use Rattle.wz_top.proofs.FreshDataLemmas as data_lemmas
use Rattle.wz_top.proofs.FreshDataLemmas.{filled, all_left}
use Rattle.wz_top.proofs.FreshMemoryLemmas.{AreNear, zeroed, begun, zeros_near, all_written}
use Rattle.wz_top.proofs.FreshSlotLemmas as slot_lemmas
use Rattle.wz_top.proofs.FreshSlotLemmas.{heads, heads_chosen, segments_for, bytes_for, slot_left, BeginsWith, begins}
use Rattle.wz_top.proofs.FreshKeptLemmas.{by_marks, lefts_are, sizes_of, kinds_of, many_elements}

-- ---- how the input was instantiated

split : (more : State → Fresh) (made : Fresh) (last : State) → instance_then more made ≡ Instance last
    → (mid : State) × (made ≡ Instance mid) × (more mid ≡ Instance last)
split more (Instance mid) last h = (mid, refl, h)
split more (ElementUnfit index) last h = absurd (cc h)
split more (DataUnfit index) last h = absurd (cc h)
split more NoInstance last h = absurd (cc h)

new_whole : (types : List MemType) → AreWhole (map new_memory types)
new_whole [] i memory here = absurd (cc here)
new_whole (type ∷ types) zero memory here =
    let same : new_memory type ≡ memory = cc here in
    let size = length-replicate {A = ℕ} (type.limits.min * page_size) 0 in
    let long : length memory.bytes ≡ type.limits.min * page_size = ap (λ (m : Memory). length m.bytes) (sym same) ∙ size in omega (arith, long)
new_whole (type ∷ types) (suc i) memory here = new_whole types i memory here

-- what the input's instantiation comes to, and how the output's element segments are run through
record IsMade (m out : Module) (constants : (code : Code) → constant_number out code ≡ constant_number m code) (dropped : List ℕ) (first : State) : Type 0 where
  ws : List Element
  given : first_elements m ≡ Some ws
  tables : List Table
  goes : (c : State) (more : List Element)
      → elements_run out 0 (kept_elements dropped 0 m.elements) (put c (map new_table m.tables) (ws ++ more))
      ≡ Instance (put c tables (lefts (kept_elements dropped 0 m.elements) ws ++ more))
  same_tables : first.tables ≡ tables
  elements : first.elements ≡ lefts m.elements ws
  datas : first.datas ≡ all_left m.datas
  whole : AreWhole first.memories

segments_made : (m : Module) (first was : State) → allocated m (functions_in m) ≡ Some was → fresh m ≡ Instance first → segments_run m was ≡ Instance first
unfolding fresh instantiated
segments_made m first was e made = sym (ap (λ (o : Option State). from_allocated m o) e) ∙ made

how_made : (m : Module) (o : OutputState) (first was : State) → allocated m (functions_in m) ≡ Some was → fresh m ≡ Instance first
    → IsMade m (output_module m o) (λ code. same_number m o code) (dropped_elements m o) first
how_made m o first was e made =
    let parts = was_allocated m (functions_in m) was e in
    let ws = parts.elements in
    let start = allocated_of m (functions_in m) parts.globals ws in
    let ran = subst (λ (t : State). segments_run m t ≡ Instance first) parts.is (segments_made m first was e made) in
    let halves = split (λ now. datas_run m 0 m.datas now) (elements_run m 0 m.elements start) first ran in
    let dropped = dropped_elements m o in
    let run = element_lemmas.runs m (output_module m o) (λ code. same_number m o code) dropped 0 m.elements ws start [] (map new_table m.tables) halves.0
    (many_elements m ws parts.second) refl (dropped_passive m o) halves.1 in
    let left = lefts m.elements ws in
    let rest = data_lemmas.runs m 0 m.datas (put start run.tables left) (map new_memory m.memories) [] first (new_whole m.memories) refl
    (ap (λ (t : State). datas_run m 0 m.datas t) (sym run.is) ∙ halves.2) in
    record {
      ws = ws;
      given = parts.second;
      tables = run.tables;
      goes = λ c more. run.goes c [] more refl;
      same_tables = ap (λ (t : State). t.tables) rest.is;
      elements = ap (λ (t : State). t.elements) rest.is;
      datas = ap (λ (t : State). t.datas) rest.is;
      whole = subst (λ (ms : List Memory). AreWhole ms) (sym (ap (λ (t : State). t.memories) rest.is)) rest.whole;
    }

-- ---- what the run left

record WasReached (m : Module) (s : State) : Type 0 where
  first : State
  was : IsReachedOf m first
  made : fresh m ≡ Instance first
  left : IsLeftOf first first s
  whole : AreWhole first.memories → AreWhole s.memories

was_reached : (m : Module) (order : RunOrder) (s : State) (ticks : ℕ) → GlobalsAreOk → ElementsAreOk → IsValid m → IsInProfile m → ready m order ≡ Reached s ticks → WasReached m s
unfolding ready
was_reached m order s ticks globals elements valid profile e = by (fresh m) refl e
  where
    by : (f : Fresh) → fresh m ≡ f → ready_from m order f ≡ Reached s ticks → WasReached m s
    by (Instance first) is e =
        let was = fresh_is_reached globals elements m first valid profile is in
        let itself : IsLeftOf first first first = record {
          lasting = refl;
          tables = refl;
          segments = record { elements = λ i x here. inl here; datas = λ i x here. inl here };
          pages = was.left.pages;
          sizes = was.left.sizes;
          fitting = was.left.fitting;
          own = was.left.own;
        } in
        record {
          first = first;
          was = was;
          made = is;
          left = phases_left first first (phases m.start order) first order.fuel 0 s ticks itself e;
          whole = λ whole. (phases_kept (phases m.start order) first order.fuel 0 s ticks (record { own = was.left.own; whole = whole }) e).whole;
        }
    by (ElementUnfit index) is e = absurd (cc e)
    by (DataUnfit index) is e = absurd (cc e)
    by NoInstance is e = absurd (cc e)

-- ---- the output's element segments

elements_append : (out : Module) (index : ℕ) (xs ys : List Elem) (s : State)
    → elements_run out index (xs ++ ys) s ≡ instance_then (λ now. elements_run out (index + length xs) ys now) (elements_run out index xs s)
elements_append out index [] ys s =
    let same : index ≡ index + 0 = omega arith in ap (λ (n : ℕ). elements_run out n ys s) same
elements_append out index (x ∷ xs) ys s = by (element_run out index (length x.init) x.mode s) (λ mid. elements_append out (index + 1) xs ys mid)
  where
    by : (made : Fresh)
        → ((mid : State) → elements_run out (index + 1) (xs ++ ys) mid ≡ instance_then (λ now. elements_run out ((index + 1) + length xs) ys now) (elements_run out (index + 1) xs mid))
        → instance_then (λ now. elements_run out (index + 1) (xs ++ ys) now) made
        ≡ instance_then (λ now. elements_run out (index + suc (length xs)) ys now) (instance_then (λ now. elements_run out (index + 1) xs now) made)
    by (Instance mid) rest =
        let same : (index + 1) + length xs ≡ index + suc (length xs) = omega arith in
        rest mid
        ∙ ap (λ (n : ℕ). instance_then (λ now. elements_run out n ys now) (elements_run out (index + 1) xs mid)) same
    by (ElementUnfit i) rest = refl
    by (DataUnfit i) rest = refl
    by NoInstance rest = refl

-- what is left of the segment that declares functions
abbrev declared_left : List ℕ → List Element
declared_left fs = map (λ (gs : List ℕ). new_element kind.Func []) (declarations fs)

declared_run : (out : Module) (fs : List ℕ) (c : State) (ts : List Table) (done : List Element) (index : ℕ) → length done ≡ index
    → elements_run out index (map declaring (declarations fs)) (put c ts (done ++ declared_elements fs)) ≡ Instance (put c ts (done ++ declared_left fs))
declared_run out [] c ts done index long = refl
declared_run out (f ∷ fs) c ts done index long =
    let w = new_element kind.Func (map Fn (f ∷ fs)) in
    let count = length (declaring (f ∷ fs)).init in
    ap (λ (made : Fresh). instance_then (λ now. elements_run out (index + 1) [] now) made)
    (subst (λ (n : ℕ). element_run out n count (declaring (f ∷ fs)).mode (put c ts (done ++ w ∷ [])) ≡ Instance (put c ts (done ++ without_items w ∷ []))) long
    ((declares_alone out count w ts).goes c done []))

declared_empty : (fs : List ℕ) → All (λ (element : Element). element.items ≡ []) (declared_left fs)
declared_empty [] = All-nil (λ (element : Element). element.items ≡ [])
declared_empty (f ∷ fs) = All-cons (λ (element : Element). element.items ≡ []) (new_element kind.Func []) [] refl (All-nil (λ (element : Element). element.items ≡ []))

-- a mark says whether a segment is empty
mark_at : {X : Type 0} (test : X → Bool) (xs : List X) (i : ℕ) (x : X) → slice_get xs i ≡ Some x → is_empty_at (map test xs) i ≡ test x
mark_at test [] i x h = absurd (cc h)
mark_at test (y ∷ xs) zero x h = let same : y ≡ x = cc h in ap test same
mark_at test (y ∷ xs) (suc i) x h = mark_at test xs i x h

marked : {X : Type 0} (test : X → Bool) (xs : List X) (i : ℕ) (x : X) → slice_get xs i ≡ Some x → is_empty_at (map test xs) (0 + i) ≡ test x
marked test xs i x here =
    let same : 0 + i ≡ i = omega arith in
    ap (λ (n : ℕ). is_empty_at (map test xs) n) same ∙ mark_at test xs i x here

lefts_long : (es : List Elem) (ws : List Element) → length es ≡ length ws → length (lefts es ws) ≡ length es
lefts_long [] [] h = refl
lefts_long [] (w ∷ ws) h = absurd (omega (arith, h))
lefts_long (e ∷ es) [] h = absurd (omega (arith, h))
lefts_long (e ∷ es) (w ∷ ws) h = ap suc (lefts_long es ws (omega (arith, h)))

kept_long : (dropped : List ℕ) (n : ℕ) (es : List Elem) → length (kept_elements dropped n es) ≡ length es
kept_long dropped n [] = refl
kept_long dropped n (e ∷ es) = ap suc (kept_long dropped (n + 1) es)

-- ---- the output

-- a state by its parts
abbrev state_with : List FunctionType → List FunctionInstance → List Global → List Table → List Memory → List Element → List (List ℕ) → State
state_with types functions globals tables memories elements datas =
    record { types = types; functions = functions; globals = globals; tables = tables; memories = memories; elements = elements; datas = datas }

module _ (m : Module) (s : State) (k : KeptExports) (valid : IsValid m) (was : WasReached m s) (covers : PlanCovers) (ranges : ChosenAreRanges) where
  abbrev o : OutputState
  o = reached_state m s k

  abbrev out : Module
  out = rewritten_module m s k

  abbrev dropped : List ℕ
  dropped = dropped_elements m o

  abbrev slots : List Slot
  slots = output_slots m o

  made : IsMade m out (λ code. same_number m o code) dropped was.first
  made = how_made m o was.first was.was.written was.was.allocation was.made

  lasting : lasting_parts s ≡ lasting_of m
  lasting = was.left.lasting ∙ was.was.module_parts

  whole : AreWhole s.memories
  whole = was.whole made.whole

  -- ---- what is allocated

  same_types : s.types ≡ m.types
  same_types = ap (λ (p : LastingParts). p.types) lasting

  same_functions : s.functions ≡ functions_in m
  same_functions = ap (λ (p : LastingParts). p.functions) lasting

  fitting : (i : ℕ) (g : Global) → slice_get s.globals i ≡ Some g → FitsIn m g
  fitting i g here =
      let count : length s.functions ≡ length (all_functions m) = ap (λ (fs : List FunctionInstance). length fs) same_functions ∙ as_many_functions m in (
        subst (λ (n : ℕ). Fits g.content g.type.value n (length m.types)) count
            (subst (λ (ts : List FunctionType). Fits g.content g.type.value (length s.functions) (length ts)) same_types (was.left.fitting i g here)),
        was.left.own.globals i g here,
      )

  globals_first : first_globals out ≡ Some s.globals
  globals_first = globals_given m o s.globals (ap (λ (p : LastingParts). p.globals) lasting) refl fitting

  abbrev declared : List Element
  declared = declared_elements o.undeclared

  elements_first : first_elements out ≡ Some (made.ws ++ declared)
  elements_first = elements_given m o made.ws made.given (undeclared_there m (recorded s) k valid)

  abbrev start : State
  start = allocated_of out (functions_in out) s.globals (made.ws ++ declared)

  fresh_is : fresh out ≡ segments_run out start
  unfolding fresh instantiated
  fresh_is = ap (λ (found : Option State). from_allocated out found) (allocated_by out (functions_in out) s.globals (made.ws ++ declared) globals_first elements_first)

  -- ---- element segments

  abbrev kept_left : List Element
  kept_left = lefts (kept_elements dropped 0 m.elements) made.ws

  abbrev more : List Element
  more = declared_left o.undeclared

  many : length m.elements ≡ length made.ws
  many = many_elements m made.ws made.given

  kept_is : kept_left ≡ s.elements
  kept_is =
      let kinds : map (λ (w : Element). w.kind) s.elements ≡ map (λ (e : Elem). e.kind) m.elements = ap (λ (p : LastingParts). p.element_kinds) lasting in
      let long : length s.elements ≡ length m.elements =
      omega (arith, ap (λ (ks : List RefKind). length ks) kinds, length-map s.elements (λ (w : Element). w.kind), length-map m.elements (λ (e : Elem). e.kind)) in
      ap (λ (es : List Elem). lefts es made.ws) (by_marks o.empty_elements [] 0 m.elements (All-nil (λ (other : ℕ). other < 0)))
      ∙ lefts_are o.empty_elements 0 m.elements made.ws s.elements long (kinds_of m made.ws made.given ∙ sym kinds) (sizes_of m made.ws made.given)
      (λ i now here. marked (λ (element : Element). has_no_items element.items) s.elements i now here)
      (λ i now here.
      subst (λ (es : List Element). (slice_get es i ≡ Some now) ⊎ (now.items ≡ [])) made.elements (was.left.segments.elements i now here))

  elements_done : elements_run out 0 out.elements start ≡ Instance (put start made.tables (s.elements ++ more))
  elements_done =
      let kept = kept_elements dropped 0 m.elements in
      let fs = o.undeclared in
      elements_append out 0 kept (map declaring (declarations fs)) start
      ∙ ap (λ (run : Fresh). instance_then (λ now. elements_run out (0 + length kept) (map declaring (declarations fs)) now) run) (made.goes start declared)
      ∙ declared_run out fs start made.tables kept_left (0 + length kept)
      (omega (arith, lefts_long kept made.ws (kept_long dropped 0 m.elements ∙ many)))
      ∙ ap (λ (es : List Element). Instance (put start made.tables (es ++ more))) kept_is

  -- ---- data segments

  memories_begun : start.memories ≡ map zeroed s.memories
  memories_begun = begun m.memories s.memories (ap (λ (p : LastingParts). p.memory_maxima) lasting)

  heads_are : heads slots ≡ chosen_segments s.memories
  heads_are = heads_chosen o.empty_datas 0 m.datas o.chosen

  abbrev before : State
  before = put start made.tables (s.elements ++ more)

  run : slot_lemmas.Ran out s.memories before 0 slots (map zeroed s.memories) []
  run =
      slot_lemmas.runs out s.memories before 0 slots (map zeroed s.memories) [] refl
      (subst (λ (cs : List ChosenSegment). All (λ segment. IsRangeOf s.memories segment) cs) (sym heads_are) (ranges s.memories))
      (subst (λ (cs : List ChosenSegment). AreNear s.memories cs (map zeroed s.memories)) (sym heads_are) (zeros_near covers s.memories whole))

  left : BeginsWith slots s.datas
  left =
      let long : length s.datas ≡ length m.datas = ap (λ (p : LastingParts). p.datas) lasting in
      begins o.empty_datas 0 m.datas o.chosen s.datas long (λ i now here. marked (λ (bytes : List ℕ). has_no_items bytes) s.datas i now here)
      (λ i now here. subst (λ (ds : List (List ℕ)). (slice_get ds i ≡ Some now) ⊎ (now ≡ [])) made.datas (was.left.segments.datas i now here))

  datas_done : datas_run out 0 out.datas before ≡ Instance (filled before s.memories (s.datas ++ left.more))
  datas_done =
      ap (λ (ms : List Memory). datas_run out 0 (segments_for s.memories slots) (filled before ms (bytes_for s.memories slots))) memories_begun
      ∙ run.is
      ∙ ap (λ (ms : List Memory). Instance (filled before ms (map slot_left slots))) (all_written s.memories run.memories run.near)
      ∙ ap (λ (ds : List (List ℕ)). Instance (filled before s.memories ds)) left.is

  -- ---- the whole

  same_tables : made.tables ≡ s.tables
  same_tables = sym (was.left.tables ∙ made.same_tables)

  starts : StartsAs out s
  starts = record {
    elements = more;
    datas = left.more;
    made =
        fresh_is ∙ ap (λ (done : Fresh). instance_then (λ now. datas_run out 0 out.datas now) done) elements_done ∙ datas_done
        ∙ ap (λ (types : List FunctionType). Instance (state_with types (functions_in m) s.globals made.tables s.memories (s.elements ++ more) (s.datas ++ left.more)))
        (sym same_types)
        ∙ ap (λ (functions : List FunctionInstance). Instance (state_with s.types functions s.globals made.tables s.memories (s.elements ++ more) (s.datas ++ left.more)))
        (sym same_functions)
        ∙ ap (λ (tables : List Table). Instance (state_with s.types s.functions s.globals tables s.memories (s.elements ++ more) (s.datas ++ left.more))) same_tables;
    without_items = declared_empty o.undeclared;
    without_bytes = left.empty;
  }

pub output_starts_as_reached : GlobalsAreOk → ElementsAreOk → PlanCovers → ChosenAreRanges → OutputStartsAsReached
output_starts_as_reached globals elements covers ranges m order s ticks k valid profile e =
    starts m s k valid (was_reached m order s ticks globals elements valid profile e) covers ranges
