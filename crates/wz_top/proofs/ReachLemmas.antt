-- What a state that a run reached is like, for what is recorded of it and written.
use Rattle.std.proofs.Common.{◌≡◌, ℕ, zero, suc, ◌+◌, ◌<◌, ◌≤◌, List, [], ◌∷◌, ◌++◌, length, map, refl, sym, ap, subst, ◌∙◌, arith, length-append}
use Rattle.std.specs.Prelude.{Option, Some, None, IsSome, IsSomeAnd, slice_get, sum, ◌^◌}
use Rattle.std.specs.List.{All}
use Rattle.std.proofs.Math.ListN.{length-map}
use Rattle.std.proofs.lemmas.List.Elements.{All-nil, All-cons, All-head, All-tail}
use Rattle.std.proofs.lemmas.List.Sums.{sum-map}
use Rattle.wz_types.specs.declared.types.MemType.{MemType}
use Rattle.wz_types.specs.FunctionType.{FunctionType}
use Rattle.wz_module.specs.declared.items.ImportKind.{ImportKind}
use Rattle.wz_module.specs.declared.items.ImportKind.TheVariants as kind
use Rattle.wz_module.specs.Imports.{Import}
use Rattle.wz_module.specs.Functions.{BodyTree}
use Rattle.wz_module.specs.Globals.{GlobalDef}
use Rattle.wz_module.specs.Sections.{payload_of}
use Rattle.wz_module.specs.Module.{Module}
use Rattle.wz_decode_sections.specs.CodeSection.{IsCodeSection}
use Rattle.wz_decode.specs.Parts.{HoldsList}
use Rattle.wz_valid.specs.declared.faults.Part.TheVariants as part
use Rattle.wz_valid.specs.Items.{IsOnlyMemory}
use Rattle.wz_valid.specs.Limits.{IsMemoryOk}
use Rattle.wz_valid.specs.Validity.{IsValid}
use Rattle.wz_valid.specs.Profile.{IsInProfile}
use Rattle.wz_store.specs.declared.function.Function.{Function}
use Rattle.wz_store.specs.declared.function.Function.TheVariants as stored
use Rattle.wz_store.specs.State.{Global, Memory, pages_of, pages_together}
use Rattle.wz_store.specs.Made.{StoreState}
use Rattle.wz_snapshot.specs.declared.segment.ChosenSegment.{ChosenSegment}
use Rattle.wz_snapshot.specs.Recorded.{chosen_segments, recorded}
use Rattle.wz_snapshot.specs.Laws.{ChosenAreFew, ChosenAreRanges, IsRangeOf}
use Rattle.wz_machine.specs.State.{State, FunctionInstance, FunctionBody, ImportedBody, callable_of, callable_from, LastingParts}
use Rattle.wz_machine.specs.Entered.{entered_callable}
use Rattle.wz_exports.specs.Kept.{KeptExports}
use Rattle.wz_words.specs.Settings.{Settings}
use Rattle.wz_init.specs.declared.order.RunOrder.{RunOrder}
use Rattle.wz_init.specs.declared.order.Phase.{Phase}
use Rattle.wz_init.specs.Functions.{import_function, import_functions, own_functions, function_in, functions_in}
use Rattle.wz_init.specs.States.{state_in}
use Rattle.wz_init.specs.Instances.{Fresh, Instance, ElementUnfit, DataUnfit, NoInstance}
use Rattle.wz_init.specs.Instantiation.{fresh}
use Rattle.wz_init.specs.Run.{RunEnd, Returned, Stopped, run_standing, run}
use Rattle.wz_init.specs.Ready.{Ready, Reached, phases, phase_end, phases_run, ready_from, ready}
use Rattle.wz_init.specs.Laws.{FreshIsReached, RunIsReached}
use Rattle.wz_rewrite.specs.OutputState.{HasRange, HasRanges}
use Rattle.wz_rewrite.specs.Laws.{HasCode, SpellsElements, SectionsAreInOrder, InputSpellsElements, InputIsInOrder}
use Rattle.wz_top.specs.Making.{IsRun}
use Rattle.wz_top.proofs.OutsideLaws.{value_in}

-- ---- a run of a function of the host stops at once

abbrev Stops : RunEnd → Type 0
Stops (Returned s fuel ticks) = ⊥
Stops (Stopped stop) = Unit {0}

abbrev AreImports : List Function → Type 0
AreImports [] = Unit {0}
AreImports (stored.Own type body ∷ functions) = ⊥
AreImports (stored.Import type number ∷ functions) = AreImports functions

imports_behind : (k : ImportKind) (number : ℕ) (rest : List Function) → AreImports (rest ++ []) → AreImports ((import_function number k ++ rest) ++ [])
imports_behind (kind.Func type) number rest are = are
imports_behind (kind.Table type) number rest are = are
imports_behind (kind.Memory type) number rest are = are
imports_behind (kind.Global type) number rest are = are

imports_are : (number : ℕ) (imports : List Import) → AreImports (import_functions number imports ++ [])
imports_are number [] = tt
imports_are number (i ∷ imports) = imports_behind i.kind number (import_functions (number + 1) imports) (imports_are (number + 1) imports)

import_in : (bodies : List BodyTree) (functions : List Function) → AreImports functions → (index : ℕ) (f : FunctionInstance)
    → slice_get (map (λ x. function_in bodies x) functions) index ≡ Some f → (number : ℕ) × (f.body ≡ ImportedBody number)
import_in bodies [] are index f e = absurd cc
import_in bodies (stored.Own type body ∷ functions) are index f e = absurd are
import_in bodies (stored.Import type number ∷ functions) are zero f e =
    let same : function_in bodies (stored.Import type number) ≡ f = cc in (number, ap (λ (x : FunctionInstance). x.body) (sym same))
import_in bodies (stored.Import type number ∷ functions) are (suc index) f e = import_in bodies functions are index f e

import_stops : (fuel ticks : ℕ) (s : State) (type : Option FunctionType) (number : ℕ)
    → Stops (run_standing fuel ticks s (entered_callable (callable_of type (ImportedBody number)) []))
import_stops fuel ticks s None number = tt
import_stops fuel ticks s (Some type) number = tt

none_runs : (s : State) (function fuel ticks : ℕ)
    → ((index : ℕ) (f : FunctionInstance) → slice_get s.functions index ≡ Some f → (number : ℕ) × (f.body ≡ ImportedBody number)) → Stops (run s function fuel ticks)
unfolding run
none_runs s function fuel ticks imported = by (slice_get s.functions function) refl where
  by : (o : Option FunctionInstance) → slice_get s.functions function ≡ o → Stops (run_standing fuel ticks s (entered_callable (callable_from s.types o) []))
  by None e = tt
  by (Some f) e =
      let is = imported function f e in
      subst (λ (body : FunctionBody). Stops (run_standing fuel ticks s (entered_callable (callable_of (slice_get s.types f.signature) body) []))) (sym is.1)
      (import_stops fuel ticks s (slice_get s.types f.signature) is.0)

-- ---- so a module whose run reaches a state has functions of its own

stopped_is_not_reached : (phase : Phase) (later : State → ℕ → ℕ → Ready) (end : RunEnd) (s : State) (ticks : ℕ) → Stops end
    → phase_end phase later end ≡ Reached s ticks → ⊥
stopped_is_not_reached phase later (Returned now fuel made) s ticks stops e = absurd stops
stopped_is_not_reached phase later (Stopped stop) s ticks stops e = absurd cc

some_phase : (m : Module) (order : RunOrder) → 0 < length (phases m.start order)
some_phase m order = simp length-append (omega arith)

phases_need_own : (ps : List (Phase × ℕ)) (first s : State) (fuel made ticks : ℕ) → 0 < length ps
    → ((function : ℕ) → Stops (run first function fuel made)) → phases_run ps first fuel made ≡ Reached s ticks → ⊥
unfolding phases_run
phases_need_own [] first s fuel made ticks some stops e = absurd (omega (arith, some))
phases_need_own (p ∷ ps) first s fuel made ticks some stops e =
    stopped_is_not_reached p.0 (λ new left now. phases_run ps new left now) (run first p.1 fuel made) s ticks (stops p.1) e

pub has_functions : FreshIsReached → (m : Module) (order : RunOrder) (s : State) (ticks : ℕ) → IsValid m → IsInProfile m → ready m order ≡ Reached s ticks
    → 0 < length m.functions
unfolding ready
has_functions fresh_is m order s ticks valid inside e = by_fresh (fresh m) refl e where
  none : (first : State) → fresh m ≡ Instance first → m.functions ≡ [] → (function : ℕ) → Stops (run first function order.fuel 0)
  none first is empty function =
      let functions : first.functions ≡ functions_in m = ap (λ (p : LastingParts). p.functions) (fresh_is m first valid inside is).module_parts in
      none_runs first function order.fuel 0
      (λ index f found. import_in m.bodies (import_functions 0 m.imports ++ []) (imports_are 0 m.imports) index f
      (ap (λ (types : List ℕ). slice_get (map (λ x. function_in m.bodies x) (import_functions 0 m.imports ++ own_functions 0 types)) index) (sym empty)
      ∙ ap (λ (fs : List FunctionInstance). slice_get fs index) (sym functions) ∙ found))

  by_own : (first : State) → fresh m ≡ Instance first → (functions : List ℕ) → m.functions ≡ functions → phases_run (phases m.start order) first order.fuel 0 ≡ Reached s ticks
      → 0 < length m.functions
  by_own first is [] empty reached = absurd (phases_need_own (phases m.start order) first s order.fuel 0 ticks (some_phase m order) (none first is empty) reached)
  by_own first is (type ∷ types) own reached = subst (λ (fs : List ℕ). 0 < length fs) (sym own) (omega arith)

  by_fresh : (f : Fresh) → fresh m ≡ f → ready_from m order f ≡ Reached s ticks → 0 < length m.functions
  by_fresh (Instance first) is reached = by_own first is m.functions refl reached
  by_fresh (ElementUnfit index) is reached = absurd cc
  by_fresh (DataUnfit index) is reached = absurd cc
  by_fresh NoInstance is reached = absurd cc

pub some_payload : (payload : Option (List ℕ)) (bodies : List BodyTree) → HoldsList (λ t x. IsCodeSection t x) payload bodies → 0 < length bodies → IsSome payload
some_payload (Some payload) bodies holds some = refl
some_payload None bodies holds some = absurd (let none : length bodies ≡ 0 = ap (λ (bs : List BodyTree). length bs) holds in omega (arith, some, none))

-- ---- memories

pub one_memory : (m : Module) → IsValid m → length m.memories ≤ 1
one_memory m valid = by m.memories refl where
  too_many : 1 < length m.memories → ⊥
  too_many many =
      let only = value_in (λ (memory : MemType). IsMemoryOk memory × IsOnlyMemory m 1) (slice_get m.memories 1) (valid part.Memory 1 many) in
      absurd (let other = only.2.1 in omega (arith, other))

  by : (memories : List MemType) → m.memories ≡ memories → length m.memories ≤ 1
  by [] e = subst (λ (ms : List MemType). length ms ≤ 1) (sym e) (omega arith)
  by (one ∷ []) e = subst (λ (ms : List MemType). length ms ≤ 1) (sym e) (omega arith)
  by (one ∷ other ∷ more) e = absurd (too_many (subst (λ (ms : List MemType). 1 < length ms) (sym e) (omega arith)))

pub ranges_in : (memories : List Memory) (segments : List ChosenSegment) → All (λ segment. IsRangeOf memories segment) segments → HasRanges memories segments
ranges_in memories [] all = All-nil _
ranges_in memories (segment ∷ segments) all =
    All-cons (λ s. HasRange memories s) segment segments (range_in (slice_get memories segment.memory) (All-head (λ s. IsRangeOf memories s) segment segments all))
    (ranges_in memories segments (All-tail (λ s. IsRangeOf memories s) segment segments all)) where
      range_in : (o : Option Memory) → IsSomeAnd o (λ memory. (0 < segment.len) × (segment.at + segment.len ≤ length memory.bytes))
          → IsSomeAnd o (λ memory. segment.at + segment.len ≤ length memory.bytes)
      range_in (Some memory) h = h.1
      range_in None h = h

-- ---- all of it

pub record CanWrite (m : Module) (store : StoreState) : Type 0 where
  pub few : length store.memories ≤ 100
  pub small : pages_together store.memories ≤ 16384
  pub globals : length m.globals ≡ length (recorded store).globals
  pub code : HasCode m
  pub elements : SpellsElements m
  pub order : SectionsAreInOrder m.sections
  pub ranges : HasRanges store.memories (chosen_segments store.memories)
  pub segments : length (chosen_segments store.memories) ≤ 10000

pub can_write : FreshIsReached → RunIsReached → ChosenAreFew → ChosenAreRanges → InputSpellsElements → InputIsInOrder → (s : Settings) (bytes : List ℕ) (m : Module)
    (k : KeptExports) (store : StoreState) (ticks : ℕ) → IsRun s bytes m k store ticks → CanWrite m store
can_write fresh_is run_is few_are ranges_are spells rises s bytes m k store ticks run =
    let a = run.accepted in
    let is = run_is m _ (state_in m store) ticks a.valid a.inside run.reached in
    let maxima : length (map (λ (x : Memory). x.maximum) store.memories) ≡ length (map (λ x. x.limits.max) m.memories)
    = ap (λ (p : LastingParts). length p.memory_maxima) is.module_parts in
    let memories : length store.memories ≡ length m.memories
    = sym (length-map store.memories (λ (x : Memory). x.maximum)) ∙ maxima ∙ length-map m.memories (λ x. x.limits.max) in
    let kinds : length (map (λ (g : Global). g.type) store.globals) ≡ length (map (λ (g : GlobalDef). g.kind) m.globals)
    = ap (λ (p : LastingParts). length p.globals) is.module_parts in
    let one = one_memory m a.valid in
    let few : length store.memories ≤ 100 = omega (arith, memories, one) in
    let own = has_functions fresh_is m _ (state_in m store) ticks a.valid a.inside run.reached in
    record {
      few = few;
      small = is.left.pages;
      globals = sym (length-map m.globals (λ (g : GlobalDef). g.kind)) ∙ sym kinds ∙ length-map store.globals (λ (g : Global). g.type)
          ∙ sym (length-map store.globals (λ (g : Global). g.content));
      code = some_payload (payload_of 10 m.sections) m.bodies a.spelled.parts.bodies (let agree = a.spelled.counts.bodies in omega (arith, own, agree));
      elements = spells bytes m a.spelled;
      order = rises bytes m a.spelled;
      ranges = ranges_in store.memories (chosen_segments store.memories) (ranges_are store.memories);
      segments = few_are store.memories few;
    }

pub pages_fit : (store : StoreState) → pages_together store.memories ≤ 16384 → sum (recorded store).pages < 2 ^ 32
pages_fit store small = let together = sum-map pages_of store.memories in omega (arith, together, small)
