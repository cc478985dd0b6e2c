-- Table instructions do what their rules say.
use Rattle.std.proofs.Common.{◌≡◌, ◌≤◌, ◌+◌, ◌^◌, ◌∷◌, ◌&&◌, [], ℕ, if◌then◌else◌, List, Option, slice_get, Some, None, drop, refl, Bool, true, length, subst, take, nat_le, arith, nat_lt, ltb-true, lt-ltb, ap, option_map, replicate}
use Rattle.std.proofs.lemmas.Bool.{and_parts, leb-true}
use Rattle.std.proofs.lemmas.List.{length-take, length-replicate}
use Rattle.std.proofs.lemmas.Option.{slice_get-map}
use Rattle.wz_types.specs.declared.types.RefKind.{RefKind}
use Rattle.wz_types.specs.declared.value.Reference.{Reference}
use Rattle.wz_types.specs.declared.value.Value.{Value}
use Rattle.wz_types.specs.Fits.{type_of_kind, kind_of}
use Rattle.wz_types.specs.SameType.{same_kind}
use Rattle.wz_types.specs.declared.trap.TrapKind.TheVariants.{TableBounds}
use Rattle.wz_types.specs.declared.value.Value.TheVariants.{Ref, I32}
use Rattle.wz_types.specs.declared.types.ValType.TheVariants as valtype
use Rattle.wz_valid_code.specs.Operands.{Operands}
use Rattle.wz_store.specs.State.{Table, Element}
use Rattle.wz_store.specs.Changes.{WriteTable, Nothing}
use Rattle.wz_store.specs.Growth.{may_extend}
use Rattle.wz_bulk.specs.TableEffects.{entry_or_trap, entries_effect}
use Rattle.wz_bulk.specs.Effects.{BulkEffect, Makes, Aborts, Misfits, within}
use Rattle.wz_machine.specs.State.{State}
use Rattle.wz_machine.specs.TypedState.{IsStateTyped, state_context, HaveKind, HasType}
use Rattle.wz_machine.specs.TableSteps.{entry_effect, table_get_step, table_set_step, table_size_step, table_grow_step, table_init_step, table_copy_step, table_fill_step}
use Rattle.wz_machine.specs.BulkSteps.{bulk_step, minus_one}
use Rattle.wz_machine.specs.Outcomes.{Effect, Poses, Yields, HasNoRule}
use Rattle.wz_machine.specs.Terms.{AskTable}
use Rattle.wz_machine.proofs.StuckRelations.{Have, EffectServes}
use Rattle.wz_machine.proofs.StuckOperands.{Serves, take-i32, if-true, if-tested, take-ref, kind-fits, take-three}
use Rattle.wz_machine.proofs.StuckParts.{every-one, every-part, every-same}
use Rattle.wz_machine.proofs.LeafLemmas.{if-both}

module _ (s : State) (typed : IsStateTyped (state_context s) s) where
  entry-serves : (kind : RefKind) (entries : List Reference) (o : Option Reference) (at : ℕ) (values : List Value) (below : Operands) → slice_get entries at ≡ o
      → HaveKind (state_context s) kind entries → Have s values below → EffectServes s (Some (type_of_kind kind) ∷ below) (entry_effect (entry_or_trap o) values)
  entry-serves kind entries None at values below is every st = tt
  entry-serves kind entries (Some reference) at values below is every st = (tt, (every at reference is, st))

  pub get-serves : (index : ℕ) (table : Table) → slice_get s.tables index ≡ Some table
      → Serves s (λ vs. table_get_step (Some table) vs) (valtype.I32 ∷ []) (type_of_kind table.kind ∷ [])
  get-serves index table is values below off st =
      take-i32 (state_context s) (λ vs. Have s (drop 1 vs) below → EffectServes s (Some (type_of_kind table.kind) ∷ below) (table_get_step (Some table) vs)) []
      (λ at vs lt off st. entry-serves table.kind table.entries (slice_get table.entries at) at vs below refl (typed.tables index table is) st) values off st

  write-serves : (index : ℕ) (table : Table) (kind : RefKind) (to : ℕ) (new : List Reference) (fits : Bool) (values : List Value) (below : Operands)
      → slice_get s.tables index ≡ Some table
      → same_kind kind table.kind ≡ true → HaveKind (state_context s) table.kind new → (fits ≡ true → to + length new ≤ length table.entries) → Have s values below
      → EffectServes s below (bulk_step values (entries_effect index table kind to new fits))
  write-serves index table kind to new fits values below is same every le st =
      if-true (λ (e : BulkEffect). EffectServes s below (bulk_step values e)) (same_kind kind table.kind)
      (if fits then Makes (WriteTable index to new) else Aborts TableBounds) Misfits same
      (if-tested (λ (e : BulkEffect). EffectServes s below (bulk_step values e)) fits (Makes (WriteTable index to new)) (Aborts TableBounds)
      (λ test. (
        (λ other is_other. let e : table ≡ other = cc in
            subst (λ (t : Table). HaveKind (state_context s) t.kind new × (to + length new ≤ length t.entries)) e (every, le test)),
        st,
      )) tt)

  range-short : (table : Table) (to : ℕ) (source : List Reference) (from count : ℕ) → (within to count (length table.entries) && within from count (length source)) ≡ true
      → to + length (take count (drop from source)) ≤ length table.entries
  range-short table to source from count test =
      let r = and_parts (nat_le (to + count) (length table.entries)) (nat_le (from + count) (length source)) test in
      let le = leb-true (to + count) (length table.entries) r.0 in omega (arith, le, length-take count (drop from source))

  pub set-serves : (index : ℕ) (table : Table) → slice_get s.tables index ≡ Some table
      → Serves s (λ vs. table_set_step index (Some table) vs) (valtype.I32 ∷ type_of_kind table.kind ∷ []) []
  set-serves index table is values below off st =
      take-ref (state_context s) (λ vs. Have s (drop 2 vs) below → EffectServes s below (table_set_step index (Some table) vs)) table.kind
      (valtype.I32 ∷ [])
      (λ reference vs fit off. take-i32 (state_context s) (λ vs. Have s (drop 1 vs) below → EffectServes s below
      (table_set_step index (Some table) (Ref reference ∷ vs))) []
      (λ at vs lt off st. write-serves index table (kind_of reference) at (reference ∷ []) (nat_lt at (length table.entries)) vs below is
      (kind-fits (state_context s) reference table.kind fit) (every-one (state_context s) table.kind reference fit)
      (λ test. let lt = ltb-true at (length table.entries) test in omega (arith, lt)) st) vs off) values off st

  pub size-serves : (index : ℕ) (table : Table) → slice_get s.tables index ≡ Some table → Serves s (λ vs. table_size_step (Some table) vs) [] (valtype.I32 ∷ [])
  size-serves index table is values below off st = (tt, (lt-ltb (length table.entries) (2 ^ 32) (typed.sizes index table is), st))

  pub grow-serves : (index : ℕ) (table : Table) → slice_get s.tables index ≡ Some table
      → Serves s (λ vs. table_grow_step index (Some table) vs) (type_of_kind table.kind ∷ valtype.I32 ∷ []) (valtype.I32 ∷ [])
  grow-serves index table is values below off st =
      let next : Operands = Some valtype.I32 ∷ below in
      take-i32 (state_context s) (λ vs. Have s (drop 2 vs) below → EffectServes s next (table_grow_step index (Some table) vs))
      (type_of_kind table.kind ∷ [])
      (λ by vs lt off. take-ref (state_context s) (λ vs. Have s (drop 1 vs) below → EffectServes s next
      (table_grow_step index (Some table) (I32 by ∷ vs))) table.kind []
      (λ reference vs fit off st. if-true (λ (e : Effect). EffectServes s next e) (same_kind (kind_of reference) table.kind)
      (if may_extend (length table.entries) table.maximum by then Poses (AskTable index by reference) vs else Yields Nothing (minus_one ∷ vs)) HasNoRule
      (kind-fits (state_context s) reference table.kind fit)
      (if-both (λ (e : Effect). EffectServes s next e) (may_extend (length table.entries) table.maximum by) (Poses (AskTable index by reference) vs)
      (Yields Nothing (minus_one ∷ vs)) (
        below,
        st,
        refl,
        λ kind is_kind. let same =
            slice_get-map (λ (t : Table). t.kind) s.tables index in let here = ap (λ (o : Option Table). option_map (λ (t : Table). t.kind) o) is in
            let e : table.kind ≡ kind = cc in subst (λ (k : RefKind). HasType (state_context s) (Ref reference) (type_of_kind k)) e fit,
      )
      (tt, (refl, st)))) vs off) values off st

  -- from a list of references of the table's kind
  pub init-serves : (index : ℕ) (table : Table) (segment : ℕ) (element : Element) → slice_get s.tables index ≡ Some table → slice_get s.elements segment ≡ Some element
      → same_kind element.kind table.kind ≡ true → element.kind ≡ table.kind
      → Serves s (λ vs. table_init_step index (Some table) (Some element) vs) (valtype.I32 ∷ valtype.I32 ∷ valtype.I32 ∷ []) []
  init-serves index table segment element is is_element same kinds values below off st =
      take-three (state_context s) (λ vs. Have s (drop 3 vs) below → EffectServes s below (table_init_step index (Some table) (Some element) vs))
      (λ count from to vs st. write-serves index table element.kind to (take count (drop from element.items))
      (within to count (length table.entries) && within from count (length element.items)) vs below is same
      (every-part (state_context s) table.kind element.items from count
      (subst (λ (k : RefKind). HaveKind (state_context s) k element.items) kinds (typed.elements segment element is_element)))
      (λ test. range-short table to element.items from count test) st) values off st

  pub copy-serves : (index : ℕ) (table : Table) (other : ℕ) (source : Table) → slice_get s.tables index ≡ Some table → slice_get s.tables other ≡ Some source
      → same_kind source.kind table.kind ≡ true → source.kind ≡ table.kind
      → Serves s (λ vs. table_copy_step index (Some table) (Some source) vs) (valtype.I32 ∷ valtype.I32 ∷ valtype.I32 ∷ []) []
  copy-serves index table other source is is_source same kinds values below off st =
      take-three (state_context s) (λ vs. Have s (drop 3 vs) below → EffectServes s below (table_copy_step index (Some table) (Some source) vs))
      (λ count from to vs st. write-serves index table source.kind to (take count (drop from source.entries))
      (within to count (length table.entries) && within from count (length source.entries)) vs below is same
      (every-part (state_context s) table.kind source.entries from count
      (subst (λ (k : RefKind). HaveKind (state_context s) k source.entries) kinds (typed.tables other source is_source)))
      (λ test. range-short table to source.entries from count test) st) values off st

  pub fill-serves : (index : ℕ) (table : Table) → slice_get s.tables index ≡ Some table
      → Serves s (λ vs. table_fill_step index (Some table) vs) (valtype.I32 ∷ type_of_kind table.kind ∷ valtype.I32 ∷ []) []
  fill-serves index table is values below off st =
      take-i32 (state_context s) (λ vs. Have s (drop 3 vs) below → EffectServes s below (table_fill_step index (Some table) vs))
      (type_of_kind table.kind ∷ valtype.I32 ∷ [])
      (λ count vs lt off. take-ref (state_context s) (λ vs. Have s (drop 2 vs) below → EffectServes s below
      (table_fill_step index (Some table) (I32 count ∷ vs))) table.kind (valtype.I32 ∷ [])
      (λ reference vs fit off. take-i32 (state_context s) (λ vs. Have s (drop 1 vs) below → EffectServes s below
      (table_fill_step index (Some table) (I32 count ∷ Ref reference ∷ vs))) []
      (λ to vs lt off st. write-serves index table (kind_of reference) to (replicate count reference) (nat_le (to + count) (length table.entries)) vs below is
      (kind-fits (state_context s) reference table.kind fit) (every-same (state_context s) table.kind reference count fit)
      (λ test. let le = leb-true (to + count) (length table.entries) test in let long = length-replicate count reference in
      omega (arith, le, long)) st) vs off) vs off) values off st
