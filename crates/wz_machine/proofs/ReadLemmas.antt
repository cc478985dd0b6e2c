-- What instructions and steps look at.
use Rattle.std.proofs.Common.{◌≡◌, ℕ, zero, suc, ◌<◌, List, [], ◌∷◌, ◌++◌, refl, ap, ◌∙◌, slice_get, length, arith}
use Rattle.wz_types.specs.declared.value.Value.{Value}
use Rattle.wz_code.specs.declared.instr.Instr.{Instr}
use Rattle.wz_code.specs.declared.instr.Instr.TheVariants.{CallIndirect, GlobalGet, GlobalSet, TableGet, TableSet, TableInit, ElemDrop, TableCopy, TableGrow, TableSize, TableFill, Access, MemorySize, MemoryGrow, MemoryInit, DataDrop, MemoryCopy, MemoryFill}
use Rattle.wz_code.specs.Accesses.{shape_of}
use Rattle.wz_code.specs.Trees.{Code, End, Then, InBlock, InLoop, InIf, Leaf, Plain, TableBranch, TypedSelect}
use Rattle.wz_store.specs.State.{Global, Table, Memory, Element}
use Rattle.wz_machine.specs.State.{State}
use Rattle.wz_machine.specs.Terms.{Inside, Innermost, InLabel, InFrame, Frame, BareValues}
use Rattle.wz_machine.specs.Outcomes.{Outcome, Does, Reduct}
use Rattle.wz_machine.specs.VariableSteps.{global_get_step, global_set_step}
use Rattle.wz_machine.specs.TableSteps.{table_get_step, table_set_step, table_size_step, table_grow_step, table_fill_step, table_copy_step, table_init_step, elem_drop_step}
use Rattle.wz_machine.specs.MemorySteps.{access_step, memory_size_step, memory_grow_step, memory_fill_step, memory_copy_step, memory_init_step, data_drop_step}
use Rattle.wz_machine.specs.CallSteps.{call_indirect_step}
use Rattle.wz_machine.specs.InstrSteps.{instr_step, leaf_step}
use Rattle.wz_machine.specs.BlockSteps.{label_reduct, frame_reduct}
use Rattle.wz_machine.specs.Step.{outcome_reduct, code_reduct, inside_reduct, frame_answer}
use Rattle.wz_machine.specs.Leaves.{CodeHas, InsideHas}
use Rattle.wz_machine.specs.Within.{with_parts, LooksAlike, LeafLooksAlike, InstrWithin, NamesIn, with_more}
use Rattle.wz_machine.specs.Laws.{LeafReads, StepReads, LeafSame, StepSame}
use Rattle.wz_machine.proofs.LeafLemmas.{term-on}

module _ (s : State) (globals : List Global) (tables : List Table) (memories : List Memory) (elements : List Element) (datas : List (List ℕ)) where
  abbrev other : State
  other = with_parts s globals tables memories elements datas

  instr-reads : (locals : List Value) (instr : Instr) (values : List Value) → LooksAlike other s instr
      → instr_step other locals instr values ≡ instr_step s locals instr values
  instr-reads locals (GlobalGet index) values h = ap (λ g. Does (global_get_step g values)) h
  instr-reads locals (GlobalSet index) values h = ap (λ g. Does (global_set_step (length s.functions) (length s.types) index g values)) h
  instr-reads locals (TableGet table) values h = ap (λ t. Does (table_get_step t values)) h
  instr-reads locals (TableSet table) values h = ap (λ t. Does (table_set_step table t values)) h
  instr-reads locals (TableSize table) values h = ap (λ t. Does (table_size_step t values)) h
  instr-reads locals (TableGrow table) values h = ap (λ t. Does (table_grow_step table t values)) h
  instr-reads locals (TableFill table) values h = ap (λ t. Does (table_fill_step table t values)) h
  instr-reads locals (TableCopy to from) values h =
      ap (λ t. Does (table_copy_step to t (slice_get tables from) values)) h.0 ∙ ap (λ t. Does (table_copy_step to (slice_get s.tables to) t values)) h.1
  instr-reads locals (TableInit segment table) values h =
      ap (λ t. Does (table_init_step table t (slice_get elements segment) values)) h.0 ∙ ap (λ e. Does (table_init_step table (slice_get s.tables table) e values)) h.1
  instr-reads locals (ElemDrop segment) values h = ap (λ e. Does (elem_drop_step segment e values)) h
  instr-reads locals (Access op align offset memory) values h = ap (λ m. Does (access_step (shape_of op) offset memory m values)) h
  instr-reads locals (MemorySize memory) values h = ap (λ m. Does (memory_size_step m values)) h
  instr-reads locals (MemoryGrow memory) values h = ap (λ m. Does (memory_grow_step memory m values)) h
  instr-reads locals (MemoryFill memory) values h = ap (λ m. Does (memory_fill_step memory m values)) h
  instr-reads locals (MemoryCopy to from) values h =
      ap (λ m. Does (memory_copy_step to m (slice_get memories from) values)) h.0 ∙ ap (λ m. Does (memory_copy_step to (slice_get s.memories to) m values)) h.1
  instr-reads locals (MemoryInit segment memory) values h =
      ap (λ m. Does (memory_init_step memory m (slice_get datas segment) values)) h.0 ∙ ap (λ d. Does (memory_init_step memory (slice_get s.memories memory) d values)) h.1
  instr-reads locals (DataDrop segment) values h = ap (λ d. Does (data_drop_step segment d values)) h
  instr-reads locals (CallIndirect signature table) values h =
      ap (λ t. call_indirect_step s.types s.functions (slice_get s.types signature) t values) h
  instr-reads locals instr values h = refl

  leaf-reads : (locals : List Value) (leaf : Leaf) (values : List Value) → LeafLooksAlike other s leaf
      → leaf_step other locals leaf values ≡ leaf_step s locals leaf values
  leaf-reads locals (Plain instr) values h = instr-reads locals instr values h
  leaf-reads locals (TableBranch labels last) values h = refl
  leaf-reads locals (TypedSelect types) values h = refl

  code-reads : (locals values : List Value) (code : Code) → CodeHas (LeafLooksAlike other s) code
      → code_reduct other locals values code ≡ code_reduct s locals values code
  code-reads locals values End h = refl
  code-reads locals values (Then leaf rest) h = ap (λ (outcome : Outcome). outcome_reduct locals rest outcome) (leaf-reads locals leaf values h.0)
  code-reads locals values (InBlock shape inner rest) h = refl
  code-reads locals values (InLoop shape inner rest) h = refl
  code-reads locals values (InIf shape first second rest) h = refl

  inside-reads : (locals : List Value) (inside : Inside) → InsideHas (LeafLooksAlike other s) inside
      → inside_reduct other locals inside ≡ inside_reduct s locals inside
  inside-reads locals (Innermost values code) h = code-reads locals values code h
  inside-reads locals (InLabel below count again inside rest) h =
      ap (λ (reduct : Reduct). label_reduct locals below count again rest reduct) (inside-reads locals inside h.1)
  inside-reads locals (InFrame below count own inside rest) h =
      ap (λ (reduct : Reduct). frame_reduct locals below count own rest reduct) (inside-reads own inside h.0)

pub leaf_reads : LeafReads
leaf_reads s globals tables memories elements datas locals leaf values h = leaf-reads s globals tables memories elements datas locals leaf values h

pub step_reads : StepReads
step_reads s globals tables memories elements datas (Frame count locals inside) h =
    ap (λ (reduct : Reduct). frame_answer count locals reduct) (inside-reads s globals tables memories elements datas locals inside h)
step_reads s globals tables memories elements datas (BareValues values) h = refl

-- ---- more segments

get-front : {A : Type 0} (xs ys : List A) (i : ℕ) → i < length xs → slice_get (xs ++ ys) i ≡ slice_get xs i
get-front [] ys i h = absurd (omega arith)
get-front (x ∷ xs) ys zero h = refl
get-front (x ∷ xs) ys (suc i) h = get-front xs ys i (omega arith)

module _ (s : State) (elements : List Element) (datas : List (List ℕ)) where
  more-looks : (instr : Instr) → InstrWithin (length s.elements) (length s.datas) instr → LooksAlike (with_more s elements datas) s instr
  more-looks (TableInit segment table) h = (refl, get-front s.elements elements segment h)
  more-looks (ElemDrop segment) h = get-front s.elements elements segment h
  more-looks (MemoryInit segment memory) h = (refl, get-front s.datas datas segment h)
  more-looks (DataDrop segment) h = get-front s.datas datas segment h
  more-looks (TableCopy to from) h = (refl, refl)
  more-looks (MemoryCopy to from) h = (refl, refl)
  more-looks (GlobalGet index) h = refl
  more-looks (GlobalSet index) h = refl
  more-looks (TableGet table) h = refl
  more-looks (TableSet table) h = refl
  more-looks (TableSize table) h = refl
  more-looks (TableGrow table) h = refl
  more-looks (TableFill table) h = refl
  more-looks (Access op align offset memory) h = refl
  more-looks (MemorySize memory) h = refl
  more-looks (MemoryGrow memory) h = refl
  more-looks (MemoryFill memory) h = refl
  more-looks (CallIndirect signature table) h = refl
  more-looks instr h = tt

  more-leaf : (leaf : Leaf) → NamesIn s leaf → LeafLooksAlike (with_more s elements datas) s leaf
  more-leaf (Plain instr) h = more-looks instr h
  more-leaf (TableBranch labels last) h = tt
  more-leaf (TypedSelect types) h = tt

pub leaf_same : LeafSame
leaf_same s elements datas locals leaf values h =
    leaf-reads s s.globals s.tables s.memories (s.elements ++ elements) (s.datas ++ datas) locals leaf values (more-leaf s elements datas leaf h)

pub step_same : StepSame
step_same s elements datas term h =
    step_reads s s.globals s.tables s.memories (s.elements ++ elements) (s.datas ++ datas) term
    (term-on (NamesIn s) (LeafLooksAlike (with_more s elements datas) s) (more-leaf s elements datas) term h)
