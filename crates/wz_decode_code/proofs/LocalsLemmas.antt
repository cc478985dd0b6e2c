-- The locals of a function.
use Rattle.std.proofs.Common.{◌≡◌, ℕ, ◌+◌, ◌<◌, ◌≤◌, ◌^◌, List, [], ◌∷◌, ◌++◌, Some, None, length, drop, refl, sym, ap, subst, ◌∙◌, arith}
use Rattle.std.proofs.lemmas.Bool.{lt-ltb, le-ltb}
use Rattle.std.proofs.lemmas.List.{drop_at}
use Rattle.wz_bytes.specs.Forms.{items_at, vector_at}
use Rattle.wz_bytes.proofs.ReadingLemmas.{whole_found, whole_none, whole_rest}
use Rattle.wz_bytes.proofs.UnsignedLaws.{unsigned_below}
use Rattle.wz_code.specs.BodyParts.{BodyParts, no_parts, with_locals}
use Rattle.wz_code.specs.Trees.{Code, End, tree_of}
use Rattle.wz_code.specs.BlockRule.{IsBuilding}
use Rattle.wz_code.proofs.LawLemmas.{starts_building}
use Rattle.wz_decode_code.specs.Instructions.{IsU32}
use Rattle.wz_decode_code.specs.InstrReading.{u32_at}
use Rattle.wz_decode_code.specs.Entry.{Run, IsLocalsRun, locals_count, IsEntry, code_entry_of, run_at, locals_at}
use Rattle.wz_decode_code.specs.Reading.{expression_at, entry_at}
use Rattle.wz_decode_code.specs.Laws.{SpellsNone}
use Rattle.wz_decode_code.specs.Pools.{with_runs, Added, LocalsRead}
use Rattle.wz_decode_code.proofs.ItemLemmas.{shorter, u32_shorter}
use Rattle.wz_decode_code.proofs.EntryLaws.{run_exact, entry_exact}
use Rattle.wz_decode_code.proofs.LoopLemmas.{start_tree}

run_some : (run : Run) → IsLocalsRun [] run → ⊥
run_some run h = by h.0 h.2 h.3 where
  by : (first : List ℕ) → [] ≡ first ++ h.1 → IsU32 first run.0 → ⊥
  by [] e is = is
  by (b ∷ first) e is = absurd cc

pub run_shorter : (bytes : List ℕ) (run : Run) (rest : List ℕ) → run_at bytes ≡ Some (run, rest) → length rest < length bytes
run_shorter bytes run rest e = shorter (λ t run. IsLocalsRun t run) (λ b. run_at b) run_exact run_some bytes run rest e

pub run_below : (bytes : List ℕ) (run : Run) (rest : List ℕ) → run_at bytes ≡ Some (run, rest) → run.0 < 2 ^ 32
run_below bytes run rest e = let f = run_exact.found bytes run rest e in unsigned_below 32 f.spelled.0 run.0 f.spelled.3

-- ---- how many there are

count_append : (xs ys : List Run) → locals_count (xs ++ ys) ≡ locals_count xs + locals_count ys
count_append [] ys = omega arith
count_append (x ∷ xs) ys = omega (arith, count_append xs ys)

-- those that were added
behind : (old new : BodyParts) (items : List Run) → new ≡ with_runs old items → drop (length old.locals) new.locals ≡ items
behind old new items is = ap (λ (b : BodyParts). drop (length old.locals) b.locals) is ∙ drop_at old.locals items (length old.locals) refl

pub counts_start : (body : BodyParts) → 0 ≡ locals_count (drop (length body.locals) body.locals)
counts_start body = none body.locals where
  none : (xs : List Run) → 0 ≡ locals_count (drop (length xs) xs)
  none [] = refl
  none (x ∷ xs) = none xs

pub counts_more : (old mid new : BodyParts) (items : List Run) (x : Run) (total : ℕ) → mid ≡ with_runs old items → new ≡ with_locals mid x.0 x.1
    → new ≡ with_runs old (items ++ x ∷ []) → total ≡ locals_count (drop (length old.locals) mid.locals)
    → total + x.0 ≡ locals_count (drop (length old.locals) new.locals)
counts_more old mid new items x total was is grown so_far =
    omega (
      arith,
      so_far,
      ap (λ (l : List Run). locals_count l) (behind old mid items was),
      ap (λ (l : List Run). locals_count l)
          (behind old new (items ++ x ∷ []) grown),
      count_append items (x ∷ []),
    )

-- ---- all of them

locals_none : (bytes : List ℕ) → u32_at bytes ≡ None → locals_at bytes ≡ None
unfolding vector_at
locals_none bytes e = rw e refl

runs_none : (bytes mid : List ℕ) (count : ℕ) → u32_at bytes ≡ Some (count, mid) → items_at (λ b. run_at b) count mid ≡ None → locals_at bytes ≡ None
unfolding vector_at
runs_none bytes mid count e f = rw (e, f) refl

runs_read : (bytes mid rest : List ℕ) (runs : List Run) (count : ℕ) → u32_at bytes ≡ Some (count, mid) → items_at (λ b. run_at b) count mid ≡ Some (runs, rest)
    → locals_count runs < 2 ^ 32 → locals_at bytes ≡ Some (runs, rest)
unfolding vector_at
runs_read bytes mid rest runs count e f few = let small = lt-ltb _ _ few in rw (e, f, small) refl

runs_many : (bytes mid rest : List ℕ) (runs : List Run) (count : ℕ) → u32_at bytes ≡ Some (count, mid) → items_at (λ b. run_at b) count mid ≡ Some (runs, rest)
    → 2 ^ 32 ≤ locals_count runs → locals_at bytes ≡ None
unfolding vector_at
runs_many bytes mid rest runs count e f many = let large = le-ltb _ _ many in rw (e, f, large) refl

pub no_run_count : (bytes : List ℕ) → None ≡ u32_at bytes → locals_at bytes ≡ None
no_run_count bytes e = locals_none bytes (sym e)

pub no_runs : (bytes mid : List ℕ) (count : ℕ) → Some (count, mid) ≡ u32_at bytes → items_at (λ b. run_at b) count mid ≡ None → locals_at bytes ≡ None
no_runs bytes mid count e f = runs_none bytes mid count (sym e) f

pub too_many : (bytes mid rest : List ℕ) (count total : ℕ) (old new : BodyParts) → Some (count, mid) ≡ u32_at bytes
    → Added (λ b. run_at b) (λ body runs. with_runs body runs) count mid old new rest
    → total ≡ locals_count (drop (length old.locals) new.locals) → 2 ^ 32 ≤ total → locals_at bytes ≡ None
too_many bytes mid rest count total old new e a sum many =
    runs_many bytes mid rest a.items count (sym e) a.all (omega (arith, many, sum, ap (λ (l : List Run). locals_count l) (behind old new a.items a.is)))

pub locals_read : (bytes mid rest : List ℕ) (count total : ℕ) (old new : BodyParts) → Some (count, mid) ≡ u32_at bytes
    → Added (λ b. run_at b) (λ body runs. with_runs body runs) count mid old new rest
    → total ≡ locals_count (drop (length old.locals) new.locals) → total < 2 ^ 32 → LocalsRead bytes old new rest
locals_read bytes mid rest count total old new e a sum few = record {
  runs = a.items;
  is = a.is;
  read = runs_read bytes mid rest a.items count (sym e) a.all (omega (arith, few, sum, ap (λ (l : List Run). locals_count l) (behind old new a.items a.is)));
  room = omega (arith, a.fewer, u32_shorter bytes count mid (sym e));
}

-- ---- locals and instructions

pub no_locals : (bytes : List ℕ) → locals_at bytes ≡ None → SpellsNone (λ t entry. IsEntry t entry) bytes
no_locals bytes e = whole_none (λ t entry. IsEntry t entry) (λ b. entry_at b) entry_exact bytes (rw e refl)

pub no_code : (bytes rest : List ℕ) (old new : BodyParts) → LocalsRead bytes old new rest → expression_at rest ≡ None → SpellsNone (λ t entry. IsEntry t entry) bytes
no_code bytes rest old new l e = let r = l.read in whole_none (λ t entry. IsEntry t entry) (λ b. entry_at b) entry_exact bytes (rw (r, e) refl)

both_read : (bytes mid rest : List ℕ) (runs : List Run) (code : Code) → locals_at bytes ≡ Some (runs, mid) → expression_at mid ≡ Some (code, rest)
    → entry_at bytes ≡ Some ((runs, code), rest)
both_read bytes mid rest runs code e f = rw (e, f) refl

pub more_behind : (bytes mid rest : List ℕ) (old new : BodyParts) (code : Code) → LocalsRead bytes old new mid → expression_at mid ≡ Some (code, rest) → (rest ≡ [] → ⊥)
    → SpellsNone (λ t entry. IsEntry t entry) bytes
more_behind bytes mid rest old new code l e some = whole_rest (λ t entry. IsEntry t entry) (λ b. entry_at b) entry_exact bytes rest (l.runs, code)
    (both_read bytes mid rest l.runs code l.read e) some

pub body_spelled : (bytes mid rest : List ℕ) (new body : BodyParts) → LocalsRead bytes no_parts new mid → expression_at mid ≡ Some (tree_of body 0, rest)
    → body.locals ≡ new.locals → rest ≡ [] → IsEntry bytes (code_entry_of body)
body_spelled bytes mid rest new body l e same none =
    let runs : l.runs ≡ body.locals = sym (same ∙ ap (λ (b : BodyParts). b.locals) l.is) in
    subst (λ (rs : List Run). IsEntry bytes (rs, tree_of body 0)) runs
    (whole_found (λ t entry. IsEntry t entry) (λ b. entry_at b) entry_exact bytes rest (l.runs, tree_of body 0) (both_read bytes mid rest l.runs (tree_of body 0) l.read e) none)

pub still_empty : (bytes rest : List ℕ) (new : BodyParts) → LocalsRead bytes no_parts new rest → tree_of new 0 ≡ End
still_empty bytes rest new l = ap (λ (b : BodyParts). tree_of b 0) l.is ∙ start_tree

pub still_building : (bytes rest : List ℕ) (new : BodyParts) → LocalsRead bytes no_parts new rest → IsBuilding new (0 ∷ [])
still_building bytes rest new l =
    subst (λ (b : BodyParts). IsBuilding b (0 ∷ [])) (sym l.is) (record { names_rise = starts_building.names_rise; once = starts_building.once; pools = starts_building.pools })
