-- Symbols that add to the pools of a body.
use Rattle.std.proofs.Common.{◌≡◌, ℕ, ◌+◌, List, [], ◌∷◌, ◌++◌, Option, Some, None, length, take, drop, refl, sym, ap, subst, ◌∙◌, arith}
use Rattle.std.proofs.lemmas.List.{append-nil, length-append, drop_at}
use Rattle.wz_bytes.specs.Forms.{items_at, vector_at}
use Rattle.wz_types.specs.declared.types.ValType.{ValType}
use Rattle.wz_code.specs.declared.instr.Instr.{Instr}
use Rattle.wz_code.specs.declared.instr.Instr.TheVariants.{Block, Loop, If, BrTable, SelectTyped}
use Rattle.wz_code.specs.BodyParts.{BodyParts, item_count}
use Rattle.wz_code.specs.Trees.{Leaf, Plain, TableBranch, TypedSelect, leaf_in}
use Rattle.wz_code.specs.BlockRule.{InPools, IsBuilding}
use Rattle.wz_code.specs.Laws.{StaysBuilding}
use Rattle.wz_code.proofs.LawLemmas.{taking_pools}
use Rattle.wz_decode_code.specs.declared.token.Token.{Token}
use Rattle.wz_decode_code.specs.declared.token.Token.TheVariants as token
use Rattle.wz_decode_code.specs.Types.{type_at}
use Rattle.wz_decode_code.specs.InstrReading.{u32_at}
use Rattle.wz_decode_code.specs.Tokens.{Symbol, Single, seen, IsSimple, HasSimple, token_at, symbol_at}
use Rattle.wz_decode_code.specs.Opened.{seen_in, NamesNone, TokenFits}
use Rattle.wz_decode_code.specs.Pools.{with_labels, with_types, Added, Stand, PoolsGrown, SymbolRead}
use Rattle.wz_decode_code.proofs.SymbolLaws.{read_simple, token_symbol, symbol_shorter}
use Rattle.wz_decode_code.proofs.ItemLemmas.{u32_shorter}

-- where the pools grow each tree stays
pub grown_stays : (old new : BodyParts) (held : List ℕ) → IsBuilding old held → PoolsGrown old new → StaysBuilding old new held
grown_stays old new held building g =
    subst (λ (b : BodyParts). StaysBuilding old b held) (sym g.is) (taking_pools old held g.labels g.types building)

pub grown_locals : (old new : BodyParts) → PoolsGrown old new → new.locals ≡ old.locals
grown_locals old new g = ap (λ (b : BodyParts). b.locals) g.is

-- ---- a br_table

labels_none : (bytes : List ℕ) → u32_at bytes ≡ None → symbol_at (0x0E ∷ bytes) ≡ None
unfolding symbol_at vector_at
labels_none bytes e = rw e refl

labels_items_none : (bytes mid : List ℕ) (count : ℕ) → u32_at bytes ≡ Some (count, mid) → items_at (λ b. u32_at b) count mid ≡ None → symbol_at (0x0E ∷ bytes) ≡ None
unfolding symbol_at vector_at
labels_items_none bytes mid count e f = rw (e, f) refl

labels_last_none : (bytes mid rest labels : List ℕ) (count : ℕ) → u32_at bytes ≡ Some (count, mid) → items_at (λ b. u32_at b) count mid ≡ Some (labels, rest) → u32_at rest ≡ None
    → symbol_at (0x0E ∷ bytes) ≡ None
unfolding symbol_at vector_at
labels_last_none bytes mid rest labels count e f g = rw (e, f, g) refl

labels_read : (bytes mid rest after labels : List ℕ) (count last : ℕ) → u32_at bytes ≡ Some (count, mid) → items_at (λ b. u32_at b) count mid ≡ Some (labels, rest)
    → u32_at rest ≡ Some (last, after)
    → symbol_at (0x0E ∷ bytes) ≡ Some (Single (TableBranch labels last), after)
unfolding symbol_at vector_at
labels_read bytes mid rest after labels count last e f g = rw (e, f, g) refl

pub no_count : (bytes : List ℕ) → None ≡ u32_at bytes → symbol_at (0x0E ∷ bytes) ≡ None
no_count bytes e = labels_none bytes (sym e)

pub no_labels : (bytes mid : List ℕ) (count : ℕ) → Some (count, mid) ≡ u32_at bytes → items_at (λ b. u32_at b) count mid ≡ None → symbol_at (0x0E ∷ bytes) ≡ None
no_labels bytes mid count e f = labels_items_none bytes mid count (sym e) f

pub no_last : (bytes mid rest : List ℕ) (count : ℕ) (old new : BodyParts) → Some (count, mid) ≡ u32_at bytes
    → Added (λ b. u32_at b) (λ body labels. with_labels body labels) count mid old new rest → None ≡ u32_at rest → symbol_at (0x0E ∷ bytes) ≡ None
no_last bytes mid rest count old new e a g = labels_last_none bytes mid rest a.items count (sym e) a.all (sym g)

pub table_read : (bytes mid rest after : List ℕ) (count first last : ℕ) (old new : BodyParts) → Some (count, mid) ≡ u32_at bytes
    → Added (λ b. u32_at b) (λ body labels. with_labels body labels) count mid old new rest
    → Stand first count old.labels new.labels → Some (last, after) ≡ u32_at rest → SymbolRead (0x0E ∷ bytes) old new (token.Plain (BrTable first count last)) after
table_read bytes mid rest after count first last old new e a s g =
    let are : take count (drop first new.labels) ≡ a.items = s.are ∙ ap (λ (b : BodyParts). drop (length old.labels) b.labels) a.is
    ∙ drop_at old.labels a.items (length old.labels) refl in
    let size : item_count new ≡ item_count old + length a.items = let l = length-append old.labels a.items in omega (arith, ap (λ (b : BodyParts). item_count b) a.is, l) in
    record {
      read = labels_read bytes mid rest after a.items count last (sym e) a.all (sym g)
          ∙ ap (λ (ls : List ℕ). let o : Option (Symbol × List ℕ) = Some (Single (TableBranch ls last), after) in o) (sym are);
      grown = record {
        labels = a.items;
        types = [];
        is = a.is
            ∙ ap (λ (ts : List ValType). record old { labels = old.labels ++ a.items; types = ts }) (sym (append-nil old.types));
      };
      fits = (tt, s.within);
      room = omega (arith, size, a.fewer, u32_shorter bytes count mid (sym e), u32_shorter rest last after (sym g));
    }

-- ---- a typed select

types_none : (bytes : List ℕ) → u32_at bytes ≡ None → symbol_at (0x1C ∷ bytes) ≡ None
unfolding symbol_at vector_at
types_none bytes e = rw e refl

types_items_none : (bytes mid : List ℕ) (count : ℕ) → u32_at bytes ≡ Some (count, mid) → items_at (λ b. type_at b) count mid ≡ None → symbol_at (0x1C ∷ bytes) ≡ None
unfolding symbol_at vector_at
types_items_none bytes mid count e f = rw (e, f) refl

types_read : (bytes mid rest : List ℕ) (types : List ValType) (count : ℕ) → u32_at bytes ≡ Some (count, mid) → items_at (λ b. type_at b) count mid ≡ Some (types, rest)
    → symbol_at (0x1C ∷ bytes) ≡ Some (Single (TypedSelect types), rest)
unfolding symbol_at vector_at
types_read bytes mid rest types count e f = rw (e, f) refl

pub no_type_count : (bytes : List ℕ) → None ≡ u32_at bytes → symbol_at (0x1C ∷ bytes) ≡ None
no_type_count bytes e = types_none bytes (sym e)

pub no_types : (bytes mid : List ℕ) (count : ℕ) → Some (count, mid) ≡ u32_at bytes → items_at (λ b. type_at b) count mid ≡ None → symbol_at (0x1C ∷ bytes) ≡ None
no_types bytes mid count e f = types_items_none bytes mid count (sym e) f

pub select_read : (bytes mid rest : List ℕ) (count first : ℕ) (old new : BodyParts) → Some (count, mid) ≡ u32_at bytes
    → Added (λ b. type_at b) (λ body types. with_types body types) count mid old new rest
    → Stand first count old.types new.types → SymbolRead (0x1C ∷ bytes) old new (token.Plain (SelectTyped first count)) rest
select_read bytes mid rest count first old new e a s =
    let are : take count (drop first new.types) ≡ a.items = s.are ∙ ap (λ (b : BodyParts). drop (length old.types) b.types) a.is
    ∙ drop_at old.types a.items (length old.types) refl in
    let size : item_count new ≡ item_count old + length a.items = let l = length-append old.types a.items in omega (arith, ap (λ (b : BodyParts). item_count b) a.is, l) in
    record {
      read = types_read bytes mid rest a.items count (sym e) a.all
          ∙ ap (λ (ts : List ValType). let o : Option (Symbol × List ℕ) = Some (Single (TypedSelect ts), rest) in o) (sym are);
      grown = record { labels = []; types = a.items; is = a.is ∙ ap (λ (ls : List ℕ). record old { labels = ls; types = old.types ++ a.items }) (sym (append-nil old.labels)) };
      fits = (tt, s.within);
      room = omega (arith, size, a.fewer, u32_shorter bytes count mid (sym e));
    }

-- ---- the other symbols

simple_fits : (body : BodyParts) (i : Instr) → IsSimple i → NamesNone i × InPools body.labels body.types i × (leaf_in body i ≡ Plain i)
simple_fits body (Block s b) h = absurd h
simple_fits body (Loop s b) h = absurd h
simple_fits body (If s a b) h = absurd h
simple_fits body (BrTable f c l) h = absurd h
simple_fits body (SelectTyped f c) h = absurd h
simple_fits body i h = (tt, tt, refl)

token_fits : (body : BodyParts) (t : Token) → HasSimple t → TokenFits body t × (seen (λ i. Plain i) t ≡ seen_in body t)
token_fits body (token.Plain i) h = let f = simple_fits body i h in ((f.0, f.1), ap (λ (l : Leaf). Single l) (sym f.2))
token_fits body (token.Block s) h = (tt, refl)
token_fits body (token.Loop s) h = (tt, refl)
token_fits body (token.If s) h = (tt, refl)
token_fits body token.Else h = (tt, refl)
token_fits body token.End h = (tt, refl)

pub token_read : (bytes : List ℕ) (body : BodyParts) (t : Token) (rest : List ℕ) → Some (t, rest) ≡ token_at bytes → SymbolRead bytes body body t rest
token_read bytes body t rest e =
    let f = token_fits body t (read_simple bytes t rest (sym e)) in
    let s = token_symbol bytes t rest (sym e) in
    let labels : body.labels ++ [] ≡ body.labels = append-nil body.labels in
    let types : body.types ++ [] ≡ body.types = append-nil body.types in
    record {
      read = s ∙ ap (λ (x : Symbol). let o : Option (Symbol × List ℕ) = Some (x, rest) in o) f.1;
      grown = record { labels = []; types = []; is = rw (labels, types) refl };
      fits = f.0;
      room = omega (arith, symbol_shorter bytes _ rest s);
    }
