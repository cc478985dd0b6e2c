-- What a valid module has: the functions that its bodies name; and what its kept exports name.
use Rattle.std.proofs.Common.{◌≡◌, ℕ, List, [], ◌∷◌, ◌++◌, Option, Some, None, inl, inr, Bool, true, false, IsTrue, Result, Ok, Err, IsSomeAnd}
use Rattle.std.proofs.Common.{refl, sym, ap, subst, slice_get, All}
use Rattle.std.specs.Prelude.{is_some}
use Rattle.std.specs.List.{flat_map}
use Rattle.std.proofs.lemmas.List.Elements.{All-nil, All-cons, All-head, All-tail, All-append}
use Rattle.std.proofs.lemmas.Option.{slice_get_within}
use Rattle.wz_types.specs.declared.types.ValType.{ValType}
use Rattle.wz_types.specs.declared.types.ValType.TheVariants.{FuncRef}
use Rattle.wz_types.proofs.SameTypeLemmas.{and-parts}
use Rattle.wz_code.specs.declared.instr.Instr.TheVariants.{RefFunc}
use Rattle.wz_code.specs.Trees.{Code, End, Then, InBlock, InLoop, InIf, Leaf, Plain, TableBranch, TypedSelect}
use Rattle.wz_code.specs.References.{has_number, referred_in_leaf, referred_in}
use Rattle.wz_code.proofs.NumberLemmas.{Has, has-cases, one-number, flat-has}
use Rattle.wz_module.specs.declared.items.ExportTarget.{ExportTarget}
use Rattle.wz_module.specs.Exports.{Export}
use Rattle.wz_module.specs.Functions.{BodyTree}
use Rattle.wz_module.specs.Module.{Module}
use Rattle.wz_valid_code.specs.Operands.{Operands, pushed}
use Rattle.wz_valid_code.specs.Rules.{Exchange, Leads}
use Rattle.wz_valid_code.specs.Context.{Scope, Labels, scope_of, shape_type, may_refer}
use Rattle.wz_valid_code.specs.Instructions.{rule_of}
use Rattle.wz_valid_code.specs.Typing.{IsTyped}
use Rattle.wz_valid_code.proofs.LawLemmas.{if-fits}
use Rattle.wz_valid.specs.declared.faults.Part.TheVariants as part
use Rattle.wz_valid.specs.Indices.{all_functions}
use Rattle.wz_valid.specs.Contexts.{context_of}
use Rattle.wz_valid.specs.Items.{IsTreeTyped, IsBodyOk}
use Rattle.wz_valid.specs.Validity.{IsValid}
use Rattle.wz_words.specs.Settings.{Settings}
use Rattle.wz_exports.specs.declared.fault.ExportFault.{ExportFault}
use Rattle.wz_exports.specs.Undeclared.{body_refs}
use Rattle.wz_exports.specs.Kept.{KeptExports, kept, kept_beside, unless_misnamed, first_misnamed, function_named, reactor_in, kept_exports, kept_name, under_name}
use Rattle.wz_rewrite.proofs.ItemLemmas.{some-at}

-- ---- functions that typed code names are there

pub from-some : {X : Type 0} (o : Option X) (P : X → Type 0) (Q : Type 0) → ((x : X) → P x → Q) → IsSomeAnd o P → Q
from-some None P Q each h = absurd h
from-some (Some x) P Q each h = each x h

leaf-there : (scope : Scope) (labels : Labels) (leaf : Leaf) (s n : Operands) → Leads (rule_of scope labels leaf) s n → (f : ℕ) → Has f (referred_in_leaf leaf)
    → IsTrue (is_some (slice_get scope.context.functions f))
leaf-there scope labels (Plain (RefFunc g)) s n l f h =
    let there = (and-parts (is_some (slice_get scope.context.functions g)) (has_number g scope.context.declared)
    (if-fits (may_refer scope.context g) (Exchange [] (FuncRef ∷ [])) s n l)).0 in
    subst (λ (k : ℕ). IsTrue (is_some (slice_get scope.context.functions k))) (sym (one-number f g h)) there
leaf-there scope labels (Plain instr) s n l f h = absurd cc
leaf-there scope labels (TableBranch numbers last) s n l f h = absurd cc
leaf-there scope labels (TypedSelect types) s n l f h = absurd cc

module _ (scope : Scope) where
  abbrev IsThere : ℕ → Type 0
  IsThere f = IsTrue (is_some (slice_get scope.context.functions f))

  pub code-there : (labels : Labels) (code : Code) (before : Operands) (after : List ValType) → IsTyped scope labels code before after
      → (f : ℕ) → Has f (referred_in code) → IsThere f
  code-there labels End before after t f h = absurd cc
  code-there labels (Then leaf rest) before after t f h =
      elim (has-cases f (referred_in_leaf leaf) (referred_in rest) h) [
        | inl here ↦ leaf-there scope labels leaf before t.0 t.1 f here
        | inr later ↦ code-there labels rest t.0 after t.2 f later
      ]
  code-there labels (InBlock shape inner rest) before after t f h =
      from-some (shape_type scope.context shape) _ (IsThere f) (λ type p.
      elim (has-cases f (referred_in inner) (referred_in rest) h) [
        | inl here ↦ code-there (type.results ∷ labels) inner (pushed type.params []) type.results p.0 f here
        | inr later ↦ code-there labels rest p.1.0 after p.1.2 f later
      ]) t
  code-there labels (InLoop shape inner rest) before after t f h =
      from-some (shape_type scope.context shape) _ (IsThere f) (λ type p.
      elim (has-cases f (referred_in inner) (referred_in rest) h) [
        | inl here ↦ code-there (type.params ∷ labels) inner (pushed type.params []) type.results p.0 f here
        | inr later ↦ code-there labels rest p.1.0 after p.1.2 f later
      ]) t
  code-there labels (InIf shape first second rest) before after t f h =
      from-some (shape_type scope.context shape) _ (IsThere f) (λ type p.
      elim (has-cases f (referred_in first) (referred_in second ++ referred_in rest) h) [
        | inl here ↦ code-there (type.results ∷ labels) first (pushed type.params []) type.results p.0 f here
        | inr more ↦
            elim (has-cases f (referred_in second) (referred_in rest) more) [
              | inl here ↦ code-there (type.results ∷ labels) second (pushed type.params []) type.results p.1 f here
              | inr later ↦ code-there labels rest p.2.0 after p.2.2 f later
            ]
      ]) t

body-there : (m : Module) (i : ℕ) (body : BodyTree) → IsBodyOk m i body → (f : ℕ) → Has f (referred_in body.1) → IsTrue (is_some (slice_get (all_functions m) f))
body-there m i body ok f h =
    let There : Type 0 = IsTrue (is_some (slice_get (all_functions m) f)) in
    from-some (slice_get m.functions i) (λ type. IsSomeAnd (slice_get m.types type) (λ signature. IsTreeTyped (context_of m) signature body)) There
    (λ type found.
    from-some (slice_get m.types type) (λ signature. IsTreeTyped (context_of m) signature body) There
    (λ signature typed.
    code-there (scope_of (context_of m) signature body.0) (signature.results ∷ []) body.1 [] signature.results typed f h)
    found)
    ok

pub named-there : (m : Module) → IsValid m → (f : ℕ) → Has f (flat_map body_refs m.bodies) → IsTrue (is_some (slice_get (all_functions m) f))
named-there m valid f h =
    flat-has body_refs (IsTrue (is_some (slice_get (all_functions m) f))) f m.bodies
    (λ i body here inside.
    body-there m i body
    (some-at (slice_get m.bodies i) (λ b. IsBodyOk m i b) body here (valid part.Code i (slice_get_within m.bodies i body here)))
    f inside)
    h

-- ---- kept exports

renames-kept : (all k : KeptExports) (o : Option ExportFault) → unless_misnamed o all ≡ Ok k → k.entries ≡ all.entries
renames-kept all k None is = let same : all ≡ k = cc in ap (λ (x : KeptExports). x.entries) (sym same)
renames-kept all k (Some fault) is = absurd cc

beside-kept : (m : Module) (s : Settings) (k : KeptExports) (f : Result ℕ ExportFault) (r : Result (Option ℕ) ExportFault) → kept_beside m s f r ≡ Ok k
    → k.entries ≡ kept_exports s m.exports
beside-kept m s k (Err fault) r is = absurd cc
beside-kept m s k (Ok function) (Err fault) is = absurd cc
beside-kept m s k (Ok function) (Ok reactor) is =
    renames-kept (record { entries = kept_exports s m.exports; function = function; reactor = reactor }) k (first_misnamed s m.exports s.renames) is

pub entries-kept : (m : Module) (s : Settings) (k : KeptExports) → kept m s ≡ Ok k → k.entries ≡ kept_exports s m.exports
unfolding kept
entries-kept m s k is = beside-kept m s k (function_named m s.function) (reactor_in m s) is

module _ (P : ExportTarget → Type 0) where
  under-ok : (t : ExportTarget) (name : Option (List ℕ)) → P t → All (λ e. P e.target) (under_name t name)
  under-ok t None ok = All-nil (λ (e : Export). P e.target)
  under-ok t (Some name) ok = All-cons (λ (e : Export). P e.target) (record { name = name; target = t }) [] ok (All-nil (λ (e : Export). P e.target))

  pub targets-kept : (s : Settings) (exports : List Export) → All (λ e. P e.target) exports → All (λ e. P e.target) (kept_exports s exports)
  targets-kept s [] ok = All-nil (λ (e : Export). P e.target)
  targets-kept s (e ∷ exports) ok =
      let Q : Export → Type 0 = λ e. P e.target in
      All-append Q (under_name e.target (kept_name s e.name)) (kept_exports s exports) (under-ok e.target (kept_name s e.name) (All-head Q e exports ok))
      (targets-kept s exports (All-tail Q e exports ok))
