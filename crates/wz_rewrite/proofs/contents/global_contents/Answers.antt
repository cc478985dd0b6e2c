use Rattle.std.proofs.Common.{ℕ, List, [], ◌∷◌, ◌++◌, ap, ◌∙◌, Some}
use Rattle.std.proofs.lemmas.Result.{IfOk-weaker}
use Rattle.wz_types.specs.declared.types.GlobalType.{GlobalType}
use Rattle.wz_types.specs.declared.value.Value.{Value}
use Rattle.wz_encode.specs.Globals.{globals_text}
use Rattle.wz_module.specs.Globals.{GlobalDef}
use Rattle.wz_rewrite.specs.Pieces.{MadePiece}
use Rattle.wz_rewrite.specs.Sources.{source_module}
use Rattle.wz_rewrite.proofs.GlobalLemmas.{kinds_same, kinds_of}
use Rattle.wz_rewrite.proofs.contents.global_contents.Goals as goal

pub returns : goal.returns
returns c =
    let values = c.args.sources.now.snapshot.now.globals in
    let types = c.deref.ensures.value ∙ c.in_ok-types.ensures ∙ kinds_same c.globals.result.now ∙ ap (λ (gs : List GlobalDef). kinds_of gs) c.globals.ensures in
    let bytes = c.in_ok-put_globals.ensures.ok
    ∙ ap (λ (t : List ℕ). t ++ globals_text c.deref.result.now c.globals-2.result.now) c.new-bytes.ensures.items
    ∙ ap (λ (ts : List GlobalType). globals_text ts c.globals-2.result.now) types
    ∙ ap (λ (vs : List Value). globals_text (kinds_of (source_module c.args.sources.now).globals) vs) c.globals-2.ensures in
    IfOk-weaker c.made.result _ _ (λ x h. h ∙ ap (λ (t : List ℕ). Some (MadePiece t ∷ [])) bytes) c.made.ensures
