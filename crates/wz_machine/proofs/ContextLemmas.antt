-- A step of what stands in a context is a step of the whole.
use Rattle.std.proofs.Common.{◌≡◌, ℕ, zero, suc, List, [], ◌∷◌, ◌++◌, Bool, true, false, if◌then◌else◌, ◌==◌, nat_le, length, take, refl, ap, ◌∙◌, arith}
use Rattle.wz_types.specs.declared.trap.TrapKind.{TrapKind}
use Rattle.wz_types.specs.declared.value.Value.{Value}
use Rattle.wz_store.specs.Changes.{Change, Nothing}
use Rattle.wz_machine.specs.State.{State}
use Rattle.wz_machine.specs.Terms.{Question}
use Rattle.wz_machine.specs.Outcomes.{Reduct, Goes, Finishes, Branches, Returns, Pauses, Traps, Sticks, Answer, Next, Trap, Ask, Stuck}
use Rattle.wz_machine.specs.BlockSteps.{arrival, label_reduct, frame_reduct}
use Rattle.wz_machine.specs.Step.{frame_answer, step}
use Rattle.wz_machine.specs.Contexts.{FrameContent, Layer, LabelLayer, FrameLayer, in_layer, term_in, code_content, content_reduct, branch_answer, return_answer, end_answer, StepWithin, FramesWithin, LocalsWithin}

-- what a step of the content comes to, seen from each layer in turn
abbrev answer_from : ℕ → List Layer → List Value → Reduct → Answer
answer_from results [] locals reduct = frame_answer results locals reduct
answer_from results (LabelLayer below count again rest ∷ layers) locals reduct = answer_from results layers locals (label_reduct locals below count again rest reduct)
answer_from results (FrameLayer below count rest outer ∷ layers) locals reduct = answer_from results layers outer (frame_reduct outer below count locals rest reduct)

step-from : (s : State) (results : ℕ) (layers : List Layer) (content : FrameContent)
    → step s (term_in results layers content) ≡ answer_from results layers content.locals (content_reduct s content)
step-from s results [] content = refl
step-from s results (LabelLayer below count again rest ∷ layers) content = step-from s results layers (in_layer (LabelLayer below count again rest) content)
step-from s results (FrameLayer below count rest outer ∷ layers) content = step-from s results layers (in_layer (FrameLayer below count rest outer) content)

module _ (results : ℕ) where
  from-goes : (layers : List Layer) (locals : List Value) (change : Change) (new : FrameContent)
      → answer_from results layers locals (Goes change new.locals new.inside) ≡ Next change (term_in results layers new)
  from-goes [] locals change new = refl
  from-goes (LabelLayer below count again rest ∷ layers) locals change new = from-goes layers locals change (in_layer (LabelLayer below count again rest) new)
  from-goes (FrameLayer below count rest outer ∷ layers) locals change new = from-goes layers outer change (in_layer (FrameLayer below count rest outer) new)

  from-pauses : (layers : List Layer) (question : Question) (content : FrameContent)
      → answer_from results layers content.locals (Pauses question content.inside) ≡ Ask question (term_in results layers content)
  from-pauses [] question content = refl
  from-pauses (LabelLayer below count again rest ∷ layers) question content = from-pauses layers question (in_layer (LabelLayer below count again rest) content)
  from-pauses (FrameLayer below count rest outer ∷ layers) question content = from-pauses layers question (in_layer (FrameLayer below count rest outer) content)

  from-traps : (layers : List Layer) (locals : List Value) (kind : TrapKind) → answer_from results layers locals (Traps kind) ≡ Trap kind
  from-traps [] locals kind = refl
  from-traps (LabelLayer below count again rest ∷ layers) locals kind = from-traps layers locals kind
  from-traps (FrameLayer below count rest outer ∷ layers) locals kind = from-traps layers outer kind

  from-sticks : (layers : List Layer) (locals : List Value) → answer_from results layers locals Sticks ≡ Stuck
  from-sticks [] locals = refl
  from-sticks (LabelLayer below count again rest ∷ layers) locals = from-sticks layers locals
  from-sticks (FrameLayer below count rest outer ∷ layers) locals = from-sticks layers outer

  -- what a test decides inside, it decides of the whole
  from-if : (layers : List Layer) (locals : List Value) (b : Bool) (new : FrameContent)
      → answer_from results layers locals (if b then Goes Nothing new.locals new.inside else Sticks) ≡ (if b then Next Nothing (term_in results layers new) else Stuck)
  from-if layers locals true new = from-goes layers locals Nothing new
  from-if layers locals false new = from-sticks layers locals

  from-branches : (layers : List Layer) (locals : List Value) (label : ℕ) (values : List Value)
      → answer_from results layers locals (Branches label values) ≡ branch_answer results layers locals label values
  from-branches [] locals zero values = refl
  from-branches [] locals (suc label) values = refl
  from-branches (LabelLayer below count again rest ∷ layers) locals zero values =
      from-if layers locals (nat_le count (length values)) (record { locals = locals; inside = arrival below count again rest (take count values) })
  from-branches (LabelLayer below count again rest ∷ layers) locals (suc label) values = from-branches layers locals label values
  from-branches (FrameLayer below count rest outer ∷ layers) locals zero values =
      from-if layers outer (nat_le count (length values)) (code_content outer (take count values ++ below) rest)
  from-branches (FrameLayer below count rest outer ∷ layers) locals (suc label) values = from-sticks layers outer

  from-returns : (layers : List Layer) (locals : List Value) (values : List Value)
      → answer_from results layers locals (Returns values) ≡ return_answer results layers values
  from-returns [] locals values = refl
  from-returns (LabelLayer below count again rest ∷ layers) locals values = from-returns layers locals values
  from-returns (FrameLayer below count rest outer ∷ layers) locals values =
      from-if layers outer (nat_le count (length values)) (code_content outer (take count values ++ below) rest)

  from-ends : (layers : List Layer) (locals : List Value) (values : List Value)
      → answer_from results layers locals (Finishes values) ≡ end_answer results layers locals values
  from-ends [] locals values = refl
  from-ends (LabelLayer below count again rest ∷ layers) locals values = from-goes layers locals Nothing (code_content locals (values ++ below) rest)
  from-ends (FrameLayer below count rest outer ∷ layers) locals values =
      from-if layers outer (length values == count) (code_content outer (values ++ below) rest)

pub step_within : StepWithin
step_within s results layers content =
    let from : (reduct : Reduct) → content_reduct s content ≡ reduct → step s (term_in results layers content) ≡ answer_from results layers content.locals reduct =
    λ reduct e. step-from s results layers content ∙ ap (λ (f : Reduct). answer_from results layers content.locals f) e in
    record {
      goes = λ change new e. from (Goes change new.locals new.inside) e ∙ from-goes results layers content.locals change new;
      pauses = λ question inside e. from (Pauses question inside) e ∙ from-pauses results layers question (record { locals = content.locals; inside = inside });
      traps = λ kind e. from (Traps kind) e ∙ from-traps results layers content.locals kind;
      sticks = λ e. from Sticks e ∙ from-sticks results layers content.locals;
      branches = λ label values e. from (Branches label values) e ∙ from-branches results layers content.locals label values;
      returns = λ values e. from (Returns values) e ∙ from-returns results layers content.locals values;
      ends = λ values e. from (Finishes values) e ∙ from-ends results layers content.locals values;
    }

-- ---- frames and their locals

pub frames_within : FramesWithin
frames_within results [] content = refl
frames_within results (LabelLayer below count again rest ∷ layers) content = frames_within results layers (in_layer (LabelLayer below count again rest) content)
frames_within results (FrameLayer below count rest outer ∷ layers) content =
    let r = frames_within results layers (in_layer (FrameLayer below count rest outer) content) in omega (arith, r)

pub locals_within : LocalsWithin
locals_within results [] content = omega arith
locals_within results (LabelLayer below count again rest ∷ layers) content = locals_within results layers (in_layer (LabelLayer below count again rest) content)
locals_within results (FrameLayer below count rest outer ∷ layers) content =
    let r = locals_within results layers (in_layer (FrameLayer below count rest outer) content) in omega (arith, r)
