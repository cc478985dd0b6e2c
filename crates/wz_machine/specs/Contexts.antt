-- Section 4.2.15 of the Core Specification (evaluation contexts): what stands around the innermost code of a term, as a stack of layers,
-- the innermost first. A step of what stands in a context is the step of the whole term, so a machine that keeps the layers in a stack
-- has only to know what its innermost code does.
use Rattle.std.specs.Prelude.{◌≡◌, ℕ, zero, suc, ◌+◌, nat_le, ◌==◌, List, [], ◌∷◌, ◌++◌, Option, if◌then◌else◌, length, take, reverse}
use Rattle.wz_types.specs.declared.trap.TrapKind.{TrapKind}
use Rattle.wz_types.specs.declared.value.Value.{Value}
use Rattle.wz_code.specs.Trees.{Code}
use Rattle.wz_store.specs.Changes.{Change, Nothing}
use Rattle.wz_machine.specs.State.{State}
use Rattle.wz_machine.specs.Terms.{Inside, Innermost, InLabel, InFrame, Term, Frame, Question}
use Rattle.wz_machine.specs.Outcomes.{Reduct, Goes, Finishes, Branches, Returns, Pauses, Traps, Sticks, Answer, Next, Done, Trap, Ask, Stuck}
use Rattle.wz_machine.specs.Frames.{frames_inside, frame_count, locals_inside, local_count}
use Rattle.wz_machine.specs.BlockSteps.{arrival}
use Rattle.wz_machine.specs.Step.{inside_reduct, results_answer, step}

-- a frame's locals, and what stands in it
pub record FrameContent : Type 0 where
  pub locals : List Value
  pub inside : Inside

pub data Layer : Type 0 where
  -- a label: the values below it, what a branch takes along, a loop's instructions, and the code behind its end
  LabelLayer : List Value → ℕ → Option Code → Code → Layer
  -- a frame: the values below it, the number of its results, the code behind its end, and the locals of the frame around it
  FrameLayer : List Value → ℕ → Code → List Value → Layer

abbrev pub in_layer : Layer → FrameContent → FrameContent
in_layer (LabelLayer below count again rest) content = record { locals = content.locals; inside = InLabel below count again content.inside rest }
in_layer (FrameLayer below count rest locals) content = record { locals = locals; inside = InFrame below count content.locals content.inside rest }

-- the term that this stands in, whose outermost frame has so many results
abbrev pub term_in : ℕ → List Layer → FrameContent → Term
term_in results [] content = Frame results content.locals content.inside
term_in results (layer ∷ layers) content = term_in results layers (in_layer layer content)

-- code with these values before it, in a frame with these locals
abbrev pub code_content : List Value → List Value → Code → FrameContent
code_content locals values code = record { locals = locals; inside = Innermost values code }

abbrev pub content_reduct : State → FrameContent → Reduct
content_reduct s content = inside_reduct s content.locals content.inside

-- ---- what leaves the innermost layer

-- a frame is left with its results, into the frame around it
abbrev pub left_frame_answer : ℕ → List Layer → List Value → ℕ → Code → List Value → List Value → Answer
left_frame_answer results layers below count rest locals values =
    if nat_le count (length values) then Next Nothing (term_in results layers (code_content locals (take count values ++ below) rest)) else Stuck

-- a branch to the label of this number, in a frame with these locals and with these values before it
abbrev pub branch_answer : ℕ → List Layer → List Value → ℕ → List Value → Answer
branch_answer results [] locals zero values = results_answer results values
branch_answer results [] locals (suc label) values = Stuck
branch_answer results (LabelLayer below count again rest ∷ layers) locals zero values =
    if nat_le count (length values)
    then Next Nothing (term_in results layers (record { locals = locals; inside = arrival below count again rest (take count values) }))
    else Stuck
branch_answer results (LabelLayer below count again rest ∷ layers) locals (suc label) values = branch_answer results layers locals label values
branch_answer results (FrameLayer below count rest outer ∷ layers) locals zero values = left_frame_answer results layers below count rest outer values
branch_answer results (FrameLayer below count rest outer ∷ layers) locals (suc label) values = Stuck

abbrev pub return_answer : ℕ → List Layer → List Value → Answer
return_answer results [] values = results_answer results values
return_answer results (LabelLayer below count again rest ∷ layers) values = return_answer results layers values
return_answer results (FrameLayer below count rest outer ∷ layers) values = left_frame_answer results layers below count rest outer values

-- the innermost layer is left at its end
abbrev pub end_answer : ℕ → List Layer → List Value → List Value → Answer
end_answer results [] locals values = if length values == results then Done (reverse values) else Stuck
end_answer results (LabelLayer below count again rest ∷ layers) locals values = Next Nothing (term_in results layers (code_content locals (values ++ below) rest))
end_answer results (FrameLayer below count rest outer ∷ layers) locals values =
    if length values == count then Next Nothing (term_in results layers (code_content outer (values ++ below) rest)) else Stuck

-- ---- the law

-- what the content does in a step, and what the whole term does then
pub record StepsWithin (s : State) (results : ℕ) (layers : List Layer) (content : FrameContent) : Type 0 where
  pub goes : (change : Change) (new : FrameContent) → content_reduct s content ≡ Goes change new.locals new.inside
      → step s (term_in results layers content) ≡ Next change (term_in results layers new)
  pub pauses : (question : Question) (inside : Inside) → content_reduct s content ≡ Pauses question inside
      → step s (term_in results layers content) ≡ Ask question (term_in results layers (record { locals = content.locals; inside = inside }))
  pub traps : (kind : TrapKind) → content_reduct s content ≡ Traps kind → step s (term_in results layers content) ≡ Trap kind
  pub sticks : content_reduct s content ≡ Sticks → step s (term_in results layers content) ≡ Stuck
  pub branches : (label : ℕ) (values : List Value) → content_reduct s content ≡ Branches label values
      → step s (term_in results layers content) ≡ branch_answer results layers content.locals label values
  pub returns : (values : List Value) → content_reduct s content ≡ Returns values
      → step s (term_in results layers content) ≡ return_answer results layers values
  pub ends : (values : List Value) → content_reduct s content ≡ Finishes values
      → step s (term_in results layers content) ≡ end_answer results layers content.locals values

abbrev pub StepWithin : Type 0
StepWithin = (s : State) (results : ℕ) (layers : List Layer) (content : FrameContent) → StepsWithin s results layers content

-- ---- frames and their locals

abbrev pub frame_layers : List Layer → ℕ
frame_layers [] = 0
frame_layers (LabelLayer below count again rest ∷ layers) = frame_layers layers
frame_layers (FrameLayer below count rest locals ∷ layers) = 1 + frame_layers layers

abbrev pub layer_locals : List Layer → ℕ
layer_locals [] = 0
layer_locals (LabelLayer below count again rest ∷ layers) = layer_locals layers
layer_locals (FrameLayer below count rest locals ∷ layers) = length locals + layer_locals layers

-- one for the outermost frame, each of the layers, and those within
abbrev pub FramesWithin : Type 0
FramesWithin = (results : ℕ) (layers : List Layer) (content : FrameContent)
    → frame_count (term_in results layers content) ≡ 1 + frame_layers layers + frames_inside content.inside

-- the innermost frame's, those of the frames around it, and those within
abbrev pub LocalsWithin : Type 0
LocalsWithin = (results : ℕ) (layers : List Layer) (content : FrameContent)
    → local_count (term_in results layers content) ≡ length content.locals + layer_locals layers + locals_inside content.inside
