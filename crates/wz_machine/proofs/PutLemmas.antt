-- Values that are put into a term from outside, over flat stacks.
use Rattle.std.proofs.Common.{◌≡◌, ◌≤◌, ℕ, ◌+◌, ◌-◌, List, [], ◌∷◌, ◌++◌, length, take, drop, reverse, refl, ap, ◌∙◌, sym, arith}
use Rattle.std.proofs.lemmas.List.{reverse-reverse, drop-take, length-take-le}
use Rattle.wz_types.specs.declared.value.Value.{Value}
use Rattle.wz_machine.specs.Contexts.{FrameContent, Layer, LabelLayer, FrameLayer, in_layer, term_in}
use Rattle.wz_machine.specs.Flat.{FlatStacks, results_of, layers_in, content_of, flat_term, HasPlaces}
use Rattle.wz_machine.specs.Stacks.{StackParts, flat_of, stacks_term, IsStacked, last_values, first_values, without, with_values}
use Rattle.wz_machine.specs.Replies.{put_inside, put}
use Rattle.wz_machine.proofs.FlatLemmas.{leaving_term}

-- ---- values are put into what stands in the innermost layer

put_within : (values : List Value) (results : ℕ) (layers : List Layer) (content : FrameContent)
    → put values (term_in results layers content) ≡ term_in results layers (record { locals = content.locals; inside = put_inside values content.inside })
put_within values results [] content = refl
put_within values results (LabelLayer below count again rest ∷ layers) content = put_within values results layers (in_layer (LabelLayer below count again rest) content)
put_within values results (FrameLayer below count rest locals ∷ layers) content = put_within values results layers (in_layer (FrameLayer below count rest locals) content)

-- over flat stacks, values that are put are pushed
pub flat_put : (m : FlatStacks) (pushed : List Value) → HasPlaces m.top → m.top.height ≤ length m.values
    → put (reverse pushed) (flat_term m) ≡ flat_term (record m { values = m.values ++ pushed })
flat_put m pushed placed le =
    put_within (reverse pushed) (results_of m.top m.outer) (layers_in m) (content_of m)
    ∙ leaving_term m.top m.outer m.values (reverse pushed) placed le
    ∙ ap (λ (values : List Value). flat_term (record m { values = m.values ++ values })) (reverse-reverse pushed)

-- ---- values in the place of the last ones

-- what always holds of the stacks does so with other values, if those of the blocks are there
pub still_stacked : (s : StackParts) (values : List Value) → IsStacked s → s.top.height ≤ length values → IsStacked (record s { values = values })
still_stacked s values is le = record {
  within = le;
  room = is.room;
  stacked = is.stacked;
  few = is.few;
  small = is.small;
}

pub stacks_put : (s : StackParts) (count : ℕ) (pushed : List Value) → IsStacked s → s.top.height + count ≤ length s.values
    → stacks_term (with_values pushed (without count s)) ≡ put (reverse pushed) (stacks_term (without count s))
stacks_put s count pushed is le =
    let len : length (first_values count s.values) ≡ length s.values - count = length-take-le (length s.values - count) s.values (omega arith) in
    sym (flat_put (flat_of (without count s)) pushed (record { base = is.room.base; locals = is.room.locals; height = is.room.height }) (omega (arith, len, le)))

-- so many of the values are used, and these are the last ones of them
pub last_is : (items : List Value) (have count : ℕ) → have ≤ length items → count ≤ have
    → take (have - (have - count)) (drop (have - count) items) ≡ last_values count (take have items)
last_is items have count used le =
    let len : length (take have items) ≡ have = length-take-le have items used in
    let few : have - (have - count) ≡ count = omega arith in
    let all : have - count + count ≡ have = omega arith in
    ap (λ (n : ℕ). take n (drop (have - count) items)) few
    ∙ sym (drop-take (have - count) count items)
    ∙ ap (λ (n : ℕ). drop (have - count) (take n items)) all
    ∙ ap (λ (n : ℕ). drop (n - count) (take have items)) (sym len)
