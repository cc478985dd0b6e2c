-- A form that a tag in front decides: its reading is exact where each row's is.
use Rattle.std.proofs.Common.{◌≡◌, ℕ, List, ◌++◌, Some, true, sym, ap, subst, ◌∙◌, append_assoc}
use Rattle.std.specs.Prelude.{nat_eq}
use Rattle.std.proofs.lemmas.Bool.{eqb-true}
use Rattle.wz_bytes.specs.Reading.{Form, Reading, IsExact}
use Rattle.wz_bytes.specs.Forms.{made_at, switch_at}
use Rattle.wz_bytes.proofs.ReadingLemmas.{bind_some, some_is}

-- what stands behind the tag, and that it spells the value with a tag in front
pub record BehindTag {X : Type 0} (R : Form X) (IsTag : Form ℕ) (tag : ℕ) (bytes : List ℕ) (x : X) (rest : List ℕ) : Type 0 where
  pub second : List ℕ
  pub parts : bytes ≡ second ++ rest
  pub spelled : (first : List ℕ) → IsTag first tag → R (first ++ second) x

-- the tag of a spelling, and that the rows read what is behind it
pub record HasRow {X : Type 0} (IsTag : Form ℕ) (rows : ℕ → Reading X) (text : List ℕ) (x : X) : Type 0 where
  pub tag : ℕ
  pub first : List ℕ
  pub second : List ℕ
  pub parts : text ≡ first ++ second
  pub tagged : IsTag first tag
  pub again : (rest : List ℕ) → rows tag (second ++ rest) ≡ Some (x, rest)

pub switch_exact : {X : Type 0} (R : Form X) (IsTag : Form ℕ) (tag_at : Reading ℕ) → IsExact IsTag tag_at → (rows : ℕ → Reading X)
    → ((tag : ℕ) (bytes : List ℕ) (x : X) (rest : List ℕ) → rows tag bytes ≡ Some (x, rest) → BehindTag R IsTag tag bytes x rest)
    → ((text : List ℕ) (x : X) → R text x → HasRow IsTag rows text x)
    → IsExact R (λ bytes. switch_at tag_at rows bytes)
switch_exact R IsTag tag_at exact rows found again = record {
  found = λ bytes x rest e.
      let t = bind_some (tag_at bytes) _ _ e in
      let f = exact.found bytes t.0.0 t.0.1 t.1 in
      let b = found t.0.0 t.0.1 x rest t.2 in
      record {
        text = f.text ++ b.second;
        parts = f.parts ∙ ap (λ (u : List ℕ). f.text ++ u) b.parts ∙ sym (append_assoc f.text b.second rest);
        spelled = b.spelled f.text f.spelled;
      };
  again = λ text x rest h.
      let r = again text x h in
      let parts = ap (λ (t : List ℕ). t ++ rest) r.parts ∙ append_assoc r.first r.second rest in
      rw (parts, exact.again r.first r.tag (r.second ++ rest) r.tagged) (r.again rest);
}

-- one row, where the tag is its own
pub switch_row : {X Y : Type 0} (R : Form X) (IsTag : Form ℕ) (S : Form Y) (p : Reading Y) → IsExact S p
    → (make : Y → X) (k : ℕ) → ((first second : List ℕ) (y : Y) → IsTag first k → S second y → R (first ++ second) (make y))
    → (tag : ℕ) (bytes : List ℕ) (x : X) (rest : List ℕ) → nat_eq tag k ≡ true → made_at make p bytes ≡ Some (x, rest) → BehindTag R IsTag tag bytes x rest
switch_row {X = X} R IsTag S p exact make k spell tag bytes x rest is e =
    let y = bind_some (p bytes) _ _ e in
    let f = exact.found bytes y.0.0 y.0.1 y.1 in
    let same = eqb-true tag k is in
    subst (λ (w : X × List ℕ). BehindTag R IsTag tag bytes w.0 w.1) (some_is _ _ y.2) (record {
      second = f.text;
      parts = f.parts;
      spelled = λ first h. spell first f.text y.0.0 (subst (λ (n : ℕ). IsTag first n) same h) f.spelled;
    })
