-- The reading of names is exact.
use Rattle.std.proofs.Common.{◌≡◌, ℕ, ◌<◌, ◌^◌, arith, List, ◌++◌, length, Some, None, refl, sym, subst, inl, inr}
use Rattle.std.specs.Prelude.{IsUtf8}
use Rattle.std.specs.Str.{is_utf8}
use Rattle.std.proofs.lemmas.Bool.{cases_Bool}
use Rattle.std.proofs.lemmas.Str.{IsUtf8-from_is_utf8, is_utf8-from_IsUtf8}
use Rattle.wz_bytes.specs.Reading.{Front, IsExact}
use Rattle.wz_bytes.specs.Forms.{bytes_at}
use Rattle.wz_bytes.specs.Name.{IsName, name_at}
use Rattle.wz_bytes.proofs.ReadingLemmas.{bind_some, some_is, guarded}
use Rattle.wz_bytes.specs.Shortest.{shortest_unsigned}
use Rattle.wz_bytes.proofs.ShortestLaws.{unsigned_shortest}
use Rattle.wz_bytes.proofs.ByteLemmas.{utf8_bytes}
use Rattle.wz_bytes.proofs.FormLaws.{bytes_exact}

pub name_exact : IsExact IsName name_at
unfolding name_at
name_exact = record {
  found = λ bytes name rest e.
      let n = bind_some (bytes_at bytes) _ _ e in
      let text = guarded (is_utf8 n.0.0) _ _ n.2 in
      let front = bytes_exact.found bytes n.0.0 n.0.1 n.1 in
      subst (λ (p : List ℕ × List ℕ). Front IsName bytes p.0 p.1) (some_is _ _ text.1)
      (record { text = front.text; parts = front.parts; spelled = (front.spelled, IsUtf8-from_is_utf8 n.0.0 text.0) });
  again = λ text name rest h.
      let utf8 = is_utf8-from_IsUtf8 name h.1 in
      rw (bytes_exact.again text name rest h.0, utf8) refl;
}

pub name_some : (bytes name rest : List ℕ) → Some (name, rest) ≡ bytes_at bytes → IsUtf8 name → Some (name, rest) ≡ name_at bytes
unfolding name_at
name_some bytes name rest e h = let utf8 = is_utf8-from_IsUtf8 name h in rw (sym e, utf8) refl

pub name_none : (bytes name rest : List ℕ) → Some (name, rest) ≡ bytes_at bytes → (IsUtf8 name → ⊥) → None ≡ name_at bytes
unfolding name_at
name_none bytes name rest e h = elim (cases_Bool (is_utf8 name)) [ inl good ↦ absurd (h (IsUtf8-from_is_utf8 name good)) | inr bad ↦ rw (sym e, bad) refl ]

pub name_spelled : (name : List ℕ) → IsUtf8 name → length name < 2 ^ 32 → IsName (shortest_unsigned (length name) ++ name) name
name_spelled name utf8 few = ((shortest_unsigned (length name), refl, (unsigned_shortest 32 (length name) few (omega arith)).spelled, utf8_bytes name utf8), utf8)
