use Rattle.std.proofs.Common.{ap, ◌∙◌, ℕ, List, Some}
use Rattle.wz_bytes.specs.Unsigned.{IsUnsigned, unsigned_at}
use Rattle.wz_bytes.proofs.ReadingLemmas.{none_at, read_at}
use Rattle.wz_bytes.proofs.UnsignedLaws.{unsigned_exact}
use Rattle.wz_bytes.proofs.unsigned.read_unsigned.Goals as goal

pub returns-in_err-value-clause-none : goal.returns-in_err-value-clause-none
returns-in_err-value-clause-none g c = λ _. none_at (λ t n. IsUnsigned g.row.BITS t n) (λ b. unsigned_at g.row.BITS b) (unsigned_exact g.row.BITS)
    c.args.bytes.now c.args.at c.from_place.result.now c.from_place.ensures c.in_err-value.ensures.exact

pub returns-clause-found : goal.returns-clause-found
returns-clause-found g c = (read_at (λ t n. IsUnsigned g.row.BITS t n) (λ b. unsigned_at g.row.BITS b) (unsigned_exact g.row.BITS)
    c.args.bytes.now c.args.at c.from_place.result.now c.in_ok-value.value c.in_ok-value.rest.now c.from_place.ensures c.in_ok-value.ensures.shorter c.in_ok-value.ensures.exact).spelled

pub returns-clause-exact : goal.returns-clause-exact
returns-clause-exact g c =
    let read = read_at (λ t n. IsUnsigned g.row.BITS t n) (λ b. unsigned_at g.row.BITS b) (unsigned_exact g.row.BITS)
    c.args.bytes.now c.args.at c.from_place.result.now c.in_ok-value.value c.in_ok-value.rest.now c.from_place.ensures c.in_ok-value.ensures.shorter c.in_ok-value.ensures.exact in
    ap (λ (t : List ℕ). Some (c.in_ok-value.value, t)) read.behind ∙ c.in_ok-value.ensures.exact ∙ ap (λ (t : List ℕ). unsigned_at g.row.BITS t) c.from_place.ensures
