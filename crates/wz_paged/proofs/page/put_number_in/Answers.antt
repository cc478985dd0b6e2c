use Rattle.std.proofs.Common.{◌≡◌, ◌∙◌, ap, arith, refl, sym}
use Rattle.std.specs.Int.{to_le_bytes, w64}
use Rattle.wz_linear.specs.Bytes.{bytes_of, written}
use Rattle.wz_linear.proofs.BytesLemmas.{low_bytes}
use Rattle.wz_paged.proofs.page.put_number_in.Goals as goal

pub returns-in-1-clause-written : goal.returns-in-1-clause-written
returns-in-1-clause-written c =
    c.put_in.ensures.written
    ∙ ap (written c.args.bytes.now.items c.args.at)
    (low_bytes 1 7 c.args.value c.to_le_bytes-all.result (omega arith) c.to_le_bytes-all.ensures ∙ ap (λ width. bytes_of width c.args.value) (sym c.in-1.is))

pub returns-in-2-clause-written : goal.returns-in-2-clause-written
returns-in-2-clause-written c =
    c.put_in-in-2.ensures.written
    ∙ ap (written c.args.bytes.now.items c.args.at)
    (low_bytes 2 6 c.args.value c.to_le_bytes-all.result (omega arith) c.to_le_bytes-all.ensures ∙ ap (λ width. bytes_of width c.args.value) (sym c.in-2.is))

pub returns-in-4-clause-written : goal.returns-in-4-clause-written
returns-in-4-clause-written c =
    c.put_in-in-4.ensures.written
    ∙ ap (written c.args.bytes.now.items c.args.at)
    (low_bytes 4 4 c.args.value c.to_le_bytes-all.result (omega arith) c.to_le_bytes-all.ensures ∙ ap (λ width. bytes_of width c.args.value) (sym c.in-4.is))

pub returns-in_default-clause-written : goal.returns-in_default-clause-written
returns-in_default-clause-written c =
    let e : c.args.width ≡ 8 = grind arith in
    c.put_in-in_default.ensures.written
    ∙ ap (written c.args.bytes.now.items c.args.at)
    (c.to_le_bytes-all.ensures ∙ low_bytes 8 0 c.args.value (to_le_bytes w64 c.args.value) (omega arith) refl ∙ ap (λ width. bytes_of width c.args.value) (sym e))
