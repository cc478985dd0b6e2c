use Rattle.wz_encode.proofs.WriterLemmas.{front_kept_on_err}
use Rattle.wz_encode.proofs.elements.append_anew.Goals as goal

pub returns-clause-err : goal.returns-clause-err
returns-clause-err c =
    front_kept_on_err c.append_declarations.result c.args.out.now.items _ c.put_unsigned.new.out.items _ c.append_segments.new.out.items c.append_declarations.new.out.items
    c.in_ok-put_unsigned.ensures.ok c.in_ok-append_segments.ensures.ok c.append_declarations.ensures.err
