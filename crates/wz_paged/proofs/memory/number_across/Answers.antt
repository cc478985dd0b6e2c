use Rattle.std.proofs.Common.{◌≡◌, arith, ap}
use Rattle.wz_linear.specs.Bytes.{number_of, part}
use Rattle.wz_linear.proofs.BytesLemmas.{number_at_1, number_at_2, number_at_4, number_at_8}
use Rattle.wz_paged.specs.Pages.{memory_of}
use Rattle.wz_paged.proofs.PageLemmas.{length-memory_of}
use Rattle.wz_paged.proofs.memory.number_across.Goals as goal

pub returns-in-1-clause-found : goal.returns-in-1-clause-found
returns-in-1-clause-found c =
    let size = length-memory_of c.args.pages.now in
    omega (arith, number_at_1 (memory_of c.args.pages.now) c.args.at (omega arith), ap (λ n. number_of (part (memory_of c.args.pages.now) c.args.at n)) c.in-1.is)

pub returns-in-2-clause-found : goal.returns-in-2-clause-found
returns-in-2-clause-found c =
    let size = length-memory_of c.args.pages.now in
    omega (arith, number_at_2 (memory_of c.args.pages.now) c.args.at (omega arith), ap (λ n. number_of (part (memory_of c.args.pages.now) c.args.at n)) c.in-2.is)

pub returns-in-4-clause-found : goal.returns-in-4-clause-found
returns-in-4-clause-found c =
    let size = length-memory_of c.args.pages.now in
    omega (arith, number_at_4 (memory_of c.args.pages.now) c.args.at (omega arith), ap (λ n. number_of (part (memory_of c.args.pages.now) c.args.at n)) c.in-4.is)

pub returns-in_default-clause-found : goal.returns-in_default-clause-found
returns-in_default-clause-found c =
    let size = length-memory_of c.args.pages.now in
    let e : c.args.width ≡ 8 = grind arith in
    omega (arith, number_at_8 (memory_of c.args.pages.now) c.args.at (omega arith), ap (λ n. number_of (part (memory_of c.args.pages.now) c.args.at n)) e)
