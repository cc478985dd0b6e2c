use Rattle.std.proofs.Common.{◌≡◌, ℕ, ◌*◌, ◌+◌, ◌≤◌, List, length, ap, ◌∙◌, arith}
use Rattle.wz_linear.specs.Bytes.{part}
use Rattle.wz_plan.specs.Scanned.{found_in, followed_at}
use Rattle.wz_snapshot.proofs.ScanLemmas.{ends_before, passes_zeros, passes_shown, on_true, on_ok}
use Rattle.wz_snapshot.proofs.memories.scan_page.Goals as goal

pub returns-then-untouched-clause-scanned : goal.returns-then-untouched-clause-scanned
returns-then-untouched-clause-scanned g c =
    passes_zeros (g.M.Linear.contents c.args.memory.now) (c.args.page * 65536) c.args.scan.now c.requires.scanned
    65536 ((c.args.page + 1) * 65536) (omega arith) c.requires.there c.if-untouched.ensures

pub push-requires-clause-behind : goal.push-requires-clause-behind
push-requires-clause-behind g c =
    ends_before (g.M.Linear.contents c.args.memory.now) (c.args.page * 65536) c.args.scan.now c.requires.scanned (omega (arith, c.requires.there))

pub returns-clause-scanned : goal.returns-clause-scanned
returns-clause-scanned g c =
    let memory = g.M.Linear.contents c.args.memory.now in
    let within : c.from.result + length c.args.buffer.now ≤ length memory = omega (arith, c.from.ensures, c.requires.buffer, c.requires.there) in
    let read : c.read_into-within.new.out ≡ part memory (c.args.page * 65536) 65536 =
    on_true c.read_into-within.result (c.read_into-within.ensures.within.1 within) c.read_into-within.ensures.copied
    ∙ ap (λ (at : ℕ). part memory at (length c.args.buffer.now)) c.from.ensures
    ∙ ap (λ (count : ℕ). part memory (c.args.page * 65536) count) c.requires.buffer in
    on_ok c.push.result (λ together. passes_shown memory (c.args.page * 65536) c.args.scan.now c.requires.scanned 65536 ((c.args.page + 1) * 65536) c.push.new.self (omega arith)
    c.requires.there
    (λ shown found. together shown found ∙ ap (λ (bytes : List ℕ). found_in (followed_at shown (c.args.page * 65536) bytes)) read)) c.push.ensures.together
