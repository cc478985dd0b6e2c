use Rattle.std.proofs.Common.{◌++◌, ◌+◌, take, arith, ap, sym, ◌∙◌, refl}
use Rattle.std.specs.Bool.{nat_lt}
use Rattle.wz_plan.specs.declared.runs.Run.{Run}
use Rattle.wz_plan.specs.Plan.{nonzero_places}
use Rattle.wz_plan.specs.Scanned.{merged}
use Rattle.wz_plan.specs.Collected.{added}
use Rattle.wz_plan.proofs.ScanLemmas.{merged-none, merged-next_run, merged-no_run, added-if_read, ends_higher, keeps_on, keeps_same}
use Rattle.wz_plan.proofs.scan.add_runs.Goals as goal

pub loop-found-init : goal.loop-found-init
loop-found-init c = record {
  in_bytes = omega arith;
  merged = merged-none c.args.runs.now.items c.requires.apart;
  ends = ends_higher c.args.at (c.args.at + 0) c.args.runs.now.items (omega arith) c.requires.ends;
  front = keeps_same c.args.runs.now.items c.args.runs.now.items refl;
}

pub loop-found-preserved : goal.loop-found-preserved
loop-found-preserved c =
    let first = c.in-Some.ensures.first in
    let within = first.within in
    let run : Run = record { at = c.args.at + c.in-Some.found.at; len = c.in-Some.found.len } in
    record {
      in_bytes = omega arith;
      merged = c.in_ok-add.ensures.added
          ∙ added-if_read (λ gap. nat_lt 8 gap.len) c.is_apart-cut.result c.loop-found.runs.items c.deref.result.now run c.deref.ensures.value c.is_apart-cut.ensures
          ∙ ap (λ l. added (λ gap. nat_lt 8 gap.len) l run) c.loop-found.invariant.merged
          ∙ sym (merged-next_run c.args.runs.now.items c.args.at c.args.bytes.now c.loop-found.from c.in-Some.found c.requires.apart c.requires.ends
          c.loop-found.invariant.in_bytes first)
          ∙ ap (λ n. merged (c.args.runs.now.items ++ nonzero_places c.args.at (take n c.args.bytes.now))) (sym c.end-from.ensures);
      ends = ends_higher _ (c.args.at + c.end-from.result) c.add.new.ranges.items (omega arith) c.in_ok-add.ensures.ends;
      front = keeps_on c.args.runs.now.items c.loop-found.runs.items c.add.new.ranges.items c.loop-found.invariant.front c.in_ok-add.ensures.front;
    }

pub returns-clause-merged : goal.returns-clause-merged
returns-clause-merged c =
    c.loop-found.invariant.merged
    ∙ merged-no_run c.args.runs.now.items c.args.at c.args.bytes.now c.loop-found.from c.loop-found.invariant.in_bytes (c.in_default.ensures.none.0 refl)
