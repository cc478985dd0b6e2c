use Rattle.std.proofs.Common.{List, [], length, ap, arith}
use Rattle.std.proofs.Math.ListN.{length-map}
use borrow.Author.Count.{below_more}
use Rattle.wz_module.specs.declared.items.Export as export
use Rattle.wz_module.specs.declared.items.ExportTarget.TheVariants as target
use Rattle.wz_module.specs.Exports.{Export}
use Rattle.wz_module.specs.Views.{export_of}
use Rattle.wz_module.specs.Meaning.{module_of}
use Rattle.wz_valid.specs.Checking.{IsNameNew}
use Rattle.wz_valid.proofs.NameLemmas.{next_is_new, next_is_old, next_seen}
use Rattle.wz_valid.proofs.names.new_names.Goals as goal

abbrev none : export.Export
none = record { name = record { ref_ptr = (0, 0); now = [] }; target = target.Func 0 }

pub loop-index-preserved : goal.loop-index-preserved
loop-index-preserved c =
    let m = module_of c.args.«module».now in
    let exports = c.exports-exports.result.now in
    let seen = c.loop-index.invariant.seen in
    record {
      seen = next_seen m exports c.loop-index.index none c.exports-exports.ensures c.loop-index-test.true c.loop-index.names seen c.in_ok-insert.field-0 c.insert.new.self
          c.in_ok-insert.ensures.updates.0;
      new = below_more (λ k. IsNameNew m k) c.loop-index.index c.loop-index.invariant.new
          (next_is_new m exports c.loop-index.index none c.exports-exports.ensures c.loop-index-test.true c.loop-index.names seen
          c.in_ok-insert.field-0 c.in_ok-insert.ensures.added c.if-not-branch.false);
    }

pub returns-then-not-branch : goal.returns-then-not-branch
returns-then-not-branch c =
    let m = module_of c.args.«module».now in
    record {
      new = c.loop-index.invariant.new;
      again = λ there.
          next_is_old m c.exports-exports.result.now c.loop-index.index none c.exports-exports.ensures c.loop-index-test.true c.loop-index.names c.loop-index.invariant.seen
          c.in_ok-insert.field-0 c.in_ok-insert.ensures.added c.if-not-branch.true;
    }

pub returns : goal.returns
returns c =
    let same = ap (λ (es : List Export). length es) c.exports-exports.ensures in
    let long = length-map c.exports-exports.result.now export_of in
    record {
      new = λ k less. c.loop-index.invariant.new k (omega (arith, less));
      again = λ less. absurd (omega (arith, less, same, long));
    }
