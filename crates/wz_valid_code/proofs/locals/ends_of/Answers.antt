use Rattle.std.proofs.Common.{◌≡◌, ◌+◌, ◌<◌, ◌∙◌, ◌++◌, ◌∷◌, [], take, get_or, sym, ap, arith, ℕ, List, length}
use Rattle.std.proofs.lemmas.List.{take_more}
use Rattle.wz_types.specs.declared.types.ValType.{ValType}
use Rattle.wz_types.specs.declared.types.ValType.TheVariants.{I32}
use Rattle.wz_valid_code.specs.Runs.{ends_of}
use Rattle.wz_valid_code.proofs.RunLemmas.{total, total-more, ends-more}
use Rattle.wz_valid_code.proofs.locals.ends_of.Goals as goal

more-end : (runs : List (ℕ × ValType)) (index end width : ℕ) → index < length runs → end ≡ total (take index runs) → width ≡ (get_or runs index (0, I32)).0 → end + width
    ≡ total (take (index + 1) runs)
more-end runs index end width h is w =
    let one = ap total (take_more runs index (0, I32) h) ∙ total-more (take index runs) (get_or runs index (0, I32)) in
    omega (arith, one, is, w)

more-ends : (runs : List (ℕ × ValType)) (index end width : ℕ) (ends new : List ℕ) → index < length runs → end ≡ total (take index runs) → width ≡ (get_or runs index (0, I32)).0
    → ends ≡ ends_of 0 (take index runs) → new ≡ ends ++ (end + width) ∷ [] → new ≡ ends_of 0 (take (index + 1) runs)
more-ends runs index end width ends new h is w are e =
    let number : end + width ≡ 0 + total (take index runs) + (get_or runs index (0, I32)).0 = omega (arith, is, w) in
    e ∙ ap (λ x. x ++ (end + width) ∷ []) are ∙ ap (λ n. ends_of 0 (take index runs) ++ n ∷ []) number
    ∙ sym (ap (ends_of 0) (take_more runs index (0, I32) h) ∙ ends-more 0 (take index runs) (get_or runs index (0, I32)))

pub loop-run-preserved : goal.loop-run-preserved
loop-run-preserved c = record {
  ends = more-ends c.args.runs.now c.loop-run.run-index c.loop-run.end c.from-end.result c.loop-run.ends.items c.push.new.self.items c.loop-run-test.true
      c.loop-run.invariant.end c.from-end.ensures c.loop-run.invariant.ends c.in_ok-push.ensures.items;
  end = more-end c.args.runs.now c.loop-run.run-index c.loop-run.end c.from-end.result c.loop-run-test.true c.loop-run.invariant.end c.from-end.ensures;
  small = omega arith;
}
