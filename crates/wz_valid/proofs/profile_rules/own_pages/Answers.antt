use Rattle.std.proofs.Common.{List, ap, ◌∙◌, arith}
use Rattle.std.specs.List.{sum_by}
use Rattle.std.proofs.lemmas.List.{take_all}
use Rattle.wz_types.specs.declared.types.MemType.{MemType}
use Rattle.wz_module.specs.Meaning.{module_of}
use Rattle.wz_valid.proofs.ProfileLemmas.{own_first_pages}
use Rattle.wz_valid.proofs.profile_rules.own_pages.Goals as goal

pub returns : goal.returns
returns c =
    let total = λ (memories : List MemType). sum_by (λ memory. memory.limits.min) memories in
    c.loop-memory.invariant.0
    ∙ ap total (take_all c.loop-memory.memory-index c.memories-memories.result.now (omega arith))
    ∙ ap total c.memories-memories.ensures
    ∙ own_first_pages (module_of c.args.«module».now) c.requires
