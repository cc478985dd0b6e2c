use Rattle.std.proofs.Common.{◌<◌, refl, arith}
use Rattle.std.proofs.lemmas.Result.{err_from_is_err_and}
use Rattle.wz_module.specs.Views.{section_of, module_with}
use Rattle.wz_decode.proofs.StepLaws.{memories_taken, memories_held, not_memories}
use Rattle.wz_decode.proofs.declarations.take_memories.Goals as goal

pub returns-in_err-memories-clause-bad : goal.returns-in_err-memories-clause-bad
returns-in_err-memories-clause-bad c =
    let p = err_from_is_err_and c.from_residual.result c.from_residual.ensures.1 in
    λ bad. not_memories c.args.last (section_of c.args.section) c.requires.id (c.in_err-memories.ensures.bad (cc (p.1, p.2)))

pub returns-clause-ok : goal.returns-clause-ok
returns-clause-ok c =
    let less : c.args.last < 5 = omega arith in
    memories_taken (module_with c.args.parts.now) c.args.last c.args.parts.now.sections.items _ c.args.section c.in_ok-memories.memories.items refl c.in_ok-push.ensures.items c.requires.id c.requires.front less c.in_ok-memories.ensures.found

pub returns-clause-contents : goal.returns-clause-contents
returns-clause-contents c = memories_held (section_of c.args.section) c.in_ok-memories.memories.items c.requires.id c.in_ok-memories.ensures.found
