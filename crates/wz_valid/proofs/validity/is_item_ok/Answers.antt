use Rattle.std.proofs.Common.{◌<◌, sym, subst, arith}
use Rattle.wz_module.specs.Meaning.{module_of}
use Rattle.wz_valid.specs.declared.faults.Part.{Part}
use Rattle.wz_valid.specs.Validity.{part_rank}
use Rattle.wz_valid.proofs.CheckLemmas.{types_before}
use Rattle.wz_valid.proofs.validity.is_item_ok.Goals as goal

pub is_global_ok-requires-clause-types : goal.is_global_ok-requires-clause-types
is_global_ok-requires-clause-types c =
    types_before (module_of c.args.checker.now.«module».now) c.args.part c.args.index (subst (λ (p : Part). 1 < part_rank p) (sym c.in-Global.is) (omega arith)) c.requires.before
    c.args.checker.now.context c.requires.says

pub is_element_ok-requires-clause-types : goal.is_element_ok-requires-clause-types
is_element_ok-requires-clause-types c =
    types_before (module_of c.args.checker.now.«module».now) c.args.part c.args.index (subst (λ (p : Part). 1 < part_rank p) (sym c.in-Element.is) (omega arith)) c.requires.before
    c.args.checker.now.context c.requires.says

pub is_code_ok-requires-clause-types : goal.is_code_ok-requires-clause-types
is_code_ok-requires-clause-types c =
    types_before (module_of c.args.checker.now.«module».now) c.args.part c.args.index (subst (λ (p : Part). 1 < part_rank p) (sym c.in-Code.is) (omega arith)) c.requires.before
    c.args.checker.now.context c.requires.says

pub is_data_ok-requires-clause-types : goal.is_data_ok-requires-clause-types
is_data_ok-requires-clause-types c =
    types_before (module_of c.args.checker.now.«module».now) c.args.part c.args.index (subst (λ (p : Part). 1 < part_rank p) (sym c.in-DataSegment.is) (omega arith))
    c.requires.before c.args.checker.now.context c.requires.says
