use Rattle.std.proofs.Common.{◌≡◌, length}
use Rattle.wz_types.specs.Fits.{all_fit}
use Rattle.wz_machine.proofs.callee.all_fit.Given as goal

abbrev pub invariant-loop-values : goal.invariant-loop-values
invariant-loop-values l = all_fit l.values l.kinds l.functions l.types ≡ all_fit l.initial.values l.initial.kinds l.functions l.types

abbrev pub decreases-loop-values : goal.decreases-loop-values
decreases-loop-values l = length l.values
