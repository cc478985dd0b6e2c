use Rattle.wz_rewrite.proofs.PieceLaws.{pieces_are_output, pieces_are_chosen, pieces_are_kept}
use Rattle.wz_rewrite.proofs.laws.pieces_are_output.Goals as goal

pub returns-clause-bytes : goal.returns-clause-bytes
returns-clause-bytes c = pieces_are_output

pub returns-clause-ranges : goal.returns-clause-ranges
returns-clause-ranges c = pieces_are_chosen

pub returns-clause-kept : goal.returns-clause-kept
returns-clause-kept c = pieces_are_kept
