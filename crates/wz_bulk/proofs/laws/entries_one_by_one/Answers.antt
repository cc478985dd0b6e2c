use Rattle.wz_bulk.proofs.RangeLemmas.{fill_is_whole, copy_is_whole, move_is_whole}
use Rattle.wz_bulk.proofs.laws.entries_one_by_one.Goals as goal

pub returns : goal.returns
returns c = record { filled = fill_is_whole; copied = copy_is_whole; moved = move_is_whole }
