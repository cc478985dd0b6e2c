use Rattle.wz_bulk.proofs.RangeLemmas.{fill_of_bytes, copy_of_bytes, move_of_bytes}
use Rattle.wz_bulk.proofs.laws.bytes_one_by_one.Goals as goal

pub returns : goal.returns
returns c = record { filled = fill_of_bytes; copied = copy_of_bytes; moved = move_of_bytes }
