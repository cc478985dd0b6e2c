use Rattle.wz_linear.proofs.NumberLemmas.{store_is_full, loads_what_was_stored, number_of_bytes, bytes_of_number}
use Rattle.wz_linear.proofs.laws.load_after_store.Goals as goal

pub returns-clause-full : goal.returns-clause-full
returns-clause-full c = store_is_full

pub returns-clause-loaded : goal.returns-clause-loaded
returns-clause-loaded c = loads_what_was_stored

pub returns-clause-number : goal.returns-clause-number
returns-clause-number c = number_of_bytes

pub returns-clause-bytes : goal.returns-clause-bytes
returns-clause-bytes c = bytes_of_number
