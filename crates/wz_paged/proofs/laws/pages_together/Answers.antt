use Rattle.std.proofs.Common.{refl}
use Rattle.wz_paged.proofs.PageLemmas.{length-bytes_of_pages, part_pages, pages_written, pages_grown}
use Rattle.wz_paged.proofs.laws.pages_together.Goals as goal

pub returns-clause-size : goal.returns-clause-size
returns-clause-size c = length-bytes_of_pages

pub returns-clause-read : goal.returns-clause-read
returns-clause-read c size pages number at count h inside = part_pages size pages _ number at count refl inside h

pub returns-clause-written : goal.returns-clause-written
returns-clause-written c size pages number at page bytes h inside same = pages_written size pages _ number at page bytes refl inside h same

pub returns-clause-grown : goal.returns-clause-grown
returns-clause-grown c = pages_grown
