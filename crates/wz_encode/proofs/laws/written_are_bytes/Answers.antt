use Rattle.wz_encode.proofs.BytesWritten.{memories_bytes, globals_bytes, exports_bytes, elements_bytes, datas_bytes, count_bytes}
use Rattle.wz_encode.proofs.laws.written_are_bytes.Goals as goal

pub returns-clause-memories : goal.returns-clause-memories
returns-clause-memories c = memories_bytes

pub returns-clause-globals : goal.returns-clause-globals
returns-clause-globals c = globals_bytes

pub returns-clause-exports : goal.returns-clause-exports
returns-clause-exports c = exports_bytes

pub returns-clause-elements : goal.returns-clause-elements
returns-clause-elements c = elements_bytes

pub returns-clause-datas : goal.returns-clause-datas
returns-clause-datas c = datas_bytes

pub returns-clause-count : goal.returns-clause-count
returns-clause-count c = count_bytes
