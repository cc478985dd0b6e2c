use Rattle.wz_encode.proofs.WrittenLaws.{memories_spelled, constant_spelled, globals_spelled, export_spelled, exports_spelled}
use Rattle.wz_encode.proofs.laws.lists_are_spelled.Goals as goal

pub returns-clause-memories : goal.returns-clause-memories
returns-clause-memories c = memories_spelled

pub returns-clause-constant : goal.returns-clause-constant
returns-clause-constant c = constant_spelled

pub returns-clause-globals : goal.returns-clause-globals
returns-clause-globals c = globals_spelled

pub returns-clause-export : goal.returns-clause-export
returns-clause-export c = export_spelled

pub returns-clause-exports : goal.returns-clause-exports
returns-clause-exports c = exports_spelled
