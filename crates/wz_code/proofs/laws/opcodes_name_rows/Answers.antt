use Rattle.wz_code.proofs.LawLemmas.{names_operation, operation_named, names_access, access_named}
use Rattle.wz_code.proofs.laws.opcodes_name_rows.Goals as goal

pub returns-clause-names : goal.returns-clause-names
returns-clause-names c = names_operation

pub returns-clause-named : goal.returns-clause-named
returns-clause-named c = operation_named

pub returns-clause-names_access : goal.returns-clause-names_access
returns-clause-names_access c = names_access

pub returns-clause-access_named : goal.returns-clause-access_named
returns-clause-access_named c = access_named
