use Rattle.wz_encode.proofs.DatasWritten.{data_spelled, datas_spelled}
use Rattle.wz_encode.proofs.laws.datas_are_spelled.Goals as goal

pub returns-clause-data : goal.returns-clause-data
returns-clause-data c = data_spelled

pub returns-clause-datas : goal.returns-clause-datas
returns-clause-datas c = datas_spelled
