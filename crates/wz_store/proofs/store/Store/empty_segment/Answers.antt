use Rattle.std.proofs.Common.{arith}
use Rattle.wz_store.proofs.ChangeLemmas.{data_is_emptied}
use Rattle.wz_store.proofs.store.Store.empty_segment.Goals as goal

pub returns-clause-changed : goal.returns-clause-changed
returns-clause-changed g c =
    rw (← c.self.view_is) (data_is_emptied _ c.args.at c.empty.new.self c.index_mut-data.result.now (omega (arith, c.self.inside.datas.ok)) c.empty.ensures)
