use Rattle.wz_decode.proofs.CauseLaws.{whole_is_front, front_is_whole}
use Rattle.wz_decode.proofs.laws.whole_is_front.Goals as goal

pub returns-clause-front : goal.returns-clause-front
returns-clause-front c = whole_is_front

pub returns-clause-whole : goal.returns-clause-whole
returns-clause-whole c = front_is_whole
