use Rattle.std.proofs.Common.{rules, refl}
use Rattle.wz_decode_code.specs.Tokens.{symbol_at}
use Rattle.wz_decode_code.proofs.TypeLaws.{byte_off}
use Rattle.wz_decode_code.proofs.PoolLemmas.{token_read}
use Rattle.wz_decode_code.proofs.pools.read_symbol.Goals as goal

pub returns-in_default-clause-bad : goal.returns-in_default-clause-bad
unfolding symbol_at
returns-in_default-clause-bad c = λ bad. rw (c.in_default.ensures.none refl) refl

pub returns-in-Some-read_token-clause-ok : goal.returns-in-Some-read_token-clause-ok
returns-in-Some-read_token-clause-ok c = rw (byte_off _ _ _ c.in-Some.ensures.found) (token_read _ _ _ _ c.in-Some-read_token.ensures)

pub returns-in-None-clause-bad : goal.returns-in-None-clause-bad
unfolding symbol_at
returns-in-None-clause-bad c = λ bad. rw (byte_off _ _ _ c.in-Some.ensures.found) (search rules)
