use Rattle.same.proofs.Deciding.{unlike-sums}
use Rattle.same.proofs.decide_equal.Goals as goal

pub returns-then-sum1-sum2 : goal.returns-then-sum1-sum2
returns-then-sum1-sum2 c = unlike-sums _ _ _ _ _ _ _ _ _ c.requires.ready c.requires.ready_2 c.fill_keys.ensures c.fill_keys-2.ensures c.key_sum-sum1.ensures c.key_sum-sum2.ensures c.if-sum1-sum2.true _

pub decide_keyed-requires : goal.decide_keyed-requires
decide_keyed-requires c = record { ready = c.requires.ready; ready_2 = c.requires.ready_2; keys1_value = (c.fill_keys.ensures, c.fill_keys-2.ensures); n_in_bounds = c.requires.n_in_bounds }
