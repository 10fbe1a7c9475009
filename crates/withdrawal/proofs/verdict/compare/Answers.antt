use Rattle.withdrawal.proofs.Verdicts.{fold-valid, fold-tells}
use Rattle.withdrawal.proofs.verdict.compare.Goals as goal

pub decide-requires : goal.decide-requires
decide-requires c = record { valid = fold-valid c.requires.complete c.fold-c.ensures; valid_2 = c.requires.valid; key2_value = c.requires.key2_value }

pub returns : goal.returns
returns c = fold-tells _ _ _ c.decide.result c.fold-c.ensures c.decide.ensures
