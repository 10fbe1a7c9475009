use Rattle.withdrawal.proofs.Verdicts.{refused_says, text-complete, text_says}
use Rattle.withdrawal.proofs.Tables.{read_alike}
use mathlib.Core.Path.{◌∙◌}
use Rattle.withdrawal.proofs.verdict.judge.Goals as goal

pub compare-requires : goal.compare-requires
compare-requires c = record {
  complete = text-complete _ _ _ _ (c.read-a.ensures ∙ read_alike _ _ _ c.read-arg-1.given.0.1 c.read-arg-2-1.given.0.1) c.in-Ok.is;
  valid = c.requires.valid;
  key2_value = c.requires.key2_value;
}

pub returns-in-Err : goal.returns-in-Err
returns-in-Err c = refused_says _ _ _ _ (c.read-a.ensures ∙ read_alike _ _ _ c.read-arg-1.given.0.1 c.read-arg-2-1.given.0.1) c.in-Err.is _

pub returns-in-Ok : goal.returns-in-Ok
returns-in-Ok c = text_says _ _ _ _ (c.read-a.ensures ∙ read_alike _ _ _ c.read-arg-1.given.0.1 c.read-arg-2-1.given.0.1) c.in-Ok.is _ c.compare.result c.compare.ensures
