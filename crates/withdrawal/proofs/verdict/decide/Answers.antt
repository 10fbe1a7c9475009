use mathlib.Core.Path.{sym, ◌∙◌}
use Rattle.drawing_key.proofs.Claims.{redrawing-key}
use Rattle.withdrawal.proofs.verdict.decide.Goals as goal

pub returns-then-key-key2 : goal.returns-then-key-key2
returns-then-key-key2 c = λ w. c.if-key-key2.true (c.key.ensures ∙ redrawing-key w ∙ sym c.requires.key2_value)

pub returns-then-shows_redrawing : goal.returns-then-shows_redrawing
returns-then-shows_redrawing c = c.shows_redrawing.ensures c.if-shows_redrawing.true
