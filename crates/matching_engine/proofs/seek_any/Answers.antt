use mathlib.Core.Path.{ap, ◌∙◌}
use Rattle.std.specs.Prelude.{Ok}
use Rattle.matching_engine.proofs.Tried.{then-blank, then-certified, shape-again}
use Rattle.matching_engine.proofs.seek_any.Goals as goal

pub seek-requires : goal.seek-requires
seek-requires c = shape-again c.requires.shape c.seek-got.ensures c.seek-got.auto.row

pub returns-in-Ok-true : goal.returns-in-Ok-true
returns-in-Ok-true c = c.seek-got.ensures.found (c.in-Ok-true.is ∙ ap Ok c.in-Ok-true.field-0-test)

pub returns-in-Ok-false : goal.returns-in-Ok-false
returns-in-Ok-false c = then-blank c.requires.shape c.seek-got.ensures (c.in-Ok-false.is ∙ ap Ok c.in-Ok-false.field-0-test) c.blank.ensures

pub returns-in-Err : goal.returns-in-Err
returns-in-Err c = then-certified c.requires.shape c.seek-got.ensures c.seek.ensures
