use mathlib.Core.Path.{ap, ◌∙◌}
use Rattle.std.specs.Prelude.{Ok}
use Rattle.matching_forced.proofs.Searching.{shape-again, any-absent, any-certified}
use Rattle.matching_forced.proofs.seek_any.Goals as goal

pub seek-requires : goal.seek-requires
seek-requires c = shape-again c.requires.shape c.seek-got.ensures.el_unchanged c.seek-got.ensures.tried.same c.seek-got.auto.row

pub returns-in-Ok-true : goal.returns-in-Ok-true
returns-in-Ok-true c = record { searched = c.seek-got.ensures.tried.found (c.in-Ok-true.is ∙ ap Ok c.in-Ok-true.field-0-test); el_unchanged = c.seek-got.ensures.el_unchanged }

pub returns-in-Ok-false : goal.returns-in-Ok-false
returns-in-Ok-false c = record { searched = any-absent c.requires.shape c.seek-got.ensures.tried (c.in-Ok-false.is ∙ ap Ok c.in-Ok-false.field-0-test) c.blank.ensures; el_unchanged = c.seek-got.ensures.el_unchanged }

pub returns-in-Err : goal.returns-in-Err
returns-in-Err c = record { searched = any-certified c.requires.shape c.seek-got.ensures.tried c.seek-got.ensures.el_unchanged c.seek.ensures; el_unchanged = c.seek-got.ensures.el_unchanged }
