use native.Mathlib.Omega.{arith}
use mathlib.Core.Path.{refl, ◌∙◌}
use Rattle.matching_certified.proofs.Reason.{ends_at}
use Rattle.matching_engine.proofs.Lasts.{note-start, note_step, note-end}
use Rattle.matching_engine.proofs.fill_lasts.Goals as goal

pub loop-j-init : goal.loop-j-init
loop-j-init c = (note-start, refl)

pub note_bond-requires : goal.note_bond-requires
note_bond-requires c = record { ends = ends_at c.requires c.loop-j-test.true; k_in_bounds = omega (arith, c.requires.third) }

pub loop-j-preserved : goal.loop-j-preserved
loop-j-preserved c = (note_step c.loop-j.invariant.0 c.loop-j-test.true c.note_bond.ensures, c.note_bond.auto.last ∙ c.loop-j.invariant.1)

pub shape_of-last : goal.shape_of-last
shape_of-last c = c.loop-j.invariant.1

pub returns : goal.returns
returns c = note-end c.loop-j.invariant.0 c.loop-j-test.false
