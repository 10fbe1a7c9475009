use native.Mathlib.Omega.{arith}
use mathlib.Core.Path.{sym, ap, ◌∙◌}
use mathlib.Core.Bool.{Bool}
use Rattle.loops.specs.Loop.{pick}
use Rattle.table_validity.proofs.Degrees.{degrees-begin, degrees-loose, degrees-next, degrees-end}
use Rattle.table_validity.proofs.late.check_degrees.Goals as goal

pub loop-i-init : goal.loop-i-init
loop-i-init c = degrees-begin

pub atom_number-selected-requires : goal.atom_number-selected-requires
atom_number-selected-requires c = (omega arith, omega arith)

pub returns-then-selected-d : goal.returns-then-selected-d
returns-then-selected-d c = degrees-loose c.loop-i.invariant c.loop-i-test.true (rw (← c.atom_number-selected.ensures, c.if-selected-d.true))

pub loop-i-preserved : goal.loop-i-preserved
loop-i-preserved c = degrees-next c.loop-i.invariant c.fits-fit.result c.loop-i-test.true (rw (← c.atom_number-selected.ensures, c.if-selected-d.false)) c.fits-fit.ensures

pub returns-then-fit : goal.returns-then-fit
returns-then-fit c = sym (degrees-end c.loop-i.invariant c.loop-i-test.false ∙ ap (λ (x : Bool). pick x 0 23) c.if-fit.true)

pub returns-else-fit : goal.returns-else-fit
returns-else-fit c = sym (degrees-end c.loop-i.invariant c.loop-i-test.false ∙ ap (λ (x : Bool). pick x 0 23) c.if-fit.false)
