use mathlib.Core.Path.{ap, ◌∙◌}
use mathlib.Core.List.{List}
use lib.ListN.{set}
use lib.IntN.{ℤ, pos}
use Rattle.loops.proofs.Loops.{edited-step, edited-end}
use Rattle.table.specs.Limits.{MARK}
use Rattle.table.specs.Cells.{atom_place}
use Rattle.folding.specs.Folding.{bared_atoms}
use Rattle.folding.proofs.bare_atoms.Goals as goal

pub loop-i-preserved : goal.loop-i-preserved
loop-i-preserved c = edited-step c.loop-i.invariant _ c.loop-i-test.true (c.put_atom_cell-in-loop-i.ensures ∙ ap (λ (t : List ℤ). set t (atom_place c.loop-i.i MARK) (pos 0)) c.put_atom_cell.ensures) (c.put_atom_cell-in-loop-i.auto.t ∙ c.put_atom_cell.auto.t)

pub returns : goal.returns
unfolding bared_atoms
returns c = edited-end c.loop-i.invariant c.loop-i-test.false
