use native.Mathlib.Omega.{arith}
use mathlib.Core.Path.{refl, ap, ◌∙◌}
use Rattle.loops.proofs.Loops.{edited-step, edited-end}
use Rattle.folding.specs.Links.{move_atom, move_atoms}
use Rattle.folding.proofs.Paths.{end-at}
use Rattle.folding.proofs.move_atoms.Goals as goal

pub loop-i-preserved : goal.loop-i-preserved
loop-i-preserved c = edited-step c.loop-i.invariant _ c.loop-i-test.true (c.move_atom.ensures ∙ ap (λ k. move_atom k c.loop-i.i c.loop-i.atoms) (end-at c.args.numbers.now c.loop-i.i refl (omega (arith, c.requires.1, c.loop-i-test.true)))) c.move_atom.auto.atoms

pub returns : goal.returns
unfolding move_atoms
returns c = edited-end c.loop-i.invariant c.loop-i-test.false
