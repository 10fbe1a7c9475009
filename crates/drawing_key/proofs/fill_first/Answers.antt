use native.Mathlib.Omega.{arith}
use mathlib.Core.Path.{◌∙◌}
use Rattle.loops.proofs.Loops.{each_at, filled-end}
use Rattle.table.specs.Valid.{atom_ok}
use Rattle.drawing_key.specs.Key.{cells_number, hashed}
use Rattle.drawing_key.proofs.Making.{replacing-step}
use Rattle.drawing_key.proofs.fill_first.Goals as goal

pub first_key-requires : goal.first_key-requires
first_key-requires c = record { a_lt_max_atoms = (omega (arith, c.requires.n_le_max_atoms.0), each_at (atom_ok c.args.atoms.now) c.args.n c.loop-i.i c.requires.n_le_max_atoms.1 c.loop-i-test.true); sum_bound = (omega (arith, c.plus.ensures, c.shared_slice_known-in-loop-i-1.given c.loop-i.i, c.shared_slice_known-in-loop-i-2-1.given c.loop-i.i), omega (arith, c.loop-i.invariant.rest c.loop-i.i (omega arith), c.requires.low.at c.loop-i.i)) }

pub loop-i-preserved : goal.loop-i-preserved
loop-i-preserved c = replacing-step c.loop-i.invariant _ c.loop-i-test.true (c.first_key.ensures ∙ (λ i. hashed (cells_number c.args.atoms.now c.loop-i.i) (c.plus.ensures i) (c.loop-i.invariant.rest c.loop-i.i (omega arith) i)))

pub returns : goal.returns
returns c = filled-end c.loop-i.invariant.edited c.requires.n_in_bounds.2 c.loop-i-test.false
