use native.Mathlib.Omega.{arith}
use mathlib.Core.Path.{refl, ◌∙◌}
use Rattle.loops.proofs.Loops.{edited-start, filled-step, filled-end}
use Rattle.folding.proofs.Links.{turned-start, turned-low, turned-number, turned-step, turned-end}
use Rattle.folding.proofs.fold_atoms.Goals as goal

pub loop-i-init : goal.loop-i-init
loop-i-init c = (turned-start, edited-start, refl)

pub new_number-requires : goal.new_number-requires
new_number-requires c = omega (arith, turned-low c.loop-i.invariant.0)

pub next_number-k-requires : goal.next_number-k-requires
next_number-k-requires c = omega (arith, turned-low c.loop-i.invariant.0)

pub loop-i-preserved : goal.loop-i-preserved
loop-i-preserved c = (
  turned-step c.loop-i.invariant.0 c.loop-i-test.true c.fold_atom-gone.ensures.value c.fold_atom-gone.ensures.atoms_after c.next_number-k.ensures,
  filled-step c.loop-i.invariant.1 _ c.loop-i-test.true (turned-number c.loop-i.invariant.0 c.fold_atom-gone.ensures.value c.new_number.ensures),
  c.fold_atom-gone.auto.atoms ∙ c.loop-i.invariant.2,
)

pub returns : goal.returns
returns c = let e = turned-end c.loop-i.invariant.0 c.loop-i-test.false in
    record { value = e.0; atoms_after = e.1; numbers_after = filled-end c.loop-i.invariant.1 c.requires.2 c.loop-i-test.false }
