use Prim.Native.Nat.{◌+◌}
use mathlib.Core.Path.{sym, ap, ◌∙◌}
use lib.Dec.{eqb}
use Rattle.table_validity.proofs.Degrees.{fit-unmarked, fit-hydrogens, fit-four}
use Rattle.table_validity.proofs.late.fits.Goals as goal

pub returns-then-atom_number-eq0 : goal.returns-then-atom_number-eq0
returns-then-atom_number-eq0 c = let a = c.args in sym (fit-unmarked a.atoms.now a.a.0 a.d (sym c.atom_number.ensures ∙ c.if-atom_number-eq0.true))

pub returns-then-h-gt1 : goal.returns-then-h-gt1
returns-then-h-gt1 c = let a = c.args in
    sym (fit-hydrogens a.atoms.now a.a.0 a.d (λ e. c.if-atom_number-eq0.false (c.atom_number.ensures ∙ e)) (rw c.atom_number-h.ensures at c.if-h-gt1.true))

pub returns : goal.returns
returns c = let a = c.args in
    ap (λ h. eqb (a.d + h) 4) c.atom_number-h.ensures
    ∙ sym (fit-four a.atoms.now a.a.0 a.d (λ e. c.if-atom_number-eq0.false (c.atom_number.ensures ∙ e)) (rw c.atom_number-h.ensures at c.if-h-gt1.false))
