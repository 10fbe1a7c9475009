use native.Mathlib.Omega.{arith}
use Rattle.drawing_key.proofs.Making.{digits, charge-fits, charge-number, charge-low, cells-number}
use Rattle.drawing_key.proofs.cells_number.Goals as goal

pub overflow_add-atom_cell : goal.overflow_add-atom_cell
overflow_add-atom_cell c = charge-fits c.atom_cell.ensures.sfits c.atom_cell.ensures.value (digits c.args.atoms.now c.args.a.0 c.requires.1).charge

pub overflow_mul-result : goal.overflow_mul-result
overflow_mul-result c = let d = digits c.args.atoms.now c.args.a.0 c.requires.1 in omega (arith, c.atom_number-e.ensures, d.element)

pub overflow_add-result : goal.overflow_add-result
overflow_add-result c = let d = digits c.args.atoms.now c.args.a.0 c.requires.1 in omega (arith, c.atom_number-e.ensures, c.atom_number-i.ensures, d.element, d.isotope)

pub overflow_mul-result-2 : goal.overflow_mul-result-2
overflow_mul-result-2 c = let d = digits c.args.atoms.now c.args.a.0 c.requires.1 in omega (arith, c.atom_number-e.ensures, c.atom_number-i.ensures, d.element, d.isotope)

pub overflow_add-result-2 : goal.overflow_add-result-2
overflow_add-result-2 c = let d = digits c.args.atoms.now c.args.a.0 c.requires.1 in omega (arith, c.atom_number-e.ensures, c.atom_number-i.ensures, c.atom_number-h.ensures, d.element, d.isotope, d.hydrogens)

pub overflow_mul-result-3 : goal.overflow_mul-result-3
overflow_mul-result-3 c = let d = digits c.args.atoms.now c.args.a.0 c.requires.1 in omega (arith, c.atom_number-e.ensures, c.atom_number-i.ensures, c.atom_number-h.ensures, d.element, d.isotope, d.hydrogens)

pub overflow_add-result-3 : goal.overflow_add-result-3
overflow_add-result-3 c = let d = digits c.args.atoms.now c.args.a.0 c.requires.1 in omega (arith, c.atom_number-e.ensures, c.atom_number-i.ensures, c.atom_number-h.ensures, d.element, d.isotope, d.hydrogens, charge-number c.atom_cell.ensures.sfits c.atom_cell.ensures.value d.charge c.number-c.ensures, charge-low c.atom_cell.ensures.sfits c.atom_cell.ensures.value d.charge)

pub returns : goal.returns
returns c = let d = digits c.args.atoms.now c.args.a.0 c.requires.1 in
    cells-number c.args.atoms.now c.args.a.0 c.atom_number-e.ensures c.atom_number-i.ensures c.atom_number-h.ensures (charge-number c.atom_cell.ensures.sfits c.atom_cell.ensures.value d.charge c.number-c.ensures)
