use native.Mathlib.Omega.{arith}
use Rattle.writing_marks.proofs.Laws.{ends-below, numbered-some, number-below}
use Rattle.writing_marks.proofs.bond_ranks.Goals as goal

pub walk_number-x-requires : goal.walk_number-x-requires
walk_number-x-requires c = let e = (ends-below c.args.bonds.now c.requires.bonds_fit c.requires.numbered c.args.b.0 c.requires.b_lt_m.0).0 in
    record { a_in_bounds = rw c.bond_number.ensures (omega (arith, e, c.requires.numbered.numbers)); nonzero = rw c.bond_number.ensures (numbered-some c.args.bonds.now c.requires.bonds_fit c.requires.numbered _ e) }

pub walk_number-y-requires : goal.walk_number-y-requires
walk_number-y-requires c = let e = (ends-below c.args.bonds.now c.requires.bonds_fit c.requires.numbered c.args.b.0 c.requires.b_lt_m.0).1 in
    record { a_in_bounds = rw c.bond_number-2.ensures (omega (arith, e, c.requires.numbered.numbers)); nonzero = rw c.bond_number-2.ensures (numbered-some c.args.bonds.now c.requires.bonds_fit c.requires.numbered _ e) }

pub put_ranks-requires : goal.put_ranks-requires
put_ranks-requires c = let f = c.requires.bonds_fit in
    let d = c.requires.numbered in
    let e = ends-below c.args.bonds.now f d c.args.b.0 c.requires.b_lt_m.0 in
    let x = number-below c.args.bonds.now f d _ e.0 in
    let y = number-below c.args.bonds.now f d _ e.1 in
    record { n_le_max_atoms = (f.atoms_few, d.ups); x_lt_n = (rw (c.walk_number-x.ensures, c.bond_number.ensures) x, rw (c.walk_number-y.ensures, c.bond_number-2.ensures) y); b_in_bounds = omega (arith, c.requires.b_lt_m) }

pub returns : goal.returns
returns c = rw (c.put_ranks.ensures, c.walk_number-y.ensures, c.bond_number-2.ensures, c.walk_number-x.ensures, c.bond_number.ensures)
