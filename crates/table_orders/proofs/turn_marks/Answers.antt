use native.Mathlib.Omega.{arith}
use mathlib.Core.Path.{◌∙◌}
use lib.IntN.{pos}
use mir.Val.{SFits}
use mir.Syntax.{w32}
use mir.Facts.{to_z-of_z}
use Rattle.table.specs.Orders.{at_end}
use Rattle.table.proofs.Valid.{mark-small}
use Rattle.table.proofs.Orders.{turned-small}
use Rattle.table_orders.proofs.Laws.{turning-start, turning-valid, turning-fit, turning-length, turning-put, turning-skip, turning-end}
use Rattle.table_orders.proofs.turn_marks.Goals as goal
use Rattle.table_orders.proofs.turn_marks.Goals.{then-k-ne0, else-k-ne0}

pub loop-i-init : goal.loop-i-init
loop-i-init c = turning-start

pub turned_mark-k-requires : goal.turned_mark-k-requires
turned_mark-k-requires c = let w = c.loop-i.invariant in
    let l = c.loop-i-test.true in
    let v = turning-valid w c.requires.valid in record { a_lt_max_atoms = (omega (arith, v.atoms_few), v.bonds_few, c.requires.m_value.1); a_bound = (mark-small v c.loop-i.i l, turning-fit w c.requires.m_value.0 l) }

pub overflow_cast-k : goal.overflow_cast-k
overflow_cast-k c = let v = turning-valid c.loop-i.invariant c.requires.valid in
    let k = turned-small (at_end c.args.ranks.now c.args.bonds.now) c.args.bonds.now c.args.m c.loop-i.atoms c.loop-i.i (mark-small v c.loop-i.i c.loop-i-test.true) in
    record { sfits = omega (arith, k, c.turned_mark-k.ensures) }

pub put_atom_cell-requires : goal.put_atom_cell-requires
put_atom_cell-requires c = (omega (arith, c.requires.valid.atoms_few), omega arith)

pub loop-i-preserved : goal.loop-i-preserved
loop-i-preserved c = let w = c.loop-i.invariant in
    let l = c.loop-i-test.true in
    let e = c.turned_mark-k.ensures in
    let x = turning-valid w c.requires.valid in
    let k = turned-small (at_end c.args.ranks.now c.args.bonds.now) c.args.bonds.now c.args.m c.loop-i.atoms c.loop-i.i (mark-small x c.loop-i.i l) in
    let f : SFits w32 (pos c.turned_mark-k.result) = record { sfits = omega (arith, k, e) } in
    elim c.if-k-ne0.branch [
      | then-k-ne0 v ↦ turning-put w l e (v.atoms-is ∙ v.put_atom_cell.ensures) (to_z-of_z f)
      | else-k-ne0 v ↦ turning-skip w c.requires.valid l e v.if-k-ne0.false v.atoms-is
    ]

pub shape_of-atoms : goal.shape_of-atoms
shape_of-atoms c = turning-length c.loop-i.invariant

pub returns : goal.returns
returns c = turning-end c.loop-i.invariant c.loop-i-test.false
