use Prim.Native.Nat.{◌+◌}
use lib.IntN.{pos}
use mir.Val.{SFits}
use mir.Syntax.{w32}
use mir.Facts.{to_z-of_z}
use native.Mathlib.Omega.{arith}
use Rattle.table.proofs.Keys.{held}
use Rattle.folding.proofs.Paths.{going, fold-yes}
use Rattle.folding.proofs.fold_atom.Goals as goal

pub overflow_sub-p : goal.overflow_sub-p
overflow_sub-p c = let g = going c.args.link c.args.a.0 c.args.atoms.now (held c.folds.ensures c.if-not-folds.false-raw) in omega (arith, g.linked)

pub atom_number-h-requires : goal.atom_number-h-requires
atom_number-h-requires c = let g = going c.args.link c.args.a.0 c.args.atoms.now (held c.folds.ensures c.if-not-folds.false-raw) in
    (omega (arith, g.linked, g.limit), omega arith)

pub overflow_add-h : goal.overflow_add-h
overflow_add-h c = let g = going c.args.link c.args.a.0 c.args.atoms.now (held c.folds.ensures c.if-not-folds.false-raw) in
    omega (arith, g.room, c.atom_number-h.ensures)

pub overflow_cast-h : goal.overflow_cast-h
overflow_cast-h c = let g = going c.args.link c.args.a.0 c.args.atoms.now (held c.folds.ensures c.if-not-folds.false-raw) in
    omega (arith, g.room, c.atom_number-h.ensures)

pub put_atom_cell-requires : goal.put_atom_cell-requires
put_atom_cell-requires c = let g = going c.args.link c.args.a.0 c.args.atoms.now (held c.folds.ensures c.if-not-folds.false-raw) in
    (omega (arith, g.linked, g.limit), omega arith)

pub returns : goal.returns
returns c =
    let g = going c.args.link c.args.a.0 c.args.atoms.now (held c.folds.ensures c.if-not-folds.false-raw) in
    let f : SFits w32 (pos (c.atom_number-h.result + 1)) = record { sfits = omega (arith, g.room, c.atom_number-h.ensures) } in
    let p = fold-yes c.args.link c.args.a.0 c.args.atoms.now (held c.folds.ensures c.if-not-folds.false-raw) c.atom_number-h.ensures (to_z-of_z f) c.put_atom_cell.ensures in
    record { value = p.0; atoms_after = p.1 }
