use native.Mathlib.Omega.{arith}
use Rattle.reader.proofs.Ends.{told-long, told-refused, told-fine, text-bounded, text-valid, text-rankable}
use Rattle.reader.proofs.read_row.Goals as goal

pub returns-then-text-gt-MAX_TEXT : goal.returns-then-text-gt-MAX_TEXT
returns-then-text-gt-MAX_TEXT c = record { bonds_after = (λ a b ex ey. told-long _ a b c.if-text-gt-MAX_TEXT.true ex ey); chosen = record { is = tt } }

pub end_row-requires : goal.end_row-requires
end_row-requires c = let p = c.requires.ready in
    let l = c.if-text-gt-MAX_TEXT.false in
    let g = c.in-Ok.ensures in
    let f = text-bounded _ g in
    record { atoms_le_max_atoms = (f.atoms, f.bonds); valid = text-valid _ _ _ l p.atoms_zero p.bonds_zero _ g p.room; rankable = text-rankable _ _ _ l p.atoms_zero p.bonds_zero _ g p.room; bonds_in_bounds = omega (arith, f.bonds, c.requires.max_bonds_in_bounds) }

pub returns-in-Ok : goal.returns-in-Ok
returns-in-Ok c = record { bonds_after = (λ a b ex ey. told-fine _ a b c.if-text-gt-MAX_TEXT.false ex ey _ c.in-Ok.ensures c.end_row.ensures.bonds_after); chosen = c.end_row.ensures.chosen }

pub returns-in-Err : goal.returns-in-Err
returns-in-Err c = record { bonds_after = (λ a b ex ey. told-refused _ a b c.if-text-gt-MAX_TEXT.false ex ey _ c.in-Err.ensures c.read_text.auto.atoms c.read_text.auto.bonds c.clear.ensures c.clear-in-Err.ensures); chosen = record { is = tt } }
