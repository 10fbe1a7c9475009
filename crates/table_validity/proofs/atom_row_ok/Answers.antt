use mir.Facts.{to_z-of_z}
use mathlib.Core.Bool.{Bool}
use lib.IntN.{ℤ, pos, negsuc}
use Rattle.table.specs.Cells.{in_range}
use Rattle.table.specs.Valid.{max_mark, atom_row_ok}
use Rattle.table_validity.proofs.Ranges.{inside, outside}
use Rattle.table_validity.proofs.atom_row_ok.Goals as goal

-- the range of each field
abbrev element : ℤ → Bool
element x = in_range x (pos 0) (pos 118)

abbrev isotope : ℤ → Bool
isotope x = in_range x (pos 0) (pos 999)

abbrev hydrogens : ℤ → Bool
hydrogens x = in_range x (pos 0) (pos 9)

abbrev charge : ℤ → Bool
charge x = in_range x (negsuc 8) (pos 9)

abbrev extension : ℤ → Bool
extension x = in_range x (pos 0) (pos 9999)

abbrev mark : ℤ → Bool
mark x = in_range x (pos 0) (pos max_mark)

pub returns-then-not-within : goal.returns-then-not-within
unfolding atom_row_ok
returns-then-not-within c = let f = c.requires in
    simp (outside element (to_z-of_z f.element) c.within.ensures c.if-not-within.true-raw)

pub returns-then-not-within-2 : goal.returns-then-not-within-2
unfolding atom_row_ok
returns-then-not-within-2 c = let f = c.requires in
    simp (inside element (to_z-of_z f.element) c.within.ensures c.if-not-within.false-raw, outside isotope (to_z-of_z f.isotope) c.within-2.ensures c.if-not-within-2.true-raw)

pub returns-then-not-within-3 : goal.returns-then-not-within-3
unfolding atom_row_ok
returns-then-not-within-3 c = let f = c.requires in
    simp (inside element (to_z-of_z f.element) c.within.ensures c.if-not-within.false-raw, inside isotope (to_z-of_z f.isotope) c.within-2.ensures c.if-not-within-2.false-raw, outside hydrogens (to_z-of_z f.hydrogens) c.within-3.ensures c.if-not-within-3.true-raw)

pub returns-then-not-within-4 : goal.returns-then-not-within-4
unfolding atom_row_ok
returns-then-not-within-4 c = let f = c.requires in
    simp (inside element (to_z-of_z f.element) c.within.ensures c.if-not-within.false-raw, inside isotope (to_z-of_z f.isotope) c.within-2.ensures c.if-not-within-2.false-raw, inside hydrogens (to_z-of_z f.hydrogens) c.within-3.ensures c.if-not-within-3.false-raw, outside charge (to_z-of_z f.charge) c.within-4.ensures c.if-not-within-4.true-raw)

pub returns-then-not-within-5 : goal.returns-then-not-within-5
unfolding atom_row_ok
returns-then-not-within-5 c = let f = c.requires in
    simp (inside element (to_z-of_z f.element) c.within.ensures c.if-not-within.false-raw, inside isotope (to_z-of_z f.isotope) c.within-2.ensures c.if-not-within-2.false-raw, inside hydrogens (to_z-of_z f.hydrogens) c.within-3.ensures c.if-not-within-3.false-raw, inside charge (to_z-of_z f.charge) c.within-4.ensures c.if-not-within-4.false-raw, outside extension (to_z-of_z f.extension) c.within-5.ensures c.if-not-within-5.true-raw)

pub returns-then-not-within-6 : goal.returns-then-not-within-6
unfolding atom_row_ok
returns-then-not-within-6 c = let f = c.requires in
    simp (inside element (to_z-of_z f.element) c.within.ensures c.if-not-within.false-raw, inside isotope (to_z-of_z f.isotope) c.within-2.ensures c.if-not-within-2.false-raw, inside hydrogens (to_z-of_z f.hydrogens) c.within-3.ensures c.if-not-within-3.false-raw, inside charge (to_z-of_z f.charge) c.within-4.ensures c.if-not-within-4.false-raw, inside extension (to_z-of_z f.extension) c.within-5.ensures c.if-not-within-5.false-raw, outside mark (to_z-of_z f.mark) c.within-6.ensures c.if-not-within-6.true-raw)

pub returns : goal.returns
unfolding atom_row_ok
returns c = let f = c.requires in
    simp (c.selected_ok.ensures, inside element (to_z-of_z f.element) c.within.ensures c.if-not-within.false-raw, inside isotope (to_z-of_z f.isotope) c.within-2.ensures c.if-not-within-2.false-raw, inside hydrogens (to_z-of_z f.hydrogens) c.within-3.ensures c.if-not-within-3.false-raw, inside charge (to_z-of_z f.charge) c.within-4.ensures c.if-not-within-4.false-raw, inside extension (to_z-of_z f.extension) c.within-5.ensures c.if-not-within-5.false-raw, inside mark (to_z-of_z f.mark) c.within-6.ensures c.if-not-within-6.false-raw)
    (simp (to_z-of_z f.element, to_z-of_z f.selected))
