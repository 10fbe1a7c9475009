-- The withdrawal check, "Folding": marks and map numbers are left aside, and plain hydrogen atoms become hydrogens of their neighbours
use Rattle.std.specs.Prelude.{ℕ, ◌+◌, ◌*◌, ◌≤◌, List, Bool, ◌&&◌, not, length, get_or, set, ℤ, pos, eqb, ltb}
use Rattle.std.proofs.lemmas.List.Edits.{sets}
use Rattle.loops.specs.Loop.{pick, run, how_many}
use Rattle.kinds.specs.Kind.{single, is_mark}
use Rattle.table.specs.Limits.{atom_cells, bond_cells, ELEMENT, SELECTED, ISOTOPE, HYDROGENS, CHARGE, EXTENSION, MARK, KIND}
use Rattle.table.specs.Cells.{atom_place, bond_place, atom_cell, bond_cell, hydrogens, end1, end2, kind}
use Rattle.table.specs.declared.Bond.{Bond}
use Rattle.table.specs.Rows.{atom_row, cells_of, bond_cells_of}
use Rattle.table.specs.Valid.{Valid}
use Rattle.table.specs.Sound.{bond_degree}
use Rattle.table.specs.Orders.{bonds_at}
use Rattle.table_graph.specs.Graph.{bond_sum}
use Rattle.same_model.specs.Same.{Molecule, molecule, eq_z}

-- "every extension and every mark (P5, P8) becomes 0"
abbrev pub bare_atom : ℕ → List ℤ → List ℤ
bare_atom a t = set (set t (atom_place a EXTENSION) (pos 0)) (atom_place a MARK) (pos 0)

unfoldable pub bared_atoms : ℕ → List ℤ → List ℤ
bared_atoms n t = run bare_atom 0 n t

-- "(kinds 4 and 5 become 1)"
unfoldable pub bare_bond : ℕ → List ℤ → List ℤ
bare_bond b t = pick (is_mark (kind t b)) (set t (bond_place b KIND) (pos single)) t

unfoldable pub bared_bonds : ℕ → List ℤ → List ℤ
bared_bonds m t = run bare_bond 0 m t

abbrev pub bared : Molecule → Molecule
bared x = molecule (bared_atoms x.n x.atoms) (bared_bonds x.m x.bonds) x.n x.m

-- the neighbour of an atom with one bond: the other end of its first bond
abbrev pub other_end : List ℤ → ℕ → ℕ → ℕ
other_end bonds a b = pick (eqb (end1 bonds b) a) (end2 bonds b) (end1 bonds b)

unfoldable pub neighbour : List ℤ → ℕ → ℕ → ℕ
neighbour bonds m a = other_end bonds a (get_or (bonds_at bonds m a) 0 0)

-- "every plain hydrogen atom (element 1, no isotope, charge or hydrogens, not selected, one bond, of order 1, to an atom that is no hydrogen)"
abbrev pub is_cell : List ℤ → ℕ → ℕ → ℕ → Bool
is_cell t a f v = eq_z (atom_cell t a f) (pos v)

unfoldable pub plain_row : List ℤ → ℕ → Bool
plain_row t a = is_cell t a ELEMENT 1 && is_cell t a ISOTOPE 0 && is_cell t a CHARGE 0 && is_cell t a HYDROGENS 0 && is_cell t a SELECTED 0

unfoldable pub plain_hydrogen : List ℤ → List ℤ → ℕ → ℕ → Bool
plain_hydrogen t bonds m a = plain_row t a && eqb (bond_degree bonds m a) 1 && eqb (bond_sum bonds m a) 1 && not (is_cell t (neighbour bonds m a) ELEMENT 1)

-- "becomes one hydrogen of its neighbour, if that then has at most 9": of the table as it is when the atom's turn comes
unfoldable pub folds : List ℤ → ℕ → ℕ → List ℤ → Bool
folds bonds m a t = plain_hydrogen t bonds m a && ltb (hydrogens t (neighbour bonds m a)) 9

abbrev pub one_more : ℕ → List ℤ → List ℤ
one_more p t = set t (atom_place p HYDROGENS) (pos (hydrogens t p + 1))

unfoldable pub fold_into : List ℤ → ℕ → ℕ → List ℤ → List ℤ
fold_into bonds m a t = pick (folds bonds m a t) (one_more (neighbour bonds m a) t) t

-- "by ascending number": the atoms after the turns of all before a, and whether a goes
unfoldable pub folded_to : Molecule → ℕ → List ℤ
folded_to x a = run (fold_into x.bonds x.m) 0 a x.atoms

unfoldable pub goes : Molecule → ℕ → Bool
goes x a = folds x.bonds x.m a (folded_to x a)

-- an atom stays if it does not go, a bond if both its ends stay; those that stay are numbered anew, in their order
abbrev pub stays : Molecule → ℕ → Bool
stays x a = not (goes x a)

abbrev pub new_atom : Molecule → ℕ → ℕ
new_atom x a = how_many (stays x) 0 a

unfoldable pub bond_stays : Molecule → ℕ → Bool
bond_stays x b = stays x (end1 x.bonds b) && stays x (end2 x.bonds b)

abbrev pub new_bond : Molecule → ℕ → ℕ
new_bond x b = how_many (bond_stays x) 0 b

abbrev pub moved_bond : Molecule → ℕ → Bond
moved_bond x b = record { first = pos (new_atom x (end1 x.bonds b)); second = pos (new_atom x (end2 x.bonds b)); kind = bond_cell x.bonds b KIND }

-- rows of w cells, of those of n numbers that stay, each at its new number; cells after these are as they were
abbrev pub placed : ℕ → (ℕ → Bool) → (ℕ → List ℤ) → ℕ → List ℤ → List ℤ
placed w stays row a t = pick (stays a) (sets t (w * how_many stays 0 a) (row a)) t

unfoldable pub packed : ℕ → (ℕ → Bool) → (ℕ → List ℤ) → ℕ → List ℤ → List ℤ
packed w stays row n t = run (placed w stays row) 0 n t

-- the molecule of the atoms and bonds that stay
unfoldable pub merged : Molecule → Molecule
merged x =
    let t = folded_to x x.n in
    molecule (packed atom_cells (stays x) (λ a. cells_of (atom_row t a)) x.n t) (packed bond_cells (bond_stays x) (λ b. bond_cells_of (moved_bond x b)) x.m x.bonds) (new_atom x x.n) (new_bond x x.m)

-- "Folding": marks and extensions first, "then, by ascending number, every plain hydrogen atom"
abbrev pub folded : Molecule → Molecule
folded x = merged (bared x)

-- valid tables that hold the rows of all their atoms and bonds
pub record Complete (x : Molecule) : Type 0 where
  pub valid : Valid x.atoms x.bonds x.n x.m
  pub atoms_room : atom_cells * x.n ≤ length x.atoms
  pub bonds_room : bond_cells * x.m ≤ length x.bonds
