-- auxiliary: what shows two molecules to be redrawings of one another: the image in the second of each atom and of each bond of the first
use Rattle.std.specs.Prelude.{ℕ, ◌+◌, ◌<◌, ◌≡◌, Bool, true, List, [], get_or, ℤ, eqb}
use Rattle.table.specs.Cells.{end1, end2}
use Rattle.same_model.specs.Same.{Molecule, same_cells, joins, image}
use Rattle.same_model.specs.Redrawing.{settled_sum}
use Rattle.same_drawing.specs.Drawing.{atoms_only}

-- the first n numbers of a list are below n, and no two are equal
pub record Permutes (n : ℕ) (t : List ℕ) : Type 0 where
  pub below : (a : ℕ) → a < n → image t a < n
  pub one : (a b : ℕ) → a < n → b < n → image t a ≡ image t b → a ≡ b

-- the images t of the atoms and u of the bonds show that y is a redrawing of x
pub record Shows (x y : Molecule) (t u : List ℕ) : Type 0 where
  pub atoms : x.n ≡ y.n
  pub bonds : x.m ≡ y.m
  pub renumbers : Permutes x.n t
  pub reorders : Permutes x.m u
  pub cells : (a : ℕ) → a < x.n → same_cells x y a (image t a) ≡ true
  pub sums : (a : ℕ) → a < x.n → settled_sum x a ≡ settled_sum y (image t a)
  pub ends : (k : ℕ) → k < x.m → joins y (image t (end1 x.bonds k)) (image t (end2 x.bonds k)) (image u k) ≡ true

-- bonds with no atoms, for the comparison of their ends
abbrev pub bonds_only : List ℤ → Molecule
bonds_only bonds = record { atoms = []; bonds = bonds; n = 0; m = 0 }

-- the cells of an atom match those of its image
abbrev pub cells_kept : List ℤ → List ℤ → List ℕ → ℕ → Bool
cells_kept atoms1 atoms2 t a = same_cells (atoms_only atoms1) (atoms_only atoms2) a (image t a)

-- the image of a bond joins the images of its ends
abbrev pub ends_kept : List ℤ → List ℤ → List ℕ → List ℕ → ℕ → Bool
ends_kept bonds1 bonds2 t u k = joins (bonds_only bonds2) (image t (end1 bonds1 k)) (image t (end2 bonds1 k)) (image u k)

-- a number of an atom is that of its image
abbrev pub numbers_kept : List ℕ → List ℕ → List ℕ → ℕ → Bool
numbers_kept l r t a = eqb (get_or l a 0) (get_or r (image t a) 0)

-- the settled sum of an atom is that of its image
abbrev pub sums_kept : Molecule → Molecule → List ℕ → ℕ → Bool
sums_kept x y t a = eqb (settled_sum x a) (settled_sum y (image t a))

-- the settled sum of an atom, from its bond sum and its flag
abbrev pub sum_at : List ℕ → List ℕ → ℕ → ℕ
sum_at sums flags a = get_or sums a 0 + get_or flags a 0

-- a list that holds the settled sums of a molecule
pub record Settled (x : Molecule) (l : List ℕ) : Type 0 where
  pub at : (a : ℕ) → a < x.n → get_or l a 0 ≡ settled_sum x a
