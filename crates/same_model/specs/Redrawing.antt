-- 02, P4: what is claimed of "the same compound": P4's sentence as a fact, and the equivalence that stands behind it
use Rattle.std.specs.Prelude.{ℕ, ◌+◌, ◌<◌, ◌≡◌, Bool, true, not, List, length, eqb}
use Rattle.matching.specs.Enumeration.{Row, is_row}
use Rattle.table_graph.specs.Graph.{bond_sum, delocalized_flag}
use Rattle.same_model.specs.Same.{Molecule, is_placement, settled, same_cells, order_between, image, carries}

-- a renumbering of n atoms: each number below n is the image of one atom
pub record Renumbering (n : ℕ) (t : List ℕ) : Type 0 where
  pub size : length t ≡ n
  pub below : (a : ℕ) → a < n → image t a < n
  pub one : (a b : ℕ) → a < n → b < n → image t a ≡ image t b → a ≡ b

-- the row is a matching ("placement") of the molecule
pub record Placement (x : Molecule) (r : Row) : Type 0 where
  pub row : is_row x.m r ≡ true
  pub placed : is_placement x r ≡ true

-- "some placement of one and some placement of the other settle to the same molecule under some renumbering"
pub record Same (x y : Molecule) : Type 0 where
  pub row1 : Row
  pub row2 : Row
  pub renumbering : List ℕ
  pub counts : x.n ≡ y.n
  pub placement1 : Placement x row1
  pub placement2 : Placement y row2
  pub renumbers : Renumbering x.n renumbering
  pub carried : carries (settled x row1) (settled y row2) renumbering ≡ true

-- the sum of an atom's bonds in every settled drawing: its bond sum, and 1 more if it is delocalized ("kept")
abbrev pub settled_sum : Molecule → ℕ → ℕ
settled_sum x a = bond_sum x.bonds x.m a + delocalized_flag x.atoms x.bonds x.m a

-- a bond joins a and b
abbrev pub joined : Molecule → ℕ → ℕ → Bool
joined x a b = not (eqb (order_between x a b) 0)

-- a redrawing: some renumbering keeps atom cells, which atoms are joined, and each atom's settled sum
pub record Redrawing (x y : Molecule) : Type 0 where
  pub renumbering : List ℕ
  pub counts : x.n ≡ y.n
  pub renumbers : Renumbering x.n renumbering
  pub cells : (a : ℕ) → a < x.n → same_cells x y a (image renumbering a) ≡ true
  pub bonds : (a b : ℕ) → a < x.n → b < x.n → joined x a b ≡ joined y (image renumbering a) (image renumbering b)
  pub sums : (a : ℕ) → a < x.n → settled_sum x a ≡ settled_sum y (image renumbering a)
