-- 02, P4: what a renumbering of a molecule is: the same atoms and bonds, with other atom numbers and the bonds in any order
use Rattle.std.specs.Prelude.{ℕ, ◌<◌, ◌≤◌, ◌≡◌, List, map, ℤ}
use Rattle.table.specs.Limits.{EXTENSION}
use Rattle.table.specs.Cells.{atom_cell}
use Rattle.writing_walk.specs.Token.{Bond, bond_between}
use Rattle.writing_walk.specs.Same.{Perm}
use Rattle.writing.specs.Write.{bond_list}
use Rattle.same_model.specs.Same.{image}
use Rattle.same_model.specs.Redrawing.{Renumbering}

-- a bond under a renumbering: the lower number is the first end, and a mark is turned where the ends change places
abbrev pub moved : List ℕ → Bond → Bond
moved t b = bond_between (image t b.lo) (image t b.hi) b.kind

-- tables of n atoms and m bonds, and tables that hold the same molecule under the renumbering t: each atom's cells (element to extension) stay, and the bonds are the same ones in some order
pub record Renumbered (t : List ℕ) (n m : ℕ) (atoms bonds atoms' bonds' : List ℤ) : Type 0 where
  pub renumbers : Renumbering n t
  pub cells : (a f : ℕ) → a < n → f ≤ EXTENSION → atom_cell atoms' (image t a) f ≡ atom_cell atoms a f
  pub permuted : Perm (bond_list bonds' m) (map (moved t) (bond_list bonds m))
