-- auxiliary: what filling in the hydrogens and counting the over-full atoms promise, from bond sums at hand
use Rattle.std.specs.Prelude.{Option, Some, None, ℕ, ◌+◌, ◌≡◌, List, get_or, set, ℤ, pos, eqb}
use Rattle.std.specs.Option.{is_some}
use Rattle.loops.specs.Loop.{pick, run}
use Rattle.valence.specs.Valence.{implied, overfull}
use Rattle.table.specs.Limits.{HYDROGENS}
use Rattle.table.specs.Cells.{atom_place, element, selected}
use Rattle.kekule.specs.First.{FirstIn}
use Rattle.reading.specs.Read.{ReadResult, refused, hydrogenated, overfull_atoms}

-- the hydrogens of one atom, by whether it stood outside brackets and by its bond sum
abbrev pub hydrogens_by : ℕ → ℕ → ℕ → List ℤ → List ℤ
hydrogens_by x sum a t = pick (eqb x 1) (set t (atom_place a HYDROGENS) (pos (implied (element t a) (selected t a) sum))) t

-- those of n atoms, by the bond sums
unfoldable pub hydrogenated_by : List ℕ → List ℕ → ℕ → List ℤ → List ℤ
hydrogenated_by outside sums n t = run (λ a. hydrogens_by (get_or outside a 0) (get_or sums a 0) a) 0 n t

-- 1 for an over-full atom, in the same way, and the number of them
abbrev pub overfull_by : ℕ → ℕ → List ℤ → ℕ → ℕ
overfull_by x sum t a = pick (eqb x 1) (overfull (element t a) (selected t a) sum) 0

unfoldable pub overfulls_by : List ℕ → List ℕ → ℕ → List ℤ → ℕ
overfulls_by outside sums n t = run (λ a k. k + overfull_by (get_or outside a 0) (get_or sums a 0) t a) 0 n 0

-- one atom has its hydrogens, and whether it is over-full is told
pub record AtomFilled (x sum a : ℕ) (t t' : List ℤ) (r : ℕ) : Type 0 where
  pub hydrogens : t' ≡ hydrogens_by x sum a t
  pub overfull : r ≡ overfull_by x sum t a

-- n atoms have theirs, and how many are over-full is told
pub record AtomsFilled (outside sums : List ℕ) (n : ℕ) (t t' : List ℤ) (r : ℕ) : Type 0 where
  pub hydrogens : t' ≡ hydrogenated_by outside sums n t
  pub overfull : r ≡ overfulls_by outside sums n t

-- the atoms have their hydrogens; how many are over-full is told where there is a matching, and none where there is none, and the row has the first one
pub record Completed (outside : List ℕ) (atoms bonds : List ℤ) (n m : ℕ) (row : List ℕ) (r : Option ℕ) (atoms' : List ℤ) (row' : List ℕ) : Type 0 where
  pub hydrogens : atoms' ≡ hydrogenated outside bonds m n atoms
  pub overfull : (k : ℕ) → r ≡ Some k → k ≡ overfull_atoms outside bonds m n atoms
  pub matched : FirstIn atoms' bonds n m row (is_some r) row'

-- the molecule with its count of over-full atoms, or 11 where it has no matching
abbrev pub placed_by : Option ℕ → List ℤ → List ℤ → ℕ → ℕ → ReadResult
placed_by (Some k) atoms bonds n m = record { code = 0; offset = 0; atom_count = n; bond_count = m; overfull = k; atoms = atoms; bonds = bonds }
placed_by None atoms bonds n m = refused 11 0 atoms bonds
