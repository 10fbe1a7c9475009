-- auxiliary: a molecule as a matrix of orders while only the first bonds of its row are decided
use Rattle.std.specs.Prelude.{ℕ, ◌*◌, ◌+◌, ◌<◌, ◌≡◌, true, List, get_or, take, replicate, ℤ, eqb, ltb}
use Rattle.loops.specs.Loop.{pick, run}
use Rattle.table.specs.Cells.{end1, end2, kind}
use Rattle.kinds.specs.Kind.{elided, order}
use Rattle.matching.specs.Enumeration.{Row, is_row}
use Rattle.table_graph.specs.Graph.{matching_of}
use Rattle.table_graph.specs.Built.{bump}
use Rattle.same_model.specs.Same.{max_same}
use Rattle.same_drawing.specs.Drawing.{cells, drawn_order, with_bond}
use Rattle.same_open.specs.Open.{open_bond, Way, Goes}

-- what the bond k adds to a cell where the row is decided before `to`: its order after settling, or what an open bond adds
unfoldable pub part_order : List ℤ → List ℕ → List ℕ → ℕ → ℕ → ℕ
part_order bonds opened row to k = pick (ltb k to) (drawn_order bonds (get_or row k 0) k) (pick (eqb (get_or opened k 0) 1) open_bond (order (kind bonds k)))

-- the matrix with one bond more, at both of its places
unfoldable pub with_part : List ℤ → List ℕ → List ℕ → ℕ → ℕ → List ℕ → List ℕ
with_part bonds opened row to k o =
    let x = part_order bonds opened row to k in
    bump (bump o (max_same * end1 bonds k + end2 bonds k) x) (max_same * end2 bonds k + end1 bonds k) x

-- the molecule with its row decided before `to`, and with its whole row
unfoldable pub part_matrix : List ℤ → List ℕ → List ℕ → ℕ → ℕ → List ℕ
part_matrix bonds opened row to m = run (with_part bonds opened row to) 0 m (replicate cells 0)

unfoldable pub closed_matrix : List ℤ → List ℕ → ℕ → List ℕ
closed_matrix bonds row m = run (with_bond bonds row) 0 m (replicate cells 0)

-- the bonds that are marked as open are elided, and a matching chooses none but these
pub record Opens (atoms bonds : List ℤ) (n m : ℕ) (opened : List ℕ) : Type 0 where
  pub only : (k : ℕ) → k < m → get_or opened k 0 ≡ 1 → kind bonds k ≡ elided
  pub all : (s : Row) → is_row m s ≡ true → matching_of atoms bonds n m s ≡ true → (k : ℕ) → k < m → get_or s k 0 ≡ 1 → get_or opened k 0 ≡ 1

-- no matching that begins as the row does, up to `to`, has a way to the matrix q
pub record Barred (atoms bonds : List ℤ) (n m : ℕ) (q ok : List ℕ) (row : List ℕ) (to : ℕ) : Type 0 where
  pub none : (s : Row) → is_row m s ≡ true → matching_of atoms bonds n m s ≡ true → take to s ≡ take to row → (t : List ℕ) → Way (closed_matrix bonds s m) q n t → Goes ok n t → ⊥
