-- auxiliary: the marks as they are written, in an array, and the ranks of bonds that turn them (02, P8)
use Rattle.std.specs.Prelude.{ℕ, ◌+◌, ◌*◌, ◌<◌, ◌≤◌, ◌≡◌, Bool, List, length, get_or, set, ℤ, eqb}
use Rattle.table.specs.Cells.{mark, end1, end2}
use Rattle.writing_walk.specs.Parents.{walk_rank}
use Rattle.writing.specs.Write.{written_rank, marks_written}

-- an atom without a mark
abbrev pub unmarked : List ℤ → ℕ → Bool
unmarked atoms a = eqb (mark atoms a) 0

-- the two ranks of the bond b are replaced; x and y: the walk numbers of its first and of its second end
abbrev pub with_ranks : ℕ → List ℕ → ℕ → ℕ → ℕ → List ℕ → List ℕ
with_ranks n up x y b ranks = set (set ranks (2 * b) (walk_rank n up x y)) (2 * b + 1) (walk_rank n up y x)

-- two ranks for each of the first k bonds of a molecule: at its first and at its second end
pub record Ranked (bonds : List ℤ) (n m k : ℕ) (ranks : List ℕ) : Type 0 where
  pub first : (b : ℕ) → b < k → get_or ranks (2 * b) 0 ≡ written_rank bonds n m (end1 bonds b) b
  pub second : (b : ℕ) → b < k → get_or ranks (2 * b + 1) 0 ≡ written_rank bonds n m (end2 bonds b) b

-- an array holds each atom's mark as it is written
pub record Turned (atoms bonds : List ℤ) (n m : ℕ) (written : List ℕ) : Type 0 where
  pub long : n ≤ length written
  pub marks_at : (a : ℕ) → a < n → get_or written a 0 ≡ mark (marks_written atoms bonds n m) a
