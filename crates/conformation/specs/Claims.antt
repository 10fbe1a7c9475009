-- 02, P5: what the row of sides says, in words: "1 at each kind-2 bond whose two ends have their lowest marked neighbours on the same side, 2 if on opposite sides, else 0"
use Rattle.std.specs.Prelude.{ℕ, ◌<◌, ◌≤◌, ◌≡◌, List, ℤ}
use Rattle.kinds.specs.Kind.{double}
use Rattle.table.specs.Cells.{end1, end2, kind}
use Rattle.table.specs.Marks.{side}
use Rattle.conformation.specs.Sides.{other_end}

-- the atom w is a marked neighbour of the atom a, along one of m bonds, and lies on the side s of it: above (up) or below (down)
pub record Lies (bonds : List ℤ) (m a w s : ℕ) : Type 0 where
  pub bond : ℕ
  pub used : bond < m
  pub neighbour : other_end bonds a bond ≡ w
  pub placed : side bonds a bond ≡ s
  pub marked : 0 < s

-- "their lowest marked neighbours": no marked neighbour of the atom a has a lower number than w
pub record LowestMarked (bonds : List ℤ) (m a w s : ℕ) : Type 0 where
  pub lies : Lies bonds m a w s
  pub lowest : (v t : ℕ) → Lies bonds m a v t → w ≤ v

-- the atom a has no marked neighbour
abbrev pub NoneMarked : List ℤ → ℕ → ℕ → Type 0
NoneMarked bonds m a = (w s : ℕ) → ¬ Lies bonds m a w s

-- the cell of the bond b: what is said by each number
pub data Entry (bonds : List ℤ) (m b : ℕ) : ℕ → Type 0 where
  same_side : {x y s : ℕ} → kind bonds b ≡ double → LowestMarked bonds m (end1 bonds b) x s → LowestMarked bonds m (end2 bonds b) y s → Entry bonds m b 1
  opposite_sides : {x y s t : ℕ} → kind bonds b ≡ double → LowestMarked bonds m (end1 bonds b) x s → LowestMarked bonds m (end2 bonds b) y t → ¬ (s ≡ t) → Entry bonds m b 2
  not_double : ¬ (kind bonds b ≡ double) → Entry bonds m b 0
  first_unmarked : NoneMarked bonds m (end1 bonds b) → Entry bonds m b 0
  second_unmarked : NoneMarked bonds m (end2 bonds b) → Entry bonds m b 0
