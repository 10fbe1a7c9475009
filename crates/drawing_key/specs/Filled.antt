-- auxiliary: what the buffers hold that the keys are made in
use Rattle.std.specs.Prelude.{ℕ, ◌+◌, ◌≤◌, ◌≡◌, List, ℤ, length, replicate}
use Rattle.same_keys.specs.Keys.{at}
use Rattle.drawing_key.specs.Key.{cells_number, hashed}

-- the key that an atom begins with, from the bond sums, the flags of delocalized atoms and the degrees
abbrev pub sum_key : List ℤ → List ℕ → List ℕ → List ℕ → ℕ → ℕ
sum_key atoms sums flags degrees a = hashed (cells_number atoms a) (at sums a + at flags a) (at degrees a)

-- every cell of a list holds one value, and n cells are there
pub record Even (v n : ℕ) (l : List ℕ) : Type 0 where
  pub even : l ≡ replicate (length l) v
  pub room : n ≤ length l
