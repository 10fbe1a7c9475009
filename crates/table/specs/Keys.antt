-- auxiliary: the two ends of a bond as one number, by which bonds are compared
use Rattle.std.specs.Prelude.{ℕ, ◌+◌, ◌*◌, ◌-◌, ◌<◌, ◌≡◌, List, length, ℤ, pos}
use Rattle.table.specs.Limits.{FIRST, SECOND}
use Rattle.table.specs.Cells.{bond_place, bond_cell, end1, end2}

-- both ends of the bond b stand in the table, and neither is negative
pub record BondEnds (t : List ℤ) (b : ℕ) : Type 0 where
  pub inside : bond_place b SECOND < length t
  pub first : bond_cell t b FIRST ≡ pos (end1 t b)
  pub second : bond_cell t b SECOND ≡ pos (end2 t b)

-- the keys of bonds in their usual order ascend: by the second end, and from the highest first end down
abbrev pub key_of : ℕ → ℕ → ℕ
key_of first second = second * 65536 + (65535 - first)

abbrev pub ends_key : List ℤ → ℕ → ℕ
ends_key t b = key_of (end1 t b) (end2 t b)
