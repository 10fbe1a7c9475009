-- What the keys of bonds tell after a text was read.
use Prim.Native.Nat.{ℕ, ◌≤◌, ◌<◌}
use mathlib.Core.Path.{◌≡◌}
use mathlib.Core.List.{List}
use lib.IntN.{ℤ}
use Rattle.ids.specs.Limits.{max_text}
use Rattle.table.specs.Cells.{end1, end2}
use Rattle.table.specs.Orders.{at_end}

-- of m bonds: their ends are in order; no two have the same key at an atom, unless it is 0; one with the key 0 leads to a later atom than all before it; and keys stand in a text
pub record Told (keys : List ℕ) (bonds : List ℤ) (m : ℕ) : Type 0 where
  pub order : (b : ℕ) → b < m → end1 bonds b < end2 bonds b
  pub apart : (a b c : ℕ) → (b ≡ c → ⊥) → 0 < at_end keys bonds a b → at_end keys bonds a b ≡ at_end keys bonds a c → ⊥
  pub later : (a b c : ℕ) → b < c → c < m → at_end keys bonds a c ≡ 0 → end2 bonds b < end2 bonds c
  pub short : (a b : ℕ) → at_end keys bonds a b ≤ max_text
