-- auxiliary: the numbers of bonds of all atoms, counted in one pass over the bonds, and the checks 22 and 23 by them
use Rattle.std.specs.Prelude.{ℕ, ◌+◌, ◌<◌, ◌≤◌, List, Bool, ◌&&◌, ◌||◌, not, get_or, set, ℤ, eqb, leb, ltb}
use Rattle.loops.specs.Loop.{pick, each}
use Rattle.table.specs.Limits.{max_bonds}
use Rattle.table.specs.Cells.{selected, hydrogens, mark, end1, end2}
use Rattle.table.specs.Sound.{none_loose, none_unfit}

-- one bond more at an atom
abbrev pub counted : List ℕ → ℕ → List ℕ
counted degrees a = set degrees a (get_or degrees a 0 + 1)

-- each of m bonds has two ends, in their order and below len
pub record Ends (bonds : List ℤ) (m len : ℕ) : Type 0 where
  pub few : m ≤ max_bonds
  pub order : (b : ℕ) → b < m → end1 bonds b < end2 bonds b
  pub second : (b : ℕ) → b < m → end2 bonds b < len

-- an atom is neither selected nor marked
abbrev pub plain : List ℤ → ℕ → Bool
plain atoms a = not (eqb (selected atoms a) 1 || ltb 0 (mark atoms a))

-- an atom with d bonds is not selected, or has two; is not marked, or has four neighbours, at most one of them a hydrogen
abbrev pub tight : List ℤ → ℕ → ℕ → Bool
tight atoms a d = not (eqb (selected atoms a) 1 && ltb d 2)

unfoldable pub fit : List ℤ → ℕ → ℕ → Bool
fit atoms a d = not (ltb 0 (mark atoms a) && not (eqb (d + hydrogens atoms a) 4 && leb (hydrogens atoms a) 1))

-- 22, then 23, by the numbers of bonds
unfoldable pub degrees_code : List ℤ → List ℕ → ℕ → ℕ
degrees_code atoms degrees n = pick (each (λ a. tight atoms a (get_or degrees a 0)) 0 n) (pick (each (λ a. fit atoms a (get_or degrees a 0)) 0 n) 0 23) 22

unfoldable pub counts_code : List ℤ → List ℤ → ℕ → ℕ → ℕ
counts_code atoms bonds n m = pick (none_loose atoms bonds n m) (pick (none_unfit atoms bonds n m) 0 23) 22
