-- auxiliary: the bonds that the walk does not use, in three arrays (01, Writing: they become bridges)
use Rattle.std.specs.Prelude.{ℕ, suc, ◌-◌, ◌<◌, ◌≤◌, ◌≡◌, Bool, List, length, get_or, set, eqb}
use Rattle.loops.specs.Loop.{pick, up_to}
use Rattle.writing_walk.specs.Token.{Bond}
use Rattle.writing_walk.specs.Emit.{pre}
use Rattle.writing_walk.specs.Walk.{forest_of, place, renumber}
use Rattle.writing_walk.specs.Flat.{ups}

-- three arrays, and how many of their places are used
pub record BondArrays : Type 0 where
  pub los : List ℕ
  pub his : List ℕ
  pub kinds : List ℕ
  pub used : ℕ

abbrev pub bond_arrays : List ℕ → List ℕ → List ℕ → ℕ → BondArrays
bond_arrays l h k c = record { los = l; his = h; kinds = k; used = c }

-- a bond in walk numbers that joins an atom to its parent
abbrev pub tree_bond : List ℕ → Bond → Bool
tree_bond up b = eqb (get_or up b.hi 0) (suc b.lo)

-- a bond that is none is added
unfoldable pub add_bond : List ℕ → Bond → BondArrays → BondArrays
add_bond up b g = pick (tree_bond up b) g (bond_arrays (set g.los g.used b.lo) (set g.his g.used b.hi) (set g.kinds g.used b.kind) (suc g.used))

-- the bond b in walk numbers
unfoldable pub in_walk : (ℕ → Bond) → ℕ → ℕ → ℕ → Bond
in_walk bonds n m b = renumber (pre (forest_of n (up_to bonds 0 m))) (bonds b)

-- the walk numbers plus 1, and the parents' walk numbers plus 1, of a walk along a list of bonds
pub record Numbered (bs : List Bond) (n : ℕ) (v u : List ℕ) : Type 0 where
  pub number : (a : ℕ) → a < n → get_or v a 0 ≡ suc (place (pre (forest_of n bs)) a)
  pub up : (x : ℕ) → x < n → get_or u x 0 ≡ get_or (ups (forest_of n bs) 0 0) x 0
  pub below : (a : ℕ) → a < n → place (pre (forest_of n bs)) a < n
  pub numbers : n ≤ length v
  pub ups : n ≤ length u

-- the arrays have room for m bonds
pub record BondRoom (m : ℕ) (l h k : List ℕ) : Type 0 where
  pub los : m ≤ length l
  pub his : m ≤ length h
  pub kinds : m ≤ length k

-- the mark of a walk number that is an end of several bonds
abbrev pub many : ℕ
many = 65535

-- the mark of an end of the bond i, from the mark before
unfoldable pub end_mark : ℕ → ℕ → ℕ
end_mark m i = pick (eqb m 0) (suc i) many

-- m is the mark of an end of the bond i
pub record Mark (m i : ℕ) : Type 0 where
  pub some : 0 < m
  pub only : m < many → m ≡ suc i

-- m is the number plus 1 of one of the first k bonds, and x is an end of it
pub record Single (l h : List ℕ) (k x m : ℕ) : Type 0 where
  pub within : m ≤ k
  pub low : (get_or h (m - 1) 0 ≡ x → ⊥) → get_or l (m - 1) 0 ≡ x

-- the ends of the first k bonds are marked in an array by walk number: the number plus 1 of the only bond with that end, or many
pub record Marked (marks l h : List ℕ) (k : ℕ) : Type 0 where
  pub los : (i : ℕ) → i < k → Mark (get_or marks (get_or l i 0) 0) i
  pub his : (i : ℕ) → i < k → Mark (get_or marks (get_or h i 0) 0) i
  pub single : (x : ℕ) → 0 < get_or marks x 0 → get_or marks x 0 < many → Single l h k x (get_or marks x 0)
