-- 02, P5, P6 and P8: the checks that come late, after 10 in reading, and that belong to soundness: 20, 21 (Marks), 22 and 23; sound tables
use Rattle.std.specs.Prelude.{ℕ, ◌+◌, ◌<◌, ◌≡◌, ◌⊎◌, List, Bool, ◌&&◌, not, ℤ, eqb, leb, ltb}
use Rattle.loops.specs.Loop.{pick, each, run}
use Rattle.table.specs.Cells.{selected, hydrogens, mark, touches}
use Rattle.table.specs.Valid.{valid, enough}
use Rattle.table.specs.Marks.{none_crowded, none_stray}

-- how many of m bonds an atom has, to any neighbour; its hydrogens are none
abbrev pub count_bond : List ℤ → ℕ → ℕ → ℕ → ℕ
count_bond bonds a b k = k + pick (touches bonds a b) 1 0

unfoldable pub bond_degree : List ℤ → ℕ → ℕ → ℕ
bond_degree bonds m a = run (count_bond bonds a) 0 m 0

-- 22: "a selected atom with fewer than two bonds"
abbrev pub loose : List ℤ → List ℤ → ℕ → ℕ → Bool
loose atoms bonds m a = eqb (selected atoms a) 1 && ltb (bond_degree bonds m a) 2

unfoldable pub none_loose : List ℤ → List ℤ → ℕ → ℕ → Bool
none_loose atoms bonds n m = each (λ a. not (loose atoms bonds m a)) 0 n

-- the same in words: such an atom
pub record LooseAtom (atoms bonds : List ℤ) (n m : ℕ) : Type 0 where
  pub atom : ℕ
  pub used : atom < n
  pub is_selected : selected atoms atom ≡ 1
  pub bonds_few : bond_degree bonds m atom < 2

-- 23: "A marked atom is refused as 23 unless its bonds plus hydrogens are four with at most one hydrogen"
abbrev pub four_neighbours : List ℤ → List ℤ → ℕ → ℕ → Bool
four_neighbours atoms bonds m a = eqb (bond_degree bonds m a + hydrogens atoms a) 4 && leb (hydrogens atoms a) 1

abbrev pub unfit : List ℤ → List ℤ → ℕ → ℕ → Bool
unfit atoms bonds m a = ltb 0 (mark atoms a) && not (four_neighbours atoms bonds m a)

unfoldable pub none_unfit : List ℤ → List ℤ → ℕ → ℕ → Bool
none_unfit atoms bonds n m = each (λ a. not (unfit atoms bonds m a)) 0 n

-- the same in words: such an atom
pub record UnfitAtom (atoms bonds : List ℤ) (n m : ℕ) : Type 0 where
  pub atom : ℕ
  pub used : atom < n
  pub is_marked : 0 < mark atoms atom
  pub not_four : (bond_degree bonds m atom + hydrogens atoms atom ≡ 4 → ⊥) ⊎ (1 < hydrogens atoms atom)

-- the late checks in their order: the code of the first that the molecule fails, 0 if it passes all
unfoldable pub late_code : List ℤ → List ℤ → ℕ → ℕ → ℕ
late_code atoms bonds n m = pick (none_crowded bonds m) (pick (none_stray bonds m) (pick (none_loose atoms bonds n m) (pick (none_unfit atoms bonds n m) 0 23) 22) 21) 20

-- 01's "sound": valid, and no late check fails
unfoldable pub sound : List ℤ → List ℤ → ℕ → ℕ → Bool
sound atoms bonds n m = valid atoms bonds n m && eqb (late_code atoms bonds n m) 0

-- 01, When a call says no: 1, then 13
unfoldable pub check_of : List ℤ → List ℤ → ℕ → ℕ → ℕ
check_of atoms bonds n m = pick (enough atoms bonds) (pick (sound atoms bonds n m) 0 13) 1
