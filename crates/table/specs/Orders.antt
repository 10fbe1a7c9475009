-- 02, P8: the order of the bonds at an atom, and marks that are turned when two orders "differ by an odd number of swaps"
use Rattle.std.specs.Prelude.{ℕ, zero, suc, ◌+◌, ◌*◌, List, [], ◌∷◌, ◌++◌, map, Bool, get_or, set, ℤ, pos, eqb}
use Rattle.loops.specs.Loop.{pick, run}
use Rattle.parity.specs.Parity.{odd}
use Rattle.parity.specs.Mark.{mark_if}
use Rattle.table.specs.Limits.{MARK}
use Rattle.table.specs.Cells.{atom_place, hydrogens, mark, end2, touches}

-- of m bonds from the bond b on, those at the atom a, by ascending number
unfoldable pub bonds_from : List ℤ → ℕ → ℕ → ℕ → List ℕ
bonds_from bonds a b zero = []
bonds_from bonds a b (suc m) = pick (touches bonds a b) (b ∷ bonds_from bonds a (suc b) m) (bonds_from bonds a (suc b) m)

unfoldable pub bonds_at : List ℤ → ℕ → ℕ → List ℕ
bonds_at bonds m a = bonds_from bonds a 0 m

-- the rank of the virtual hydrogen, where there is one: behind the preceding atom, which has rank 0, and before all others
abbrev pub hydrogen_rank : ℕ → List ℕ
hydrogen_rank h = pick (eqb h 1) (1 ∷ []) []

-- "The stored mark refers to the hydrogen first and then bonds by ascending number": the ranks, in that order, by which another order puts them
abbrev pub ranks_at : (ℕ → ℕ) → List ℤ → List ℤ → ℕ → ℕ → List ℕ
ranks_at rank atoms bonds m a = hydrogen_rank (hydrogens atoms a) ++ map rank (bonds_at bonds m a)

-- the two orders "differ by an odd number of swaps" (parity's `sorting-swaps`: every number of swaps that sorts the ranks is odd)
unfoldable pub turns : (ℕ → ℕ) → List ℤ → List ℤ → ℕ → ℕ → Bool
turns rank atoms bonds m a = odd (ranks_at rank atoms bonds m a)

-- the mark of the atom a, turned where they do; rank tells the place of each bond at each atom
unfoldable pub turned_mark : (ℕ → ℕ → ℕ) → List ℤ → List ℤ → ℕ → ℕ → ℕ
turned_mark rank atoms bonds m a = mark_if (turns (rank a) atoms bonds m a) (mark atoms a)

abbrev pub turn_mark : (ℕ → ℕ → ℕ) → List ℤ → ℕ → ℕ → List ℤ → List ℤ
turn_mark rank bonds m a t = set t (atom_place a MARK) (pos (turned_mark rank t bonds m a))

-- the marks of n atoms
unfoldable pub turn_marks : (ℕ → ℕ → ℕ) → List ℤ → ℕ → ℕ → List ℤ → List ℤ
turn_marks rank bonds m n t = run (turn_mark rank bonds m) 0 n t

-- what a list of two numbers for each bond says of the bond b at the atom a: the first at its first end, the second at its second end
abbrev pub at_end : List ℕ → List ℤ → ℕ → ℕ → ℕ
at_end l bonds a b = get_or l (2 * b + pick (eqb (end2 bonds b) a) 1 0) 0
