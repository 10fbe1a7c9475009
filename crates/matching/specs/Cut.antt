-- auxiliary: a reason why no matching is left (Tutte), for the certified search: each atom has a label; 0 marks the cut, and no free bond joins two other labels
use Rattle.std.specs.Prelude.{Bool, true, false, ◌&&◌, ◌||◌, not, List, [], ◌∷◌, ℕ, zero, suc, eqb, get_or, set}
use Rattle.loops.specs.Loop.{pick}
use Rattle.matching.specs.Graph.{Bond, count_if}
use Rattle.matching.specs.Model.{free}

-- how many atoms with the label i have no partner
unfoldable pub cnt : List ℕ → List ℕ → ℕ → ℕ
cnt [] ls i = 0
cnt (x ∷ xs) [] i = 0
cnt (x ∷ xs) (l ∷ ls) i = count_if (eqb x 1 && eqb l i) (cnt xs ls i)

unfoldable pub odd? : ℕ → Bool
odd? zero = false
odd? (suc n) = not (odd? n)

-- how many of the labels 1 to n have an odd number of such atoms
unfoldable pub odds : List ℕ → List ℕ → ℕ → ℕ
odds need labs zero = 0
odds need labs (suc n) = count_if (odd? (cnt need labs (suc n))) (odds need labs n)

-- one atom more: whether the number at its label is odd turns
abbrev pub flips : List ℕ → List ℕ → ℕ → List Bool → List Bool
flips need labs v odd = pick (eqb (get_or need v 0) 1) (set odd (get_or labs v 0) (not (get_or odd (get_or labs v 0) false))) odd

-- how many of the labels 1 to n are marked
unfoldable pub marks : List Bool → ℕ → ℕ
marks odd zero = 0
marks odd (suc n) = count_if (get_or odd (suc n) false) (marks odd n)

-- the bond has an end in the cut, or joins two atoms of one label
abbrev pub fine : List ℕ → Bond → Bool
fine labs b =
    eqb (get_or labs b.end1 0) 0 || eqb (get_or labs b.end2 0) 0 || (eqb (get_or labs b.end1 0) (get_or labs b.end2 0) && not (eqb b.end1 b.end2))

unfoldable pub all_fine : List ℕ → List ℕ → List Bond → Bool
all_fine need labs [] = true
all_fine need labs (b ∷ bs) = (not (free b need) || fine labs b) && all_fine need labs bs
