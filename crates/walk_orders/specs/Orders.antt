-- auxiliary: the bonds at an atom by their numbers in a list, and how writing and reading rank them, for what the round trip says of tetrahedral marks (02, P8)
use Rattle.std.specs.Prelude.{ℕ, suc, Bool, cond, List, [], ◌∷◌, ◌++◌, get_or}
use Rattle.writing_walk.specs.Token.{Bond, bond}
use Rattle.writing_walk.specs.Emit.{pre}
use Rattle.writing_walk.specs.Walk.{forest_of, place, renumber}
use Rattle.writing_walk.specs.Flat.{ups}
use Rattle.writing_walk.specs.Keyed.{Keys, child_keys, index_of}
use Rattle.writing_walk.specs.Ranks.{touches, other_end, key_at, walk_rank, text_rank}

-- the bond with a number
abbrev pub bond_at : List Bond → ℕ → Bond
bond_at l b = get_or l b (bond 0 0 0)

-- the numbers, counted from b on, of the bonds of the list at the atom x, ascending
abbrev pub numbers_from : ℕ → List Bond → ℕ → List ℕ
numbers_from x [] b = []
numbers_from x (c ∷ l) b = cond (touches x c) (b ∷ numbers_from x l (suc b)) (numbers_from x l (suc b))

unfoldable pub numbers_at : ℕ → List Bond → List ℕ
numbers_at x l = numbers_from x l 0

-- "The stored mark refers to the hydrogen first": its rank, where there is one, and those of the bonds
abbrev pub with_hydrogen : Bool → List ℕ → List ℕ
with_hydrogen h l = cond h (1 ∷ []) [] ++ l

-- how the writer ranks, at the atom v of n, the bond of bs with the number b
unfoldable pub writer_rank : ℕ → List Bond → ℕ → ℕ → ℕ
writer_rank n bs v b =
    let order : List ℕ = pre (forest_of n bs) in
    walk_rank n (ups (forest_of n bs) 0 0) (place order v) (place order (other_end v (bond_at bs b)))

-- how the reader ranks, at the atom x, the bond of those read with the number c; ks: their keys; clock: the times as they were told
unfoldable pub reader_rank : (ℕ → ℕ) → ℕ → List Bond → List Keys → ℕ → ℕ → ℕ
reader_rank clock big read ks x c = text_rank big x (clock (key_at x (bond_at read c) (get_or ks c child_keys))) (bond_at read c).hi

-- the number, among the bonds read, of the bond of bs with the number b
unfoldable pub new_number : ℕ → List Bond → List Bond → ℕ → ℕ
new_number n bs read b = index_of (renumber (pre (forest_of n bs)) (bond_at bs b)) read
