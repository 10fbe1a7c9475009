-- auxiliary: a search for the smallest renumbering that carries one square matrix onto another, atom by atom; no chemistry
use Rattle.std.specs.Prelude.{ℕ, ◌*◌, ◌+◌, ◌<◌, ◌≤◌, ◌≡◌, Bool, true, ◌&&◌, not, List, [], ◌∷◌, ◌++◌, length, get_or, take, eqb}
use Rattle.loops.specs.Loop.{each}
use Rattle.matching.specs.Enumeration.{passing}
use Rattle.matching.specs.Model.{some?, head_or}
use Rattle.same_model.specs.Same.{max_same, image, words}

-- a cell of a matrix with max_same columns
abbrev pub entry : List ℕ → ℕ → ℕ → ℕ
entry o a b = get_or o (max_same * a + b) 0

-- the atom a may go to d beside b: b did not go there, and the matrices agree
abbrev pub beside : List ℕ → List ℕ → List ℕ → ℕ → ℕ → ℕ → Bool
beside o1 o2 p a d b = not (eqb (image p b) d) && eqb (entry o1 a b) (entry o2 d (image p b))

-- the atom a may go to d, where the atoms before it went as p says
unfoldable pub placeable : List ℕ → List ℕ → List ℕ → List ℕ → ℕ → ℕ → Bool
placeable o1 o2 ok p a d = eqb (entry ok a d) 1 && each (beside o1 o2 p a d) 0 a

-- after those of p, atom by atom, all may go where the list says
unfoldable pub good_from : List ℕ → List ℕ → List ℕ → List ℕ → List ℕ → Bool
good_from o1 o2 ok p [] = true
good_from o1 o2 ok p (d ∷ s) = placeable o1 o2 ok p (length p) d && good_from o1 o2 ok (p ++ (d ∷ [])) s

-- all ways to go on with k atoms, the smallest first
unfoldable pub goods : List ℕ → List ℕ → List ℕ → ℕ → List ℕ → ℕ → List (List ℕ)
goods o1 o2 ok n p k = passing (good_from o1 o2 ok p) (words n k)

-- a search for the first of fs behind the first `from` cells: it says whether there is one, and writes it
pub record Solved (fs : List (List ℕ)) (n from : ℕ) (ren : List ℕ) (r : Bool) (ren' : List ℕ) : Type 0 where
  pub long : length ren' ≡ length ren
  pub kept : take from ren' ≡ take from ren
  pub told : r ≡ some? fs
  pub found : r ≡ true → take n ren' ≡ take from ren ++ head_or [] fs

-- the first `from` of n atoms have gone to numbers below n
pub record Prefix (n : ℕ) (ren : List ℕ) (from : ℕ) : Type 0 where
  pub few : n ≤ max_same
  pub upto : from ≤ n
  pub room : n ≤ length ren
  pub below : (b : ℕ) → b < from → get_or ren b 0 < n
