-- auxiliary: a list that sends the atoms of one side to others of it and keeps all that the search looks at
use Rattle.std.specs.Prelude.{ℕ, ◌<◌, ◌≡◌, Bool, true, ◌&&◌, not, List, eqb}
use Rattle.loops.specs.Loop.{pick, each}
use Rattle.same_place.specs.Place.{entry}
use Rattle.same_keys.specs.Keys.{at}

-- what two atoms ask of it: who may go to the second one may go to its image, and the cell between the two is that between their images
abbrev pub like_pair : List ℕ → List ℕ → List ℕ → ℕ → ℕ → Bool
like_pair o2 ok tau a b = eqb (entry ok a (at tau b)) (entry ok a b) && pick (eqb a b) true (not (eqb (at tau a) (at tau b)) && eqb (entry o2 (at tau a) (at tau b)) (entry o2 a b))

abbrev pub like_row : List ℕ → List ℕ → List ℕ → ℕ → ℕ → Bool
like_row o2 ok tau n a = each (like_pair o2 ok tau a) 0 n

-- an atom that was placed stays
abbrev pub is_fixed : List ℕ → List ℕ → ℕ → Bool
is_fixed tau ren b = eqb (at tau (at ren b)) (at ren b)

-- all of it, for the atoms before `from` as ren places them
pub record Like (o2 ok : List ℕ) (n : ℕ) (tau ren : List ℕ) (from : ℕ) : Type 0 where
  pub below : (a : ℕ) → a < n → at tau a < n
  pub pairs : (a b : ℕ) → a < n → b < n → like_pair o2 ok tau a b ≡ true
  pub fixed : (b : ℕ) → b < from → at tau (at ren b) ≡ at ren b
