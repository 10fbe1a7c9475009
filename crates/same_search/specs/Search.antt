-- auxiliary: what the search for the smallest renumbering is asked with, and what a search under a budget tells
use Rattle.std.specs.Prelude.{ℕ, ◌<◌, ◌/◌, ◌%◌, ◌≡◌, Bool, true, false, ◌&&◌, not, List, [], length, take, eqb}
use Rattle.same_model.specs.Same.{max_same}
use Rattle.same_place.specs.Place.{good_from, placeable, Solved}
use Rattle.same_keys.specs.Keys.{at}
use Rattle.same_finer.specs.Finer.{Weighed, Keeps}

-- what a search under a budget tells: nothing where none of it is left
pub record Trial (fs : List (List ℕ)) (n from : ℕ) (ren : List ℕ) (found : Bool) (left : ℕ) (ren' : List ℕ) : Type 0 where
  pub long : length ren' ≡ length ren
  pub kept : take from ren' ≡ take from ren
  pub told : found ≡ true → Solved fs n from ren true ren'
  pub absent : found ≡ false → 0 < left → fs ≡ []

-- the weights of both matrices, atoms that were placed rightly, and keys that are kept
pub record Level (o1 o2 ok w1 w2 k1 k2 : List ℕ) (n : ℕ) (ren : List ℕ) (from : ℕ) : Type 0 where
  pub weighed1 : Weighed o1 n w1
  pub weighed2 : Weighed o2 n w2
  pub good : good_from o1 o2 ok [] (take from ren) ≡ true
  pub keeps : Keeps o1 o2 ok n ren from k1 k2

-- an atom may come next, as far as is seen
abbrev pub hopeful : List ℕ → List ℕ → List ℕ → List ℕ → List ℕ → List ℕ → List ℕ → ℕ → ℕ → Bool
hopeful o1 o2 ok k1 k2 dead ren from d = not (eqb (at dead d) 1) && eqb (at k1 from) (at k2 d) && placeable o1 o2 ok ren from d

-- a place of the matrix of atoms that may go to one another: their keys are equal
abbrev pub agreeing : List ℕ → List ℕ → List ℕ → ℕ → Bool
agreeing ok k1 k2 i = not (eqb (at ok i) 1 && not (eqb (at k1 (i / max_same)) (at k2 (i % max_same))))
