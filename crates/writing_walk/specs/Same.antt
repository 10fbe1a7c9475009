-- Lists that hold the same, and what stands open at an atom: what the round trip's claims say of bonds
use Rattle.std.specs.Prelude.{Bool, true, false, ◌&&◌, List, [], ◌∷◌, ℕ, ◌+◌, ◌≤◌, eqb, ltb, leb}
use Rattle.writing_walk.specs.Token.{Bond}
use Rattle.writing_walk.specs.Emit.{Slot, free, held}

-- how many pass a test
abbrev pub bit : Bool → ℕ
bit true = 1
bit false = 0

module _ {A : Type 0} where
  abbrev pub count : (A → Bool) → List A → ℕ
  count p [] = 0
  count p (x ∷ l) = bit (p x) + count p l

  -- what holds of each
  pub data All (P : A → Type 0) : List A → Type 0 where
    none : All P []
    more : {b : A} {l : List A} → P b → All P l → All P (b ∷ l)

-- how often v stands in the list; no number stands there twice
abbrev pub times : ℕ → List ℕ → ℕ
times v l = count (eqb v) l

abbrev pub Once : List ℕ → Type 0
Once l = (v : ℕ) → times v l ≤ 1

-- one list is the other in another order
pub data Perm : List Bond → List Bond → Type 0 where
  nil : Perm [] []
  cons : {x : Bond} {l m : List Bond} → Perm l m → Perm (x ∷ l) (x ∷ m)
  swap : {x y : Bond} {l m : List Bond} → Perm l m → Perm (x ∷ y ∷ l) (y ∷ x ∷ m)
  trans : {l m r : List Bond} → Perm l m → Perm m r → Perm l r

-- the bond is open as a bridge where the walk comes to the atom n: it begins before and does not end before
abbrev pub pending : ℕ → Bond → Bool
pending n b = ltb b.lo n && leb n b.hi

-- the bonds that the writer's places hold, and those of c among them
abbrev pub open_of : List Slot → List Bond
open_of [] = []
open_of (free ∷ t) = open_of t
open_of (held b ∷ t) = b ∷ open_of t

abbrev pub Within : List Bond → List Bond → Type 0
Within c l = (p : Bond → Bool) → count p c ≤ count p l
