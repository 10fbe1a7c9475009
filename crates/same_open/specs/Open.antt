-- auxiliary: matrices whose bonds may have an open order, and renumberings from one to another as sets of candidates, in bits; no chemistry
use Rattle.std.specs.Prelude.{ℕ, ◌*◌, ◌+◌, ◌^◌, ◌/◌, ◌%◌, ◌<◌, ◌≤◌, ◌≡◌, Bool, true, ◌&&◌, not, List, get_or, eqb, ltb}
use Rattle.loops.specs.Loop.{pick}
use Rattle.same_model.specs.Same.{max_same, image}
use Rattle.same_place.specs.Place.{entry}

-- a cell from which on its order is open, and what an open bond adds to a cell
abbrev pub open_from : ℕ
open_from = 16

abbrev pub open_bond : ℕ
open_bond = 17

-- two cells may stand opposite one another: closed ones are equal; an open one stands opposite any bond
unfoldable pub agree : ℕ → ℕ → Bool
agree u w = pick (ltb u open_from && ltb w open_from) (eqb u w) (not (eqb u 0) && not (eqb w 0))

-- a cell drawn with fewer open bonds: equal where nothing is open, and some bond where something is
pub record Draws (o u : ℕ) : Type 0 where
  pub closed : u < open_from → u ≡ o
  pub opened : open_from ≤ u → 0 < o

-- a way from one matrix to another: n atoms go to n atoms, each to its own, and cells agree
pub record Way (p q : List ℕ) (n : ℕ) (t : List ℕ) : Type 0 where
  pub below : (a : ℕ) → a < n → image t a < n
  pub one : (a b : ℕ) → a < n → b < n → image t a ≡ image t b → a ≡ b
  pub cells : (a b : ℕ) → a < n → b < n → (a ≡ b → ⊥) → agree (entry p a b) (entry q (image t a) (image t b)) ≡ true

-- each atom goes where it may
abbrev pub Goes : List ℕ → ℕ → List ℕ → Type 0
Goes ok n t = (a : ℕ) → a < n → entry ok a (image t a) ≡ 1

-- the classes of cells: no bond, orders 1 to 3, open, any other
abbrev pub classes : ℕ
classes = 6

unfoldable pub class_of : ℕ → ℕ
class_of u = pick (ltb u 4) u (pick (ltb u open_from) 5 4)

-- a cell of a class may stand opposite another cell
unfoldable pub may_face : ℕ → ℕ → Bool
may_face c w = pick (eqb c 5) true (pick (eqb c 4) (not (eqb w 0)) (agree c w))

-- the digit d of a number in bits
unfoldable pub bit : ℕ → ℕ → ℕ
bit m d = m / 2 ^ d % 2

-- for each class and each atom d the atoms that may stand where a cell of the class leads from d, as bits
pub record Allowed (q : List ℕ) (n : ℕ) (allowed : List ℕ) : Type 0 where
  pub at : (c d e : ℕ) → c < classes → d < n → e < n → (e ≡ d → ⊥) → may_face c (entry q d e) ≡ true → bit (get_or allowed (max_same * c + d) 0) e ≡ 1

-- beside one another, atoms go where it is allowed
abbrev pub Faces : List ℕ → List ℕ → ℕ → List ℕ → Type 0
Faces p allowed n t = (a b : ℕ) → a < n → b < n → (a ≡ b → ⊥) → bit (get_or allowed (max_same * class_of (entry p a b) + image t a) 0) (image t b) ≡ 1

-- each atom goes to one of its candidates
pub record Among (p allowed cand : List ℕ) (n : ℕ) (t : List ℕ) : Type 0 where
  pub below : (a : ℕ) → a < n → image t a < n
  pub kept : (a : ℕ) → a < n → bit (get_or cand a 0) (image t a) ≡ 1
  pub faces : Faces p allowed n t

-- an image that is one of n
abbrev pub is_inside : List ℕ → ℕ → ℕ → Bool
is_inside l n a = ltb (get_or l a 0) n
