-- auxiliary: what the candidates of an atom leave to a neighbour, for a `requires` and an `ensures`
use Rattle.std.specs.Prelude.{ℕ, ◌+◌, ◌*◌, ◌<◌, ◌≡◌, Bool, false, List, get_or}
use Rattle.same_model.specs.Same.{max_same}
use Rattle.same_open.specs.Open.{bit}

-- the atom e is allowed beside some atom of a mask, by a class
abbrev pub Supported : List ℕ → ℕ → ℕ → ℕ → ℕ → Type 0
Supported allowed n mask c e = (d : ℕ) × (d < n) × (bit mask d ≡ 1) × (bit (get_or allowed (max_same * c + d) 0) e ≡ 1)

-- a set holds all of these
abbrev pub Reaches : List ℕ → ℕ → ℕ → ℕ → ℕ → Type 0
Reaches allowed n mask c r = (e : ℕ) → Supported allowed n mask c e → bit r e ≡ 1

-- of the candidates of b those with a property are left, those of other atoms stay; where it is told that none is left there is none
pub record Leaves (next : List ℕ) (b : ℕ) (P : ℕ → Type 0) (r : Bool) (next' : List ℕ) : Type 0 where
  pub at : (e : ℕ) → bit (get_or next b 0) e ≡ 1 → P e → bit (get_or next' b 0) e ≡ 1
  pub others : (a : ℕ) → (a ≡ b → ⊥) → get_or next' a 0 ≡ get_or next a 0
  pub none : r ≡ false → (e : ℕ) → bit (get_or next b 0) e ≡ 1 → P e → ⊥
